-- The whole clause of a run of the service.
use Rattle.std.specs.Prelude.{◌≡◌, ◌⊎◌, ℕ, List, [], ◌∷◌, codes}
use Rattle.dm_types.specs.declared.kinds.DiskKind.{DiskKind}
use Rattle.dm_disk_model.specs.Disk.{History as Clock}
use Rattle.dm_kept.specs.Files.{Says}
use Rattle.dm_report.specs.Said.{Said, only}
use Rattle.dm_report.specs.declared.verdict.Verdict.TheVariants.{BadWords}
use Rattle.dm_words.specs.Asked.{Asks, Serves}
use Rattle.dm_does.specs.Explaining.{Telling}
use Rattle.dm_does.specs.Printing.{Outputs, Prints}
use Rattle.dm_does.specs.World.{World}
use Rattle.dm_past.specs.Past.{Past}
use Rattle.dm_session.specs.Explaining.{Outside, ServeRuns}
use Rattle.dm_session.specs.Serving.{Line}

-- the words ask for the service on this port
abbrev pub AsksServe : List (List ℕ) → ℕ → Type 0
AsksServe words port = Asks words (Serves port)

-- the first word is `serve`
abbrev pub BeginsServe : List (List ℕ) → Type 0
BeginsServe [] = ⊥
BeginsServe (first ∷ rest) = first ≡ codes "serve"

-- the words ask for no service, and nothing was done; so no accept failed
pub record WasRefused (accepts : Type 0) (words : List (List ℕ)) (before after : World) (past past' : Past) (line line' : Line) (said : Said) : Type 0 where
  pub none : (port : ℕ) → AsksServe words port → ⊥
  pub said_is : said ≡ only BadWords
  pub same : after ≡ before
  pub line_is : line' ≡ line
  pub none_failed : accepts
  pub past_is : past' ≡ past

-- the words ask for the service, and this is what a session made of the disk, the history and the connections
pub record WasServed {D O : Type 0} (outside : Outside) (clock : D → Clock) (counts : D → DiskKind → ℕ) (says : O → Says) (origin : O) (words : List (List ℕ)) (at : ℕ) (before after : World) (past past' : Past) (far far' : ℕ) (line line' : Line) (requests : ℕ) (said : Said) : Type 0 where
  pub port : ℕ
  pub asks : AsksServe words port
  pub runs : ServeRuns outside clock counts says origin at before after past past' far far' line line' requests said

abbrev pub ServesWords : {D O : Type 0} → Outside → (D → Clock) → (D → DiskKind → ℕ) → (O → Says) → O → List (List ℕ) → ℕ → World → World → Past → Past → ℕ → ℕ → Line → Line → ℕ → Said → Type 0
ServesWords outside clock counts says origin words at before after past past' far far' line line' requests said =
    WasRefused outside.accepts words before after past past' line line' said ⊎ WasServed outside clock counts says origin words at before after past past' far far' line line' requests said

-- One moment and one thing that is said explain all that is seen of a run.
pub record ServeExplains {D O : Type 0} (outside : Outside) (tells : Telling) (clock : D → Clock) (counts : D → DiskKind → ℕ) (says : O → Says) (origin : O) (words : List (List ℕ)) (moment : ℕ) (before after : World) (past past' : Past) (far far' : ℕ) (line line' : Line) (requests : ℕ) (seen seen' : Outputs) (status : ℕ) : Type 0 where
  pub said : Said
  pub at : ℕ
  pub at_is : tells.clock → at ≡ moment
  pub prints : Prints tells.outputs seen seen' said status
  pub serves : ServesWords outside clock counts says origin words at before after past past' far far' line line' requests said
