-- A run of the service is one over which the promise over all runs goes on.
use Rattle.std.proofs.Common.{inl, inr, ℕ, List, sym, subst}
use Rattle.dm_types.specs.declared.kinds.DiskKind.{DiskKind}
use Rattle.dm_disk_model.specs.Disk.{History as Clock, IsSoundDisk, now}
use Rattle.dm_disk_model.proofs.Reaching.{at_start}
use Rattle.dm_kept.specs.Files.{Says}
use Rattle.dm_report.specs.Said.{Said}
use Rattle.dm_does.specs.Explaining.{Telling}
use Rattle.dm_does.specs.Headline.{IsRun}
use Rattle.dm_does.specs.Leaving.{KeepsOne}
use Rattle.dm_does.specs.Log.{Run, Untouched}
use Rattle.dm_does.specs.Printing.{Outputs}
use Rattle.dm_does.specs.World.{World}
use Rattle.dm_past.specs.Past.{Past}
use Rattle.dm_session.specs.Explaining.{Outside}
use Rattle.dm_session.specs.Serving.{Line}
use Rattle.dm_session.proofs.Promised.{session_promised}
use Rattle.dm_serve.specs.Explaining.{ServeExplains, ServesWords}

-- how far some run came
abbrev SomeRun : Says → Clock → Clock → Type 0
SomeRun says start end = (run : Run) × IsRun says start end run

-- one that did nothing
untouched : (says : Says) (start : Clock) → IsSoundDisk (now start) → SomeRun says start start
untouched says start sound = (
  Untouched,
  record { sound = sound; opens = tt; keeps = λ kept rest here. record { moments = at_start start (KeepsOne says kept rest Untouched) (inl here); after = here; settles = tt } },
)

module _ {D O : Type 0} (outside : Outside) (clock : D → Clock) (counts : D → DiskKind → ℕ) (says : O → Says) (origin : O) (words : List (List ℕ)) (before after : World) (past past' : Past) (far far' : ℕ) (line line' : Line) (requests : ℕ) (told : outside.disk) (sound : IsSoundDisk (now before.disk)) where
  words_promised : (at : ℕ) (said : Said) → ServesWords outside clock counts says origin words at before after past past' far far' line line' requests said → SomeRun (says origin) before.disk after.disk
  words_promised at said (inl refused) = subst (λ (w : World). SomeRun (says origin) before.disk w.disk) (sym refused.same) (untouched (says origin) before.disk sound)
  words_promised at said (inr served) = (served.runs.run, session_promised outside clock counts says origin at before after past past' far far' line line' requests said told sound served.runs)

  pub serve_promised : (tells : Telling) (moment : ℕ) (seen seen' : Outputs) (status : ℕ) → ServeExplains outside tells clock counts says origin words moment before after past past' far far' line line' requests seen seen' status → (run : Run) × IsRun (says origin) before.disk after.disk run
  serve_promised tells moment seen seen' status is = words_promised is.at is.said is.serves
