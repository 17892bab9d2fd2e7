-- The clause of the program's call: the words ask for a rehearsal, for an import, or for neither.
use Rattle.std.specs.Prelude.{◌≡◌, ℕ, List}
use Rattle.dm_words.specs.Asked.{Asks, Rehearses}
use Rattle.dm_does.specs.Printing.{Outputs}
use Rattle.dm_does.specs.World.{World}
use Rattle.dm_past.specs.Past.{Past}
use Rattle.dm_import.specs.Words.{HasImport}
use Rattle.dm_rehearse_run.specs.Printing.{PrintsRehearsal}

-- the words ask to rehearse this number
abbrev pub HasRehearsal : List (List ℕ) → ℕ → Type 0
HasRehearsal words number = Asks words (Rehearses number)

-- the words ask for no rehearsal
abbrev pub AsksNoRehearsal : List (List ℕ) → Type 0
AsksNoRehearsal words = (number : ℕ) → ¬ HasRehearsal words number

-- the words ask for no import
abbrev pub AsksNoImport : List (List ℕ) → Type 0
AsksNoImport words = (name : List ℕ) → HasImport words name → ⊥

-- what the rehearsal says is printed, and nothing else is done: the disk, the net and the history are as before
pub record Rehearsed (tells : Type 0) (number : ℕ) (before after : World) (past past' : Past) (outputs outputs' : Outputs) (status : ℕ) : Type 0 where
  pub prints : PrintsRehearsal tells number outputs outputs' status
  pub world_stays : after ≡ before
  pub past_stays : past' ≡ past

-- The words ask to rehearse a number, or to import the file of a name, which explains the run so; or for neither, and this explains it.
pub data ExplainsProgram (words : List (List ℕ)) (rehearses : ℕ → Type 0) (imports : List ℕ → Type 0) (others : Type 0) : Type 0 where
  by_rehearsal : (number : ℕ) → HasRehearsal words number → rehearses number → ExplainsProgram words rehearses imports others
  by_import : (name : List ℕ) → HasImport words name → imports name → ExplainsProgram words rehearses imports others
  by_words : AsksNoRehearsal words → AsksNoImport words → others → ExplainsProgram words rehearses imports others
