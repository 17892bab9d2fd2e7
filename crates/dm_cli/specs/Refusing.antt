-- What words are that are refused before any disk is looked at, and which words are a command.
use Rattle.std.specs.Prelude.{◌≡◌, ◌⊎◌, ℕ, List}
use Rattle.dm_report.specs.Said.{Said, only}
use Rattle.dm_report.specs.declared.verdict.Verdict.{Verdict}
use Rattle.dm_report.specs.declared.verdict.Verdict.TheVariants.{BadWords, BadAddress, NoMemory}
use Rattle.dm_does.specs.Jobs.{AskNothing, HasAddress, HasBadAddress, HasSomeJob}
use Rattle.dm_past.specs.All.{AsksNoTask}
use Rattle.dm_past.specs.Words.{HasTask}
use Rattle.dm_past.specs.declared.task.Task.{Task}
use Rattle.dm_import.specs.Words.{HasImport}
use Rattle.dm_cli.specs.Program.{AsksNoImport, AsksNoRehearsal, HasRehearsal}

-- no command of the list, or one for an address that is none, or memory was wanting to read it
abbrev pub IsRefusedFor : List (List ℕ) → Verdict → Type 0
IsRefusedFor words BadWords = AskNothing words
IsRefusedFor words BadAddress = HasBadAddress words
IsRefusedFor words NoMemory = HasAddress words
IsRefusedFor words _ = ⊥

-- that is said, and nothing else
abbrev pub RefusesJob : List (List ℕ) → Said → Type 0
RefusesJob words said = IsRefusedFor words said.verdict × (said ≡ only said.verdict)

-- and the words ask for no task of the history
abbrev pub RefusesTask : List (List ℕ) → Said → Type 0
RefusesTask words said = AsksNoTask words × RefusesJob words said

-- nor for an import
abbrev pub RefusesImport : List (List ℕ) → Said → Type 0
RefusesImport words said = AsksNoImport words × RefusesTask words said

-- nor for a rehearsal
abbrev pub RefusesSo : List (List ℕ) → Said → Type 0
RefusesSo words said = AsksNoRehearsal words × RefusesImport words said

-- the words ask for a task of the history
pub record IsSomeTask (words : List (List ℕ)) : Type 0 where
  pub task : Task
  pub has : HasTask words task

-- a command of the list or of the history
abbrev pub IsListed : List (List ℕ) → Type 0
IsListed words = IsSomeTask words ⊎ HasSomeJob words

-- the words ask for an import
pub record IsSomeImport (words : List (List ℕ)) : Type 0 where
  pub name : List ℕ
  pub has : HasImport words name

-- a command that is done on the list and the history
abbrev pub IsDone : List (List ℕ) → Type 0
IsDone words = IsSomeImport words ⊎ IsListed words

-- the words ask for a rehearsal
pub record IsSomeRehearsal (words : List (List ℕ)) : Type 0 where
  pub number : ℕ
  pub has : HasRehearsal words number

-- the words are a command
abbrev pub IsSomeCommand : List (List ℕ) → Type 0
IsSomeCommand words = IsSomeRehearsal words ⊎ IsDone words
