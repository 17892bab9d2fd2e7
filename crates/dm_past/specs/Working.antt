-- What was done on a desk that was opened.
use Rattle.std.specs.Prelude.{◌≡◌, ◌++◌, ℕ, Bool, List, Result, Ok, Err}
use Rattle.dm_types.specs.Faults.{NoneFell}
use Rattle.dm_types.specs.declared.kinds.DiskKind.{DiskKind}
use Rattle.dm_types.specs.declared.memory.NoMemory.{NoMemory}
use Rattle.dm_disk_model.specs.Disk.{History as Clock}
use Rattle.dm_disk_model.specs.Moments.{KeepsFiles}
use Rattle.dm_item.specs.Lawful.{History}
use Rattle.dm_kept.specs.Files.{Says}
use Rattle.dm_store.specs.Becomes.{Becomes}
use Rattle.dm_store.specs.Keeps.{HoldsOf, Keeps, StaysNear}
use Rattle.dm_store.specs.View.{View}
use Rattle.dm_answers.specs.declared.fault.DeskFault.TheVariants as desks
use Rattle.dm_report.specs.Said.{EndsAs, Said, only}
use Rattle.dm_report.specs.declared.verdict.Verdict.{Verdict}
use Rattle.dm_report.specs.declared.verdict.Verdict.TheVariants as verdicts
use Rattle.dm_hist.specs.declared.keeper.KeeperFault.{KeeperFault}
use Rattle.dm_hist.specs.declared.keeper.KeeperFault.TheVariants as keepers
use Rattle.dm_archive.specs.Doing.{Doing, Given}
use Rattle.dm_archive.specs.Stops.{EachStop, ShowsEachOnce}
use Rattle.dm_archive.specs.declared.fault.ArchiveFault.{ArchiveFault}
use Rattle.dm_archive.specs.declared.fault.ArchiveFault.TheVariants as faults
use Rattle.dm_does.specs.Log.{ArePlain}
use Rattle.dm_past.specs.Coming.{Came}
use Rattle.dm_past.specs.Past.{Past}
use Rattle.dm_past.specs.Tasks.{DoingFor}

-- the items of a desk, and the rows
abbrev pub given_of : {D O : Type 0} → View D O → Past → Given
given_of desk past = record { items = desk.items.items; rows = past.rows }

-- What was done is what is to be done, up to where it came; so many entries were recorded, and none of them opens the list.
pub record TaskWorked {D O : Type 0} (told : Type 0) (counts : D → DiskKind → ℕ) (does : DoingFor) (old new : View D O) (past past' : Past) (said : Said) : Type 0 where
  pub doing : Doing
  pub is : does (given_of old past) doing
  pub recorded : History
  pub failed : History
  pub broken : Bool
  pub becomes : Becomes old new recorded failed broken
  pub plain : ArePlain (recorded ++ failed)
  pub came : Came told (counts old.disk) (counts new.disk) past past' doing recorded failed broken said

-- what it keeps: the crash clause, every file of the user's, and the counts
pub record TaskGoes {D O : Type 0} (tells : Type 0) (clock : D → Clock) (counts : D → DiskKind → ℕ) (far : D → ℕ) (says : O → Says) (old new : View D O) (past past' : Past) : Type 0 where
  pub keeps : Keeps tells clock says old new
  pub files : tells → KeepsFiles (clock old.disk) (clock new.disk)
  pub later : NoneFell (counts old.disk) (counts new.disk)
  pub near : StaysNear (far old.disk) (far new.disk) old new
  pub past_later : NoneFell past.faults past'.faults

-- at every stop each item and each row of the start is shown exactly once
abbrev pub TaskShows : {D O : Type 0} → Type 0 → Type 0 → (D → Clock) → (O → Says) → View D O → View D O → Past → Past → Type 0
TaskShows tells told clock says old new past past' =
    tells → told → (good : Bool) (before : History) → HoldsOf good (says old.origin) clock old before
    → EachStop (ShowsEachOnce good (says old.origin) old.items.items past.rows) (clock old.disk) past.rows (clock new.disk) past'.rows

-- what a failure of the history is told as
abbrev pub keeper_verdict : KeeperFault → Verdict
keeper_verdict keepers.Failed = verdicts.HistoryFailed
keeper_verdict keepers.NoMemory = verdicts.NoMemory

-- What a failed move is told as. Faults that no move of items gives are told as want of memory.
abbrev pub archive_verdict : ArchiveFault → Verdict
archive_verdict faults.Keeper = verdicts.HistoryFailed
archive_verdict faults.NoMemory = verdicts.NoMemory
archive_verdict (faults.Desk (desks.Journal kind)) = verdicts.DiskFailed kind
archive_verdict (faults.Desk fault) = verdicts.NoMemory

-- the ending with this text, or that memory was wanting for it
abbrev pub EndsWithText : Verdict → Result (List ℕ) NoMemory → Said → Type 0
EndsWithText verdict (Ok text) said = EndsAs (record { verdict = verdict; out = text }) said
EndsWithText verdict (Err fault) said = said ≡ only verdicts.NoMemory
