-- Which of two a refused opening was, over every disk: no journal was read, or one was read whole and what comes behind it was hindered.
use Rattle.std.specs.Prelude.{◌≡◌, ◌⊎◌, ℕ, ◌≤◌, Bool, true, List, [], ◌++◌, length, Result, Ok, Err}
use Rattle.dm_types.specs.declared.item.Item.{Item}
use Rattle.dm_disk_model.specs.Disk.{DiskState, History as Clock, MayLeave, bytes_at, now}
use Rattle.dm_disk_model.specs.Moments.{KeepsFiles, LeavesOnly, Throughout}
use Rattle.dm_item.specs.Lawful.{History, IsLawful}
use Rattle.dm_journal.specs.AtRest.{journal_place}
use Rattle.dm_kept.specs.Files.{Says}
use Rattle.dm_kept.specs.Kept.{Kept, WasKept}
use Rattle.dm_kept.specs.Recovery.{Through}
use Rattle.dm_kept.specs.Room.{IsTaken}
use Rattle.dm_kept.specs.Spelled.{Records}
use Rattle.dm_store.specs.View.{View}
use Rattle.dm_answers.specs.declared.fault.DeskFault.{DeskFault}
use Rattle.dm_answers.specs.declared.fault.DeskFault.TheVariants as faults
use Rattle.dm_answers.specs.declared.fault.OpenFault.{OpenFault}
use Rattle.dm_answers.specs.declared.fault.OpenFault.TheVariants as opens
use Rattle.dm_answers.specs.Opening.{IsDamaged, IsNear, IsTried, OpenRuns}
use Rattle.dm_find.specs.Finding.{FindLeaves}

-- No journal was read. A crash at each moment leaves what one at the start might have, or, where nothing stood as the journal, none or one of no entries; what was kept is kept, at each moment.
pub record NoneRead {D : Type 0} (tells : Type 0) (clock : D → Clock) (far : D → ℕ) (says : Says) (start end : D) : Type 0 where
  pub moments : tells → LeavesOnly (clock start) (clock end) (FindLeaves (now (clock start)))
  pub files : tells → KeepsFiles (clock start) (clock end)
  pub kept : tells → (good : Bool) (earlier more : History) → Kept good says (Through earlier more) (now (clock start)) → Throughout (clock start) (clock end) (Kept good says (Through earlier more))
  pub near : far end ≡ far start

-- A journal that can't be opened stays: a crash at each moment leaves what one at the start might have, and at the end all reads as it did.
pub record StaysDamaged {D : Type 0} (clock : D → Clock) (far : D → ℕ) (start end : D) (limit place : ℕ) : Type 0 where
  pub damaged : IsDamaged clock far start end limit place
  pub moments : LeavesOnly (clock start) (clock end) (MayLeave (now (clock start)))

-- at this moment each crash leaves what is kept at the start; or each leaves what was found, with some of what was tried behind it
abbrev pub KeepsOneOf : Says → History → History → History → History → DiskState → Type 0
KeepsOneOf says kept rest found tried disk = Kept true says (Through kept rest) disk ⊎ Kept true says (Through found tried) disk

-- from a kept disk it is so at each moment
abbrev pub RunsOn : Says → Clock → Clock → History → History → Type 0
RunsOn says start end found tried = (kept rest : History) → Kept true says (Through kept rest) (now start) → Throughout start end (KeepsOneOf says kept rest found tried)

-- so of an opening that was answered Ok, behind what reads as the journal
abbrev pub OpensOn : {D O : Type 0} → Type 0 → (D → Clock) → Says → D → Result (View D O) (OpenFault D) → Type 0
OpensOn tells clock says start (Ok desk) = tells → (found : History) → Records (bytes_at (now (clock start)) journal_place) found → RunsOn says (clock start) (clock desk.disk) found desk.list
OpensOn tells clock says start (Err fault) = Unit {0}

-- A journal was read whole. What was tried behind it is lawful there: these entries were recorded, then at most one failed, and the rest was never tried. A crash at the end
-- leaves what was found with all that were recorded, and perhaps with the one that failed.
pub record ReadAndTried {D : Type 0} (tells : Type 0) (clock : D → Clock) (far : D → ℕ) (says : Says) (start end : D) (limit at : ℕ) (found recorded failed rest : History) : Type 0 where
  pub taken : IsTaken limit found
  pub lawful : IsLawful (found ++ (recorded ++ (failed ++ rest)))
  pub one : length failed ≤ 1
  pub left : List Item
  pub tried : IsTried tells (clock start) (clock end) at found (recorded ++ (failed ++ rest)) left
  pub runs : tells → OpenRuns says (clock start) (clock end) found (recorded ++ (failed ++ rest))
  pub on : tells → RunsOn says (clock start) (clock end) found (recorded ++ (failed ++ rest))
  pub kept : tells → (good : Bool) → WasKept good says (now (clock start)) → Kept good says (Through (found ++ recorded) failed) (now (clock end))
  pub near : IsNear (found ++ (recorded ++ (failed ++ rest))) (far start) (far end)

-- so for some entries
pub record IsHindered {D : Type 0} (tells : Type 0) (clock : D → Clock) (far : D → ℕ) (says : Says) (start end : D) (limit at : ℕ) : Type 0 where
  pub found : History
  pub recorded : History
  pub failed : History
  pub rest : History
  pub is : ReadAndTried tells clock far says start end limit at found recorded failed rest

-- What each refusal of an opening was: `limit` is that of items, and the fault has the disk that is handed back.
abbrev pub OpenRefuses : {D : Type 0} → Type 0 → (D → Clock) → (D → ℕ) → Says → D → ℕ → ℕ → OpenFault D → Type 0
OpenRefuses tells clock far says start limit at (opens.Damaged place disk) = NoneRead tells clock far says start disk × (tells → StaysDamaged clock far start disk limit place)
OpenRefuses tells clock far says start limit at (opens.Disk kind disk) = NoneRead tells clock far says start disk ⊎ IsHindered tells clock far says start disk limit at
OpenRefuses tells clock far says start limit at (opens.NoMemory disk) = NoneRead tells clock far says start disk ⊎ ((hindered : IsHindered tells clock far says start disk limit at) × (hindered.failed ≡ []))

-- A reopening that read no journal: but for its disk, which is broken, the desk is as it was.
pub record KeepsUnread {D O : Type 0} (tells : Type 0) (clock : D → Clock) (far : D → ℕ) (says : Says) (old new : View D O) : Type 0 where
  pub same : new ≡ record old { disk = new.disk; broken = true }
  pub none : NoneRead tells clock far says old.disk new.disk

-- A reopening that was hindered behind what it read: the desk's list is what was recorded, and its failed entry is the one that failed.
pub record KeepsTried {D O : Type 0} (tells : Type 0) (clock : D → Clock) (far : D → ℕ) (says : Says) (at : ℕ) (old new : View D O) : Type 0 where
  pub found : History
  pub rest : History
  pub is : ReadAndTried tells clock far says old.disk new.disk old.limits.items at found new.list new.failed rest

-- what each refusal of a reopening was
abbrev pub ReopenRefuses : {D O : Type 0} → Type 0 → (D → Clock) → (D → ℕ) → Says → ℕ → View D O → View D O → DeskFault → Type 0
ReopenRefuses tells clock far says at old new (faults.Damaged place) = KeepsUnread tells clock far says old new × (tells → StaysDamaged clock far old.disk new.disk old.limits.items place)
ReopenRefuses tells clock far says at old new (faults.Journal kind) = KeepsUnread tells clock far says old new ⊎ KeepsTried tells clock far says at old new
ReopenRefuses tells clock far says at old new faults.NoMemory = KeepsUnread tells clock far says old new ⊎ (KeepsTried tells clock far says at old new × (new.failed ≡ []))
ReopenRefuses tells clock far says at old new _ = ⊥
