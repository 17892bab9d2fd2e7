-- What a job's own part makes of a desk, and the course that it takes by the answer of the desk's call.
use Rattle.std.specs.Prelude.{◌≡◌, ◌⊎◌, ℕ, [], Result, Ok, Err}
use Rattle.dm_types.specs.Faults.{Rose}
use Rattle.dm_types.specs.declared.item.ItemId.{ItemId}
use Rattle.dm_types.specs.declared.kinds.DiskKind.{DiskKind}
use Rattle.dm_report.specs.declared.verdict.Verdict.TheVariants as verdicts
use Rattle.dm_store.specs.Becomes.{Fell, Recorded}
use Rattle.dm_store.specs.View.{View}
use Rattle.dm_answers.specs.declared.fault.DeskFault.{DeskFault}
use Rattle.dm_answers.specs.declared.fault.DeskFault.TheVariants as faults
use Rattle.dm_answers.specs.declared.order.Taken.{Taken}
use Rattle.dm_answers.specs.declared.order.Taken.TheVariants.{New, Same}
use Rattle.dm_does.specs.declared.course.Course.{Course}
use Rattle.dm_does.specs.declared.course.Course.TheVariants.{Brings, Ends}
use Rattle.dm_does.specs.declared.course.Show.TheVariants.{Nothing}
use Rattle.dm_does.specs.Doing.{Doing}

-- its entries were recorded; where there are none nothing changed
abbrev pub Did : {D O : Type 0} → Doing → View D O → View D O → Type 0
Did doing old new = Recorded old new doing.entries ⊎ ((doing.entries ≡ []) × (new ≡ old))

-- Its own part is done, and it takes its course; or an entry failed; or memory was wanting, and nothing changed.
pub data Decides {D O : Type 0} (doing : Doing) (old new : View D O) (course : Course) : Type 0 where
  did : Did doing old new → course ≡ doing.course → Decides doing old new course
  fell : (kind : DiskKind) → Fell old new doing.entries → course ≡ Ends (verdicts.DiskFailed kind) Nothing → Decides doing old new course
  wanted : new ≡ old → course ≡ Ends verdicts.NoMemory Nothing → Decides doing old new course

-- how a command ends that is refused so
abbrev pub course_of_fault : DeskFault → Course
course_of_fault (faults.NoItem id) = Ends (verdicts.NoItem id) Nothing
course_of_fault (faults.WrongState phase) = Ends (verdicts.WrongState phase) Nothing
course_of_fault (faults.ItemsFull count) = Ends (verdicts.ItemsFull count) Nothing
course_of_fault (faults.WordTaken id) = Ends (verdicts.OtherWord id) Nothing
course_of_fault (faults.Journal kind) = Ends (verdicts.DiskFailed kind) Nothing
course_of_fault (faults.File kind) = Ends (verdicts.DiskFailed kind) Nothing
course_of_fault (faults.Stale attempt round) = Ends verdicts.NoMemory Nothing
course_of_fault (faults.NotNext place) = Ends verdicts.NoMemory Nothing
course_of_fault (faults.PastEnd end) = Ends verdicts.NoMemory Nothing
course_of_fault (faults.CheckpointDue bytes) = Ends verdicts.NoMemory Nothing
course_of_fault faults.Broken = Ends verdicts.NoMemory Nothing
course_of_fault faults.NoMemory = Ends verdicts.NoMemory Nothing
course_of_fault (faults.Damaged place) = Ends verdicts.NoMemory Nothing

-- the course by the answer, where Ok leads on so
abbrev pub course_of : Course → Result (Unit {0}) DeskFault → Course
course_of course (Ok done) = course
course_of course (Err fault) = course_of_fault fault

-- the course of an order: a new item, or one that is there already
abbrev pub course_of_order : (ItemId → Course) → (ItemId → Course) → Result Taken DeskFault → Course
course_of_order new same (Ok (New id)) = new id
course_of_order new same (Ok (Same id)) = same id
course_of_order new same (Err fault) = course_of_fault fault

-- where the course is that a call on the disk failed, the count of its kind rose
abbrev pub ShowsFault : (DiskKind → ℕ) → (DiskKind → ℕ) → Course → Type 0
ShowsFault before after (Ends (verdicts.DiskFailed kind) show) = Rose (before kind) (after kind)
ShowsFault before after (Ends verdict show) = Unit {0}
ShowsFault before after (Brings id slices) = Unit {0}
