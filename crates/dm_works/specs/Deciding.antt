-- What a job makes of a desk, and the course that it takes.
use Rattle.std.specs.Prelude.{◌≡◌, ◌⊎◌, ℕ, Bool, false, [], ◌∷◌, Result, Ok, Err, IsTrue}
use Rattle.dm_types.specs.Faults.{Rose}
use Rattle.dm_types.specs.declared.entry.Entry.TheVariants as entries
use Rattle.dm_types.specs.declared.item.ItemId.{ItemId}
use Rattle.dm_types.specs.declared.kinds.DiskKind.{DiskKind}
use Rattle.dm_policy.specs.Cause.{reason_of_file}
use Rattle.dm_item.specs.Lawful.{History}
use Rattle.dm_report.specs.declared.verdict.Verdict.TheVariants as verdicts
use Rattle.dm_store.specs.Becomes.{Fell, Recorded}
use Rattle.dm_store.specs.View.{View}
use Rattle.dm_answers.specs.Add.{IsOrder}
use Rattle.dm_answers.specs.Frame.{FellWith, FileBroke, IsBroken}
use Rattle.dm_does.specs.declared.course.Course.{Course}
use Rattle.dm_does.specs.declared.course.Course.TheVariants.{Ends}
use Rattle.dm_does.specs.declared.course.Show.TheVariants.{Nothing}
use Rattle.dm_does.specs.declared.job.Job.{Job}
use Rattle.dm_does.specs.declared.job.Job.TheVariants as jobs
use Rattle.dm_does.specs.Doing.{Doing}
use Rattle.dm_service.specs.Api.{Seen}
use Rattle.dm_service.specs.declared.task.Task.{Task}
use Rattle.dm_service.specs.declared.task.Task.TheVariants as tasks
use Rattle.dm_works.specs.declared.deciding.Broken.{Broken}

-- what a request looks at on a desk
abbrev pub seen_of : {D O : Type 0} → View D O → ℕ → Seen
seen_of desk at = record { list = desk.items; lives = desk.lives; at = at }

-- these entries were recorded; where there are none the desk may be as it was
abbrev pub DidAll : {D O : Type 0} → History → View D O → View D O → Type 0
DidAll entries old new = Recorded old new entries ⊎ ((entries ≡ []) × (new ≡ old))

-- What was landed of an item's attempt could not be saved, by a call that failed in this way: the item is interrupted, or that was tried.
pub record Spoiled {D O : Type 0} (counts : D → DiskKind → ℕ) (kind : DiskKind) (old new : View D O) : Type 0 where
  pub id : ItemId
  pub is : Recorded old new (entries.Broke id (reason_of_file kind) ∷ []) ⊎ FellWith old new [] (FileBroke (counts old.disk) (counts new.disk) id)

-- one of the entries failed, or the part
abbrev pub FellBy : {D O : Type 0} → (D → DiskKind → ℕ) → DiskKind → History → View D O → View D O → Type 0
FellBy counts kind tries old new = Fell old new tries ⊎ Spoiled counts kind old new

-- All of it is done, and it takes its course; or a call on the disk failed, which its count shows; or memory was wanting, and nothing changed.
pub data Settles {D O : Type 0} (counts : D → DiskKind → ℕ) (doing : Doing) (old new : View D O) (course : Course) : Type 0 where
  did : DidAll doing.entries old new → course ≡ doing.course → Settles counts doing old new course
  fell : (kind : DiskKind) → Rose (counts old.disk kind) (counts new.disk kind) → FellBy counts kind doing.entries old new → course ≡ Ends (verdicts.DiskFailed kind) Nothing → Settles counts doing old new course
  wanted : new ≡ old → course ≡ Ends verdicts.NoMemory Nothing → Settles counts doing old new course

-- So on a list that isn't broken, or of a look. A change of a broken one is refused.
pub record Decided {D O : Type 0} (counts : D → DiskKind → ℕ) (changes : Bool) (doing : Doing) (old new : View D O) (course : Course) : Type 0 where
  pub whole : IsTrue changes → old.broken ≡ false
  pub settles : Settles counts doing old new course

pub record Refused {D O : Type 0} (changes : Bool) (old new : View D O) : Type 0 where
  pub changes_is : IsTrue changes
  pub broken : IsBroken old new

abbrev pub DecidesNow : {D O : Type 0} → (D → DiskKind → ℕ) → Bool → Doing → View D O → View D O → Result Course Broken → Type 0
DecidesNow counts changes doing old new (Ok course) = Decided counts changes doing old new course
DecidesNow counts changes doing old new (Err broken) = Refused changes old new

-- an order keeps the limits of a list; no request asks for the jobs that bring an item or print a text
abbrev pub FitsJob : Job → Type 0
FitsJob (jobs.Add order) = IsOrder order
FitsJob (jobs.Get order slices) = ⊥
FitsJob jobs.Report = ⊥
FitsJob jobs.Export = ⊥
FitsJob _ = Unit {0}

abbrev pub FitsTask : Task → Type 0
FitsTask (tasks.Job job) = FitsJob job
FitsTask (tasks.Add order) = IsOrder order
FitsTask _ = Unit {0}
