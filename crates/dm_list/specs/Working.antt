-- What a command does on a desk that was opened: its own part, an item that is brought, what it says, and a sweep.
use Rattle.std.specs.Prelude.{◌≡◌, ℕ, true, false, List, [], None, Result, Ok, Err, IsTrue}
use Rattle.dm_types.specs.Faults.{HasCause, NoneFell}
use Rattle.dm_types.specs.Name.{IsPart}
use Rattle.dm_types.specs.declared.kinds.DiskKind.{DiskKind}
use Rattle.dm_types.specs.declared.memory.NoMemory.{NoMemory}
use Rattle.dm_disk_model.specs.Disk.{History as Clock}
use Rattle.dm_edge.specs.Wire.{Closed}
use Rattle.dm_edge.specs.declared.fault.NetFault.{NetFault}
use Rattle.dm_kept.specs.Files.{Says}
use Rattle.dm_store.specs.Keeps.{IsDesk}
use Rattle.dm_store.specs.Lives.{life_in}
use Rattle.dm_store.specs.View.{View}
use Rattle.dm_report.specs.Said.{EndsAs, Said, only}
use Rattle.dm_report.specs.declared.verdict.Verdict.{Verdict}
use Rattle.dm_report.specs.declared.verdict.Verdict.TheVariants as verdicts
use Rattle.dm_answers.specs.Faults.{desk_kind}
use Rattle.dm_answers.specs.Frame.{Went}
use Rattle.dm_answers.specs.Sweep.{SweepAnswers}
use Rattle.dm_answers.specs.declared.fault.DeskFault.{DeskFault}
use Rattle.dm_attempt.specs.Goes as calls
use Rattle.dm_bring.specs.Bringing.{BringsOn}
use Rattle.dm_does.specs.declared.course.Course.{Course}
use Rattle.dm_does.specs.declared.course.Course.TheVariants.{Ends}
use Rattle.dm_does.specs.declared.course.Show.TheVariants.{Nothing}
use Rattle.dm_does.specs.Deciding.{Decides, ShowsFault}
use Rattle.dm_does.specs.Doing.{does}
use Rattle.dm_does.specs.Saying.{said_by}
use Rattle.dm_does.specs.Sweeping.{sweeps}
use Rattle.dm_does.specs.declared.job.Job.{Job}
use Rattle.dm_does.proofs.Decisions.{given_of}

-- what every call on a desk keeps: the crash clause, the user's files but parts, the counts, and the count of far writes
abbrev pub CallGoes : {D O : Type 0} → Type 0 → (D → Clock) → (D → DiskKind → ℕ) → (D → ℕ) → (O → Says) → View D O → View D O → Type 0
CallGoes tells clock counts far says old new = calls.CallGoes tells clock says far counts IsPart old new

-- no attempt runs on the desk
abbrev pub HasNoLife : {D O : Type 0} → View D O → Type 0
HasNoLife desk = (id : ℕ) → life_in id desk.lives ≡ None

-- a failed call on the disk is told, also where memory is wanting
abbrev pub SaysFailure : Course → Said → Type 0
SaysFailure (Ends (verdicts.DiskFailed kind) Nothing) said = said ≡ only (verdicts.DiskFailed kind)
SaysFailure course said = Unit {0}

-- parts that none needs were removed, or it was hindered
pub record Swept {D O : Type 0} (tells : Type 0) (clock : D → Clock) (counts : D → DiskKind → ℕ) (old new : View D O) : Type 0 where
  pub answer : Result (Unit {0}) DeskFault
  pub answers : SweepAnswers tells clock old new answer
  pub cause : HasCause desk_kind (counts old.disk) (counts new.disk) answer

-- A job's own part was done on a desk, and then the item was brought, where the course is that one is brought. What the command says was said of the items as they were then, and
-- parts that none needs were removed, where the job is one that sweeps.
pub record Worked {D O : Type 0} (tells : Type 0) (clock : D → Clock) (counts : D → DiskKind → ℕ) (far : D → ℕ) (says : O → Says) (net : Type 0) (job : Job) (at : ℕ) (old new : View D O) (was closed : List Closed) (before after : NetFault → ℕ) (said : Said) : Type 0 where
  -- the job's own part
  pub course : Course
  pub decided : View D O
  pub decides : Decides (does job (given_of old at)) old decided course
  pub desk : IsDesk tells clock decided
  pub own : CallGoes tells clock counts far says old decided
  pub shows : ShowsFault (counts old.disk) (counts decided.disk) course
  -- what is brought, and how the course goes on then
  pub onward : Course
  pub between : View D O
  pub brings : BringsOn tells clock counts far says net decided between was closed before after at course onward
  pub net_later : NoneFell before after
  pub unfailed : between.broken ≡ false → between.failed ≡ []
  -- what is said
  pub says_is : EndsAs (said_by between.items.items onward) said
  pub fails : SaysFailure onward said
  -- what is removed
  pub went : between.broken ≡ false → Went between new [] [] false
  pub stays : between.broken ≡ true → new ≡ between
  pub behind : CallGoes tells clock counts far says between new
  pub swept : IsTrue (sweeps job) → Swept tells clock counts between new

-- the ending with this text, or that memory was wanting for it
abbrev pub EndsWithText : Verdict → Result (List ℕ) NoMemory → Said → Type 0
EndsWithText verdict (Ok text) said = EndsAs (record { verdict = verdict; out = text }) said
EndsWithText verdict (Err fault) said = said ≡ only verdicts.NoMemory
