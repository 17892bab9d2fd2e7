-- A run of a job over a disk: the list was opened and the job was done, or it couldn't be opened.
use Rattle.std.specs.Prelude.{◌≡◌, ◌⊎◌, ℕ, true, List}
use Rattle.dm_types.specs.Faults.{NoneFell, Rose}
use Rattle.dm_types.specs.Limits.{most_items}
use Rattle.dm_types.specs.declared.kinds.DiskKind.{DiskKind}
use Rattle.dm_disk_model.specs.Beside.{Besides}
use Rattle.dm_disk_model.specs.Disk.{History as Clock, now}
use Rattle.dm_edge.specs.declared.fault.NetFault.{NetFault}
use Rattle.dm_edge.specs.Wire.{Closed}
use Rattle.dm_item.specs.Lawful.{History}
use Rattle.dm_kept.specs.Files.{Says}
use Rattle.dm_kept.specs.Kept.{Kept}
use Rattle.dm_kept.specs.Recovery.{Through}
use Rattle.dm_store.specs.View.{View}
use Rattle.dm_report.specs.Said.{EndsAs, Said, only}
use Rattle.dm_report.specs.declared.verdict.Verdict.TheVariants as verdicts
use Rattle.dm_answers.specs.Opening.{IsOpened, disk_in}
use Rattle.dm_answers.specs.Reads.{IsSettledName}
use Rattle.dm_answers.specs.declared.fault.OpenFault.{OpenFault}
use Rattle.dm_answers.specs.declared.fault.OpenFault.TheVariants as opens
use Rattle.dm_open.specs.Refused.{OpenRefuses, RunsOn}
use Rattle.dm_does.specs.declared.job.Job.{Job}
use Rattle.dm_brings.specs.Bringing.{brings_of, program_limits}
use Rattle.dm_does.specs.Answering.{Answers, Bringing}
use Rattle.dm_does.specs.Explaining.{Explains, Telling}
use Rattle.dm_does.specs.Leaving.{KeepsAll, Leaves}
use Rattle.dm_does.specs.Log.{Run, Opened}
use Rattle.dm_does.specs.Printing.{Outputs}
use Rattle.dm_does.specs.World.{IsLater, World}
use Rattle.dm_list.specs.Completing.{Completes}
use Rattle.dm_list.specs.Working.{Worked}

-- what a run meets: the disk, and the net
abbrev pub world_of : {D : Type 0} → (D → Clock) → (D → DiskKind → ℕ) → (NetFault → ℕ) → List Closed → D → World
world_of clock counts net_faults closed disk = record { disk = clock disk; disk_faults = counts disk; net_faults = net_faults; closed = closed }

-- what is said of a list that can't be opened
abbrev pub SaysRefusal : {D : Type 0} → OpenFault D → Said → Type 0
SaysRefusal (opens.Disk kind disk) said = said ≡ only (verdicts.DiskFailed kind)
SaysRefusal (opens.Damaged place disk) said = EndsAs (only (verdicts.Damaged place)) said
SaysRefusal (opens.NoMemory disk) said = said ≡ only verdicts.NoMemory

-- where a call on the disk failed, the count of its kind rose
abbrev pub ShowsOpening : {D : Type 0} → (DiskKind → ℕ) → (DiskKind → ℕ) → OpenFault D → Type 0
ShowsOpening before after (opens.Disk kind disk) = Rose (before kind) (after kind)
ShowsOpening before after (opens.Damaged place disk) = Unit {0}
ShowsOpening before after (opens.NoMemory disk) = Unit {0}

-- The list was opened with this origin and the program's limits, and the job was done.
pub record JobWorked {D O : Type 0} (tells : Type 0) (clock : D → Clock) (counts : D → DiskKind → ℕ) (far : D → ℕ) (says : O → Says) (net : Type 0) (origin : O) (job : Job) (at : ℕ) (start end : D) (was closed : List Closed) (before after : NetFault → ℕ) (said : Said) : Type 0 where
  pub opened : View D O
  pub ended : View D O
  pub end_is : end ≡ ended.disk
  pub origin_is : opened.origin ≡ origin
  pub limit : opened.items.limit ≡ most_items
  pub limits : opened.limits ≡ program_limits
  pub is : IsOpened tells clock far (says origin) start at opened
  pub beside : tells → Besides (IsSettledName clock start) (clock start) (clock opened.disk)
  -- at each moment of the opening one of the two is kept, where the start was
  pub on : tells → RunsOn (says origin) (clock start) (clock opened.disk) is.found opened.list
  pub later : NoneFell (counts start) (counts opened.disk)
  pub worked : Worked tells clock counts far says net job at opened ended was closed before after said

-- The list couldn't be opened.
pub record JobRefused {D : Type 0} (tells : Type 0) (clock : D → Clock) (counts : D → DiskKind → ℕ) (far : D → ℕ) (says : Says) (at : ℕ) (start end : D) (said : Said) : Type 0 where
  pub fault : OpenFault D
  pub end_is : end ≡ disk_in fault
  pub says_is : SaysRefusal fault said
  pub refuses : OpenRefuses tells clock far says start most_items at fault
  pub beside : tells → Besides (IsSettledName clock start) (clock start) (clock end)
  pub later : NoneFell (counts start) (counts end)
  pub shows : ShowsOpening (counts start) (counts end) fault

-- one of both; no list that couldn't be opened had a connection
abbrev pub JobRuns : {D O : Type 0} → Type 0 → (D → Clock) → (D → DiskKind → ℕ) → (D → ℕ) → (O → Says) → Type 0 → O → Job → ℕ → D → D → List Closed → List Closed → (NetFault → ℕ) → (NetFault → ℕ) → Said → Type 0
JobRuns tells clock counts far says net origin job at start end was closed before after said =
    JobWorked tells clock counts far says net origin job at start end was closed before after said
    ⊎ (JobRefused tells clock counts far (says origin) at start end said × (closed ≡ was) × (after ≡ before))

-- the list wasn't opened
abbrev pub IsClosed : Run → Type 0
IsClosed (Opened log) = ⊥
IsClosed run = Unit {0}

-- The clause of a run, but for what it prints. P is what holds besides of how far it came.
pub record RunsBy (P : Run → Type 0) (brings : ℕ → Bringing) (tells : Type 0) (says : Says) (words : List (List ℕ)) (at : ℕ) (before after : World) (far far' : ℕ) (said : Said) : Type 0 where
  pub run : Run
  pub answers : Answers brings tells words at before after said run
  pub later : IsLater tells before after
  pub leaves : tells → Leaves before.disk after.disk far far' said.verdict run
  pub keeps : tells → (kept rest : History) → Kept true says (Through kept rest) (now before.disk) → KeepsAll says before.disk after.disk kept rest run
  pub besides : P run

-- The whole clause of a run: one verdict, one log and one moment explain it, and by the same ones it completes the item that it brings.
pub record ExplainsAll {D O : Type 0} (tells : Telling) (clock : D → Clock) (counts : D → DiskKind → ℕ) (far : D → ℕ) (says : O → Says) (net : Type 0) (origin : O) (words : List (List ℕ)) (moment : ℕ) (start end : D) (was closed : List Closed) (before after : NetFault → ℕ)
    (seen seen' : Outputs) (status : ℕ) : Type 0 where
  pub explains : Explains (brings_of tells.disk clock says far counts net) tells (says origin) words moment (world_of clock counts before was start) (world_of clock counts after closed end) (far start) (far end) seen seen' status
  pub completes : Completes tells.disk clock says far counts net origin start end was closed before after words explains.at explains.said explains.run
