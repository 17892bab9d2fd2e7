-- A run over a disk and a history: the list was opened and something was done, or it couldn't be opened.
use Rattle.std.specs.Prelude.{◌≡◌, ◌⊎◌, ℕ, true}
use Rattle.dm_types.specs.Faults.{NoneFell}
use Rattle.dm_types.specs.Limits.{most_items}
use Rattle.dm_types.specs.declared.kinds.DiskKind.{DiskKind}
use Rattle.dm_disk_model.specs.Beside.{Besides}
use Rattle.dm_disk_model.specs.Disk.{History as Clock, now}
use Rattle.dm_item.specs.Lawful.{History}
use Rattle.dm_kept.specs.Files.{Says}
use Rattle.dm_kept.specs.Kept.{Kept}
use Rattle.dm_kept.specs.Recovery.{Through}
use Rattle.dm_store.specs.View.{View}
use Rattle.dm_report.specs.Said.{Said}
use Rattle.dm_answers.specs.Opening.{IsOpened}
use Rattle.dm_answers.specs.Reads.{IsSettledName}
use Rattle.dm_open.specs.Refused.{RunsOn}
use Rattle.dm_does.specs.Leaving.{KeepsAll, Leaves}
use Rattle.dm_does.specs.Log.{Run}
use Rattle.dm_does.specs.World.{IsLater, World}
use Rattle.dm_list.specs.Running.{JobRefused}
use Rattle.dm_past.specs.Answering.{Answers}
use Rattle.dm_past.specs.Past.{Past}
use Rattle.dm_past.specs.Showing.{Shows}
use Rattle.dm_past.specs.Working.{TaskGoes, TaskShows, TaskWorked}
use Rattle.dm_past.specs.Tasks.{DoingFor, NeverDrops}

-- The list was opened with this origin, and something was done.
pub record TaskRan {D O : Type 0} (tells told : Type 0) (clock : D → Clock) (counts : D → DiskKind → ℕ) (far : D → ℕ) (says : O → Says) (origin : O) (does : DoingFor) (at : ℕ) (start end : D) (past past' : Past) (said : Said) : Type 0 where
  pub opened : View D O
  pub ended : View D O
  pub end_is : end ≡ ended.disk
  pub origin_is : opened.origin ≡ origin
  pub limits : opened.limits.items ≡ most_items
  pub is : IsOpened tells clock far (says origin) start at opened
  pub beside : tells → Besides (IsSettledName clock start) (clock start) (clock opened.disk)
  pub on : tells → RunsOn (says origin) (clock start) (clock opened.disk) is.found opened.list
  pub later : NoneFell (counts start) (counts opened.disk)
  pub worked : TaskWorked told counts does opened ended past past' said
  pub goes : TaskGoes tells clock counts far says opened ended past past'
  pub shows : NeverDrops does → TaskShows tells told clock says opened ended past past'

-- or the list couldn't be opened, and the history wasn't asked
abbrev pub TaskRuns : {D O : Type 0} → Type 0 → Type 0 → (D → Clock) → (D → DiskKind → ℕ) → (D → ℕ) → (O → Says) → O → DoingFor → ℕ → D → D → Past → Past → Said → Type 0
TaskRuns tells told clock counts far says origin does at start end past past' said =
    TaskRan tells told clock counts far says origin does at start end past past' said ⊎ (JobRefused tells clock counts far (says origin) at start end said × (past' ≡ past))

-- The clause of a run, but for what it prints.
pub record RunsTask (tells told : Type 0) (says : Says) (does : DoingFor) (at : ℕ) (before after : World) (past past' : Past) (far far' : ℕ) (said : Said) : Type 0 where
  pub run : Run
  pub answers : Answers tells told does at before after past past' said run
  pub later : IsLater tells before after
  pub past_later : NoneFell past.faults past'.faults
  pub leaves : tells → Leaves before.disk after.disk far far' said.verdict run
  pub keeps : tells → (kept rest : History) → Kept true says (Through kept rest) (now before.disk) → KeepsAll says before.disk after.disk kept rest run
  pub shows : NeverDrops does → tells → told → Shows says before.disk after.disk past.rows past'.rows run
