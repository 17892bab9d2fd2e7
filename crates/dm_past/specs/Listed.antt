-- A command of the list, which a row of the history may answer.
use Rattle.std.specs.Prelude.{◌≡◌, ◌⊎◌, ℕ, List}
use Rattle.dm_types.specs.declared.kinds.DiskKind.{DiskKind}
use Rattle.dm_disk_model.specs.Disk.{History as Clock}
use Rattle.dm_edge.specs.declared.fault.NetFault.{NetFault}
use Rattle.dm_edge.specs.Wire.{Closed}
use Rattle.dm_kept.specs.Files.{Says}
use Rattle.dm_store.specs.View.{View}
use Rattle.dm_report.specs.Said.{Said}
use Rattle.dm_hist.specs.declared.row.Row.{Row}
use Rattle.dm_does.specs.declared.job.Job.{Job}
use Rattle.dm_does.specs.Answering.{Answers, Bringing}
use Rattle.dm_does.specs.Jobs.{HasJob}
use Rattle.dm_does.specs.Log.{Run, Untouched, Unread, Unopened, Opened, opened_of}
use Rattle.dm_does.specs.World.{World}
use Rattle.dm_list.specs.Running.{JobRefused, JobWorked, RunsBy}
use Rattle.dm_list.specs.Working.{Worked}
use Rattle.dm_past.specs.Answering.{given_by}
use Rattle.dm_past.specs.ByRows.{IsAnswered, NoRow, RowDoes, RowsRest}
use Rattle.dm_past.specs.Past.{Past}
use Rattle.dm_past.specs.Running.{RunsTask, TaskRan}
use Rattle.dm_past.specs.Working.{given_of}

-- The history was asked first: a row answered, or it gave no answer, and nothing else was done; or no row answers, and the job was done as it is without a history.
abbrev pub WorkedOrNot : {D O : Type 0} → Type 0 → Type 0 → (D → Clock) → (D → DiskKind → ℕ) → (D → ℕ) → (O → Says) → Type 0 → Job → ℕ → View D O → View D O → List Closed → List Closed → (NetFault → ℕ) → (NetFault → ℕ) → Past → Past → Said → Type 0
WorkedOrNot tells told clock counts far says net job at old new was closed before after past past' said =
    (Worked tells clock counts far says net job at old new was closed before after said × RowsRest told past past' × (told → NoRow job (given_of old past)))
    ⊎ (IsAnswered told (RowDoes told job) (given_of old past) past past' said × (new ≡ old) × (closed ≡ was) × (after ≡ before))

-- The job was done on the list, and no row answers it; or the list couldn't be opened.
pub data ListRan {D O : Type 0} (tells told : Type 0) (clock : D → Clock) (counts : D → DiskKind → ℕ) (far : D → ℕ) (says : O → Says) (net : Type 0) (origin : O) (job : Job) (at : ℕ) (start end : D) (was closed : List Closed) (before after : NetFault → ℕ) (past past' : Past) (said : Said) : Type 0 where
  worked : (w : JobWorked tells clock counts far says net origin job at start end was closed before after said) → (told → NoRow job (given_of w.opened past)) → RowsRest told past past'
      → ListRan tells told clock counts far says net origin job at start end was closed before after past past' said
  refused : JobRefused tells clock counts far (says origin) at start end said → closed ≡ was → after ≡ before → RowsRest told past past' → ListRan tells told clock counts far says net origin job at start end was closed before after past past' said

-- a row answered, or the history gave no answer, and no connection was made
pub record RowRan {D O : Type 0} (tells told : Type 0) (clock : D → Clock) (counts : D → DiskKind → ℕ) (far : D → ℕ) (says : O → Says) (origin : O) (job : Job) (at : ℕ) (start end : D) (was closed : List Closed) (before after : NetFault → ℕ) (past past' : Past) (said : Said) : Type 0 where
  pub ran : TaskRan tells told clock counts far says origin (RowDoes told job) at start end past past' said
  pub closed_is : closed ≡ was
  pub faults_are : after ≡ before

abbrev pub ListedRuns : {D O : Type 0} → Type 0 → Type 0 → (D → Clock) → (D → DiskKind → ℕ) → (D → ℕ) → (O → Says) → Type 0 → O → Job → ℕ → D → D → List Closed → List Closed → (NetFault → ℕ) → (NetFault → ℕ) → Past → Past → Said → Type 0
ListedRuns tells told clock counts far says net origin job at start end was closed before after past past' said =
    ListRan tells told clock counts far says net origin job at start end was closed before after past past' said ⊎ RowRan tells told clock counts far says origin job at start end was closed before after past past' said

-- no row answers what the words ask, on the list behind the opening
abbrev pub NoRowBy : (brings : ℕ → Bringing) (tells : Type 0) (words : List (List ℕ)) (at : ℕ) (before after : World) (said : Said) → List Row → (run : Run) → Answers brings tells words at before after said run → Type 0
NoRowBy brings tells words at before after said rows Untouched answers = Unit {0}
NoRowBy brings tells words at before after said rows Unread answers = Unit {0}
NoRowBy brings tells words at before after said rows (Unopened found recorded failed rest) answers = Unit {0}
NoRowBy brings tells words at before after said rows (Opened log) answers = NoRow answers.job (given_by (opened_of log) rows)

-- It ran as it does without a history, and no row answers. P is what holds besides of how far it came.
pub record RunsListed (P : Run → Type 0) (brings : ℕ → Bringing) (tells told : Type 0) (says : Says) (words : List (List ℕ)) (at : ℕ) (before after : World) (past past' : Past) (far far' : ℕ) (said : Said) : Type 0 where
  pub runs : RunsBy P brings tells says words at before after far far' said
  pub rest : RowsRest told past past'
  pub none : told → NoRowBy brings tells words at before after said past.rows runs.run runs.answers

-- the words are a job, and a row answered it, or the history gave no answer
pub record RunsRow (tells told : Type 0) (says : Says) (words : List (List ℕ)) (at : ℕ) (before after : World) (past past' : Past) (far far' : ℕ) (said : Said) : Type 0 where
  pub job : Job
  pub has : HasJob words job
  pub runs : RunsTask tells told says (RowDoes told job) at before after past past' far far' said

abbrev pub RunsEither : (Run → Type 0) → (ℕ → Bringing) → Type 0 → Type 0 → Says → List (List ℕ) → ℕ → World → World → Past → Past → ℕ → ℕ → Said → Type 0
RunsEither P brings tells told says words at before after past past' far far' said =
    RunsListed P brings tells told says words at before after past past' far far' said ⊎ RunsRow tells told says words at before after past past' far far' said
