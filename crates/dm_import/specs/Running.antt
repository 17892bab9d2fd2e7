-- A run over a disk and a history, behind the reading of the file: the list was opened and what was read was added, or it couldn't be opened.
use Rattle.std.specs.Prelude.{◌≡◌, ◌⊎◌, ℕ, List, Result}
use Rattle.dm_types.specs.Faults.{NoneFell}
use Rattle.dm_types.specs.Limits.{most_items}
use Rattle.dm_types.specs.declared.kinds.DiskKind.{DiskKind}
use Rattle.dm_disk_model.specs.Beside.{Besides}
use Rattle.dm_disk_model.specs.Disk.{History as Clock}
use Rattle.dm_kept.specs.Files.{Says}
use Rattle.dm_store.specs.View.{View}
use Rattle.dm_report.specs.Said.{Said}
use Rattle.dm_report.specs.declared.verdict.Verdict.{Verdict}
use Rattle.dm_answers.specs.Opening.{IsOpened}
use Rattle.dm_answers.specs.Reads.{IsSettledName}
use Rattle.dm_open.specs.Refused.{RunsOn}
use Rattle.dm_csv.specs.declared.row.ImportRow.{ImportRow}
use Rattle.dm_list.specs.Running.{JobRefused}
use Rattle.dm_past.specs.ByRows.{RowsRest}
use Rattle.dm_past.specs.Past.{Past}
use Rattle.dm_past.specs.Working.{TaskGoes}
use Rattle.dm_import.specs.Working.{Worked}

-- The list was opened with this origin, and what was read was added.
pub record ImportRan {D O : Type 0} (tells told : Type 0) (clock : D → Clock) (counts : D → DiskKind → ℕ) (far : D → ℕ) (says : O → Says) (origin : O) (read : Result (List ImportRow) Verdict) (at : ℕ) (start end : D) (past past' : Past) (said : Said) : Type 0 where
  pub opened : View D O
  pub ended : View D O
  pub end_is : end ≡ ended.disk
  pub origin_is : opened.origin ≡ origin
  pub limit : opened.items.limit ≡ most_items
  pub limits : opened.limits.items ≡ most_items
  pub is : IsOpened tells clock far (says origin) start at opened
  pub beside : tells → Besides (IsSettledName clock start) (clock start) (clock opened.disk)
  pub on : tells → RunsOn (says origin) (clock start) (clock opened.disk) is.found opened.list
  pub later : NoneFell (counts start) (counts opened.disk)
  pub worked : Worked told counts at read opened ended past past' said
  pub goes : TaskGoes tells clock counts far says opened ended past past'
  pub rest : RowsRest told past past'

-- or the list couldn't be opened, and the history wasn't asked
abbrev pub ImportRuns : {D O : Type 0} → Type 0 → Type 0 → (D → Clock) → (D → DiskKind → ℕ) → (D → ℕ) → (O → Says) → O → Result (List ImportRow) Verdict → ℕ → D → D → Past → Past → Said → Type 0
ImportRuns tells told clock counts far says origin read at start end past past' said =
    ImportRan tells told clock counts far says origin read at start end past past' said ⊎ (JobRefused tells clock counts far (says origin) at start end said × (past' ≡ past))
