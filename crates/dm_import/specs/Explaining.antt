-- The whole clause of a run of an import: one verdict, one log and one moment explain all that is seen of it.
use Rattle.std.specs.Prelude.{◌≡◌, ℕ, true, List}
use Rattle.dm_disk_model.specs.Disk.{now}
use Rattle.dm_item.specs.Lawful.{History}
use Rattle.dm_kept.specs.Files.{Says}
use Rattle.dm_kept.specs.Kept.{Kept}
use Rattle.dm_kept.specs.Recovery.{Through}
use Rattle.dm_report.specs.Said.{Said}
use Rattle.dm_does.specs.Explaining.{Telling}
use Rattle.dm_does.specs.Leaving.{KeepsAll, Leaves}
use Rattle.dm_does.specs.Log.{Run}
use Rattle.dm_does.specs.Printing.{Outputs, Prints}
use Rattle.dm_does.specs.World.{IsLater, World}
use Rattle.dm_past.specs.ByRows.{RowsRest}
use Rattle.dm_past.specs.Past.{Past}
use Rattle.dm_import.specs.Answering.{Answers}

-- The clause of a run, but for what it prints. `told`: the history tells its rows.
pub record RunsImport (tells told : Type 0) (says : Says) (name : List ℕ) (at : ℕ) (before after : World) (past past' : Past) (far far' : ℕ) (said : Said) : Type 0 where
  pub run : Run
  pub answers : Answers tells told name at before after past past' said run
  pub later : IsLater tells before after
  pub rest : RowsRest told past past'
  pub leaves : tells → Leaves before.disk after.disk far far' said.verdict run
  pub keeps : tells → (kept rest : History) → Kept true says (Through kept rest) (now before.disk) → KeepsAll says before.disk after.disk kept rest run

pub record ExplainsImport (tells : Telling) (told : Type 0) (says : Says) (name : List ℕ) (moment : ℕ) (before after : World) (past past' : Past) (far far' : ℕ) (seen seen' : Outputs) (status : ℕ) : Type 0 where
  pub said : Said
  pub run : Run
  -- the moment of every entry, for which the clock was asked once
  pub at : ℕ
  pub at_is : tells.clock → at ≡ moment
  -- the texts and the status are those of what was said
  pub prints : Prints tells.outputs seen seen' said status
  -- what was said and recorded is what the file, the list and the rows make of it, or how far it came until a failure that was met
  pub answers : Answers tells.disk told name at before after past past' said run
  pub later : IsLater tells.disk before after
  -- the history keeps its rows
  pub rest : RowsRest told past past'
  -- what each moment leaves
  pub leaves : tells.disk → Leaves before.disk after.disk far far' said.verdict run
  pub keeps : tells.disk → (kept rest : History) → Kept true says (Through kept rest) (now before.disk) → KeepsAll says before.disk after.disk kept rest run
