-- The whole clause of a run on the list and the history: one verdict, one log and one moment explain all that is seen of it.
use Rattle.std.specs.Prelude.{◌≡◌, ℕ, true}
use Rattle.dm_types.specs.Faults.{NoneFell}
use Rattle.dm_disk_model.specs.Disk.{now}
use Rattle.dm_item.specs.Lawful.{History}
use Rattle.dm_kept.specs.Files.{Says}
use Rattle.dm_kept.specs.Kept.{Kept}
use Rattle.dm_kept.specs.Recovery.{Through}
use Rattle.dm_report.specs.Said.{Said}
use Rattle.dm_does.specs.Explaining.{Telling}
use Rattle.dm_does.specs.Leaving.{KeepsAll, Leaves}
use Rattle.dm_does.specs.Log.{Run}
use Rattle.dm_does.specs.Printing.{Outputs, Prints}
use Rattle.dm_does.specs.World.{IsLater, World}
use Rattle.dm_past.specs.Answering.{Answers}
use Rattle.dm_past.specs.Past.{Past}
use Rattle.dm_past.specs.Showing.{Shows}
use Rattle.dm_past.specs.Tasks.{DoingFor, NeverDrops}

-- `told`: the history tells its rows. `does`: what is to be done.
pub record Explains (tells : Telling) (told : Type 0) (says : Says) (does : DoingFor) (moment : ℕ) (before after : World) (past past' : Past) (far far' : ℕ) (seen seen' : Outputs) (status : ℕ) : Type 0 where
  pub said : Said
  pub run : Run
  -- the moment of every entry, for which the clock was asked once
  pub at : ℕ
  pub at_is : tells.clock → at ≡ moment
  -- the texts and the status are those of what was said
  pub prints : Prints tells.outputs seen seen' said status
  -- what was said, recorded and changed is what is to be done to the list and of the rows, or how far it came until a failure that was met
  pub answers : Answers tells.disk told does at before after past past' said run
  pub later : IsLater tells.disk before after
  pub past_later : NoneFell past.faults past'.faults
  -- what each moment leaves
  pub leaves : tells.disk → Leaves before.disk after.disk far far' said.verdict run
  pub keeps : tells.disk → (kept rest : History) → Kept true says (Through kept rest) (now before.disk) → KeepsAll says before.disk after.disk kept rest run
  -- what each stop shows, by the list and the history together, where no row is to be dropped
  pub shows : NeverDrops does → tells.disk → told → Shows says before.disk after.disk past.rows past'.rows run
