-- The whole clause of a run of the program: one verdict, one log and one moment explain all that is seen of it.
use Rattle.std.specs.Prelude.{◌≡◌, ℕ, true, List}
use Rattle.dm_disk_model.specs.Disk.{now}
use Rattle.dm_item.specs.Lawful.{History}
use Rattle.dm_kept.specs.Files.{Says}
use Rattle.dm_kept.specs.Kept.{Kept}
use Rattle.dm_kept.specs.Recovery.{Through}
use Rattle.dm_report.specs.Said.{Said}
use Rattle.dm_does.specs.Answering.{Answers, Bringing}
use Rattle.dm_does.specs.Leaving.{KeepsAll, Leaves}
use Rattle.dm_does.specs.Log.{Run}
use Rattle.dm_does.specs.Printing.{Outputs, Prints}
use Rattle.dm_does.specs.World.{IsLater, World}

-- which of the outside's objects tell what they hold
pub record Telling : Type 1 where
  pub disk : Type 0
  pub clock : Type 0
  pub outputs : Type 0

pub record Explains (brings : ℕ → Bringing) (tells : Telling) (says : Says) (words : List (List ℕ)) (moment : ℕ) (before after : World) (far far' : ℕ) (seen seen' : Outputs) (status : ℕ) : Type 0 where
  pub said : Said
  pub run : Run
  -- the moment of every entry, for which the clock was asked once
  pub at : ℕ
  pub at_is : tells.clock → at ≡ moment
  -- the texts and the status are those of what was said
  pub prints : Prints tells.outputs seen seen' said status
  -- what was said is what the list, or a failure that was met, makes of the words
  pub answers : Answers brings tells.disk words at before after said run
  pub later : IsLater tells.disk before after
  -- what each moment leaves
  pub leaves : tells.disk → Leaves before.disk after.disk far far' said.verdict run
  pub keeps : tells.disk → (kept rest : History) → Kept true says (Through kept rest) (now before.disk) → KeepsAll says before.disk after.disk kept rest run
