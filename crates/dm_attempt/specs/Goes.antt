-- What calls on a desk leave of it, one behind another.
use Rattle.std.specs.Prelude.{◌≡◌, ℕ, Bool, List}
use Rattle.dm_types.specs.Faults.{NoneFell}
use Rattle.dm_types.specs.declared.kinds.DiskKind.{DiskKind}
use Rattle.dm_disk_model.specs.Beside.{Besides}
use Rattle.dm_disk_model.specs.Disk.{History as Clock}
use Rattle.dm_item.specs.Lawful.{History}
use Rattle.dm_kept.specs.Files.{Says}
use Rattle.dm_store.specs.Keeps.{Keeps, StaysNear}
use Rattle.dm_store.specs.View.{View}
use Rattle.dm_answers.specs.Frame.{Went}

-- These entries were recorded, and one more perhaps failed. Every desk's promise is kept meanwhile, no count of the disk fell, and under each name but the
-- spared ones a crash leaves what one at the start might have left.
pub record DeskGoes {D O : Type 0} (tells : Type 0) (clock : D → Clock) (says : O → Says) (far : D → ℕ) (counts : D → DiskKind → ℕ) (spared : List ℕ → Type 0) (old new : View D O) (recorded failed : History) (broken : Bool) : Type 0 where
  pub went : Went old new recorded failed broken
  pub keeps : Keeps tells clock says old new
  pub near : StaysNear (far old.disk) (far new.disk) old new
  pub later : NoneFell (counts old.disk) (counts new.disk)
  pub beside : tells → Besides spared (clock old.disk) (clock new.disk)

-- the same of a call whatever it recorded
pub record CallGoes {D O : Type 0} (tells : Type 0) (clock : D → Clock) (says : O → Says) (far : D → ℕ) (counts : D → DiskKind → ℕ) (spared : List ℕ → Type 0) (old new : View D O) : Type 0 where
  pub keeps : Keeps tells clock says old new
  pub near : StaysNear (far old.disk) (far new.disk) old new
  pub later : NoneFell (counts old.disk) (counts new.disk)
  pub beside : tells → Besides spared (clock old.disk) (clock new.disk)
