-- What ends an attempt, made ready before the first call on the disk.
use Rattle.std.specs.Prelude.{◌≡◌, ℕ, Some, None, Result, Ok, Err}
use Rattle.dm_types.specs.declared.kinds.DiskKind.{DiskKind}
use Rattle.dm_disk_model.specs.Disk.{History as Clock}
use Rattle.dm_store.specs.declared.life.Life.{Life}
use Rattle.dm_store.specs.declared.pass.Pass.{Pass}
use Rattle.dm_answers.specs.declared.fault.DeskFault.{DeskFault}
use Rattle.dm_answers.specs.Faults.{desk_kind}
use Rattle.dm_answers.specs.Finish.{FinishAnswers, MayFinish, total_of}
use Rattle.dm_answers.specs.Running.{RunsWith}
use Rattle.dm_types.specs.declared.item.Item.{Item}
use Rattle.dm_types.specs.declared.item.ItemId.{ItemId}
use Rattle.dm_item.specs.Listing.{item_in}
use Rattle.dm_store.specs.View.{View}
use Rattle.dm_land.specs.Preparing.{PreparedOf}
use Rattle.dm_finish.specs.declared.finishing.Ending.{Ending}
use Rattle.dm_finish.specs.Ending.{IsNaming}

-- what was landed is ready to be saved, the file to be named, and the stated digest is the item's
pub record IsReadyEnding {D O : Type 0} (desk : View D O) (id : ItemId) (total : ℕ) (ending : Ending) : Type 0 where
  pub item : Item
  pub there : item_in id.0 desk.items.items ≡ Some item
  pub saving : PreparedOf desk id ending.saving
  pub naming : IsNaming desk id total ending.naming
  pub stated_is : item.digest ≡ ending.stated

-- all of it has come, and this is its total
pub record IsFullAt (total : ℕ) (item : Item) (life : Life) : Type 0 where
  pub may : MayFinish item life
  pub total_is : total ≡ total_of item life

-- the attempt's total, or `finish` is refused on the desk as it is, and no call on the disk was made
abbrev pub FinishChecked : {D O : Type 0} → Type 0 → (D → Clock) → (D → DiskKind → ℕ) → View D O → Pass → ℕ → Result ℕ DeskFault → Type 0
FinishChecked tells clock counts desk pass at (Ok total) = RunsWith desk pass.id pass.attempt (IsFullAt total)
FinishChecked tells clock counts desk pass at (Err fault) = FinishAnswers tells clock counts desk desk pass at (Err fault) × (desk_kind fault ≡ None)
