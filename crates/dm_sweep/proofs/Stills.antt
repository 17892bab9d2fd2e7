-- Calls on the disk of a desk that leave its history: nothing is done.
use Rattle.std.proofs.Common.{◌≡◌, refl, sym, subst}
use Rattle.dm_disk_model.specs.Disk.{DiskState, History as Clock, IsSoundDisk, now}
use Rattle.dm_disk_model.specs.Moments.{Throughout}
use Rattle.dm_disk_model.proofs.Reaching.{at_start}
use Rattle.dm_kept.specs.Files.{Says}
use Rattle.dm_kept.specs.Kept.{StaysKept}
use Rattle.dm_store.specs.Keeps.{IsDesk, Keeps}
use Rattle.dm_store.specs.View.{View}
use Rattle.dm_store.proofs.Keeping.{files_desk, files_keep}

itself : (said : Says) (disk : DiskState) → StaysKept said disk disk
itself said disk = record { state = refl; names = refl; reads = λ name. refl; quiet = λ quiet. quiet; facts = λ covers items facts. facts }

module _ {D O : Type 0} (tells : Type 0) (clock : D → Clock) (says : O → Says) (desk : View D O) (disk : D) (sound : tells → IsSoundDisk (now (clock desk.disk))) (same : clock disk ≡ clock desk.disk) where
  stays : tells → (said : Says) → Throughout (clock desk.disk) (clock disk) (StaysKept said (now (clock desk.disk)))
  stays told said =
      subst (λ (c : Clock). Throughout (clock desk.disk) c (StaysKept said (now (clock desk.disk)))) (sym same)
      (at_start (clock desk.disk) (StaysKept said (now (clock desk.disk))) (itself said (now (clock desk.disk))))

  pub still_keeps : Keeps tells clock says desk (record desk { disk = disk })
  still_keeps = files_keep tells clock says desk disk sound stays

  pub still_desk : IsDesk tells clock desk → IsDesk tells clock (record desk { disk = disk })
  still_desk is = files_desk tells clock says desk disk sound stays is
