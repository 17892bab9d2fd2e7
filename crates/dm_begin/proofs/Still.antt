-- What a desk keeps where a call left the disk's history as it was.
use Rattle.std.proofs.Common.{◌≡◌, Bool, false, [], refl, sym, subst}
use Rattle.dm_disk_model.specs.Disk.{History as Clock, now}
use Rattle.dm_disk_model.specs.Moments.{Throughout}
use Rattle.dm_disk_model.proofs.Reaching.{at_start}
use Rattle.dm_item.specs.Lawful.{History}
use Rattle.dm_kept.specs.Files.{Says}
use Rattle.dm_kept.specs.Kept.{Kept}
use Rattle.dm_kept.specs.Recovery.{Through}
use Rattle.dm_kept.proofs.Resting as resting
use Rattle.dm_store.specs.Keeps.{HoldsOf, IsDesk, Keeps, RestsBy}
use Rattle.dm_store.specs.Lives.{covers_of}
use Rattle.dm_store.specs.View.{View}
use Rattle.dm_store.proofs.Keeping.{at_rest, keeps_then, step_desk, step_keeps, whole_loses}

module _ {D O : Type 0} (tells : Type 0) (clock : D → Clock) (says : O → Says) (desk : View D O) (disk : D) (same : clock disk ≡ clock desk.disk) (is : IsDesk tells clock desk) (whole : desk.broken ≡ false) where
  goes : tells → (good : Bool) (said : Says) (before : History) → HoldsOf good said clock desk before
      → Throughout (clock desk.disk) (clock disk) (Kept good said (Through before [])) × HoldsOf good said clock (record desk { disk = disk }) before
  goes told good said before holds = (
    subst (λ (c : Clock). Throughout (clock desk.disk) c (Kept good said (Through before []))) (sym same)
        (at_start (clock desk.disk) (Kept good said (Through before []))
        (resting.rests_kept good said before [] desk.gate (covers_of desk.lives) (now (clock desk.disk)) (at_rest good said clock desk before whole holds).rests)),
    record {
      items = holds.items;
      rests = subst (λ (c : Clock). RestsBy desk.broken good said before desk.failed desk.gate (covers_of desk.lives) (now c)) (sym same) holds.rests;
    },
  )

  pub still_keeps : Keeps tells clock says desk (record desk { disk = disk })
  still_keeps = step_keeps tells clock says desk (record desk { disk = disk }) refl (is.failed whole) goes (whole_loses tells clock desk (record desk { disk = disk }) whole)

  pub still_desk : IsDesk tells clock (record desk { disk = disk })
  still_desk = step_desk tells clock says desk (record desk { disk = disk }) refl (is.failed whole) goes is refl refl refl (λ unbroken. is.lives whole)

  -- and what else follows
  pub still_then : (new : View D O) → Keeps tells clock says (record desk { disk = disk }) new → Keeps tells clock says desk new
  still_then new = keeps_then tells clock says desk (record desk { disk = disk }) new still_keeps refl (is.failed whole)
