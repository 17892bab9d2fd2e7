-- What calls on a desk make of it, one behind another.
use Rattle.std.specs.Prelude.{◌≡◌, ℕ, true, [], ◌∷◌, ◌++◌}
use Rattle.dm_types.specs.Faults.{NoneFell}
use Rattle.dm_types.specs.Name.{IsPart}
use Rattle.dm_types.specs.declared.entry.Entry.{Entry}
use Rattle.dm_types.specs.declared.kinds.DiskKind.{DiskKind}
use Rattle.dm_disk_model.specs.Beside.{Besides}
use Rattle.dm_disk_model.specs.Disk.{History as Clock}
use Rattle.dm_item.specs.Lawful.{History}
use Rattle.dm_kept.specs.Files.{Says}
use Rattle.dm_store.specs.Becomes.{Becomes, Recorded}
use Rattle.dm_store.specs.Keeps.{Keeps, StaysNear}
use Rattle.dm_store.specs.View.{View}
use Rattle.dm_does.specs.Log.{ArePlain}

-- The desk is as it was; or these entries were recorded, of which none opens the list again; or these were, and then this one failed, and the desk is broken.
pub data Moved {D O : Type 0} (old new : View D O) : Type 0 where
  same : new ≡ old → Moved old new
  recorded : (entries : History) → ArePlain entries → Recorded old new entries → Moved old new
  fell : (entries : History) (entry : Entry) → ArePlain (entries ++ entry ∷ []) → Becomes old new entries (entry ∷ []) true → Moved old new

-- what such calls keep: the crash clause, the user's files but parts, the counts, and the count of far writes
pub record Steps {D O : Type 0} (tells : Type 0) (clock : D → Clock) (counts : D → DiskKind → ℕ) (far : D → ℕ) (says : O → Says) (old new : View D O) : Type 0 where
  pub moved : Moved old new
  pub keeps : Keeps tells clock says old new
  pub beside : tells → Besides IsPart (clock old.disk) (clock new.disk)
  pub later : NoneFell (counts old.disk) (counts new.disk)
  pub near : StaysNear (far old.disk) (far new.disk) old new
