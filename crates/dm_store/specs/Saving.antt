-- How what is live of an attempt is saved.
use Rattle.std.specs.Prelude.{◌≡◌, ◌⊎◌, ℕ, true, [], ◌∷◌, Option, Some, IsSome, Result, Ok, Err}
use Rattle.dm_types.specs.Faults.{Rose}
use Rattle.dm_types.specs.declared.entry.Entry.{Entry}
use Rattle.dm_types.specs.declared.entry.Entry.TheVariants as entries
use Rattle.dm_types.specs.declared.item.Item.{Item}
use Rattle.dm_types.specs.declared.item.ItemId.{ItemId}
use Rattle.dm_types.specs.declared.kinds.DiskKind.{DiskKind}
use Rattle.dm_policy.specs.Cause.{reason_of_file}
use Rattle.dm_slice.specs.Cover.{normal_of}
use Rattle.dm_item.specs.Listing.{item_in}
use Rattle.dm_store.specs.declared.life.Life.{Life}
use Rattle.dm_store.specs.declared.saving.SaveFault.{SaveFault}
use Rattle.dm_store.specs.declared.saving.SaveFault.TheVariants.{File, Journal}
use Rattle.dm_store.specs.Becomes.{Becomes, Recorded}
use Rattle.dm_store.specs.Lives.{life_in}
use Rattle.dm_store.specs.View.{View}

-- The item of an attempt was described, and the entry says of it that all of its live places are saved.
pub record IsSaving {D O : Type 0} (desk : View D O) (id : ItemId) (entry : Entry) : Type 0 where
  pub item : Item
  pub life : Life
  pub there : item_in id.0 desk.items.items ≡ Some item
  pub lives : life_in id.0 desk.lives ≡ Some life
  pub told : IsSome item.key
  pub is : entry ≡ entries.Progress id (normal_of item.total life.cover)

-- each fault has its kind
abbrev pub save_kind : SaveFault → Option DiskKind
save_kind (File kind) = Some kind
save_kind (Journal kind) = Some kind

-- A call on the part failed in this way, and then the journal at the interruption.
pub record FellStopped {D O : Type 0} (before after : DiskKind → ℕ) (old new : View D O) (id : ItemId) : Type 0 where
  pub kind : DiskKind
  pub rose : Rose (before kind) (after kind)
  pub becomes : Becomes old new [] (entries.Broke id (reason_of_file kind) ∷ []) true

-- It is saved; or the part failed and the item is interrupted; or the journal failed at the one or the other.
abbrev pub SaveMakes : {D O : Type 0} → (DiskKind → ℕ) → (DiskKind → ℕ) → View D O → View D O → ItemId → Entry → Result (Unit {0}) SaveFault → Type 0
SaveMakes before after old new id entry (Ok done) = Recorded old new (entry ∷ [])
SaveMakes before after old new id entry (Err (File kind)) = Recorded old new (entries.Broke id (reason_of_file kind) ∷ [])
SaveMakes before after old new id entry (Err (Journal kind)) = Becomes old new [] (entry ∷ []) true ⊎ FellStopped before after old new id
