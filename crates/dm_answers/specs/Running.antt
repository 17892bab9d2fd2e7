-- The item with an id, and the attempt that runs.
use Rattle.std.specs.Prelude.{◌≡◌, ℕ, ◌==◌, cond, List, [], ◌∷◌, length, Option, Some, None, IsSome, IsTrue}
use Rattle.dm_types.specs.declared.entry.Entry.TheVariants as entries
use Rattle.dm_types.specs.declared.item.Attempt.{Attempt}
use Rattle.dm_types.specs.declared.item.Item.{Item}
use Rattle.dm_types.specs.declared.item.ItemId.{ItemId}
use Rattle.dm_types.specs.declared.item.Phase.{Phase}
use Rattle.dm_disk_model.specs.Disk.{History as Clock, bytes_at, now}
use Rattle.dm_slice.specs.Cover.{normal_of}
use Rattle.dm_item.specs.Fields.{is_running}
use Rattle.dm_item.specs.Lawful.{History}
use Rattle.dm_item.specs.Listing.{item_in}
use Rattle.dm_store.specs.declared.life.Life.{Life}
use Rattle.dm_store.specs.Lives.{life_in, part_place}
use Rattle.dm_store.specs.View.{View}

-- no item has the id
pub record HasNone {D O : Type 0} (desk : View D O) (id other : ItemId) : Type 0 where
  pub is : other ≡ id
  pub none : item_in id.0 desk.items.items ≡ None

-- P holds of the item with the id
pub record ItemWith {D O : Type 0} (desk : View D O) (id : ItemId) (P : Item → Type 0) : Type 0 where
  pub item : Item
  pub there : item_in id.0 desk.items.items ≡ Some item
  pub is : P item

-- The item with the id runs under the attempt, and P holds of it and of the attempt's life.
pub record RunsWith {D O : Type 0} (desk : View D O) (id : ItemId) (attempt : Attempt) (P : Item → Life → Type 0) : Type 0 where
  pub item : Item
  pub there : item_in id.0 desk.items.items ≡ Some item
  pub runs : IsTrue (is_running item.phase)
  pub attempt_is : item.attempt ≡ attempt
  pub life : Life
  pub lives : life_in id.0 desk.lives ≡ Some life
  pub is : P item life

-- the first reply was told
abbrev pub IsDescribed : Item → Life → Type 0
IsDescribed item life = IsSome item.key

-- the item is in this phase, and the first reply wasn't told
pub record IsUntold (phase : Phase) (item : Item) (life : Life) : Type 0 where
  pub phase_is : phase ≡ item.phase
  pub untold : item.key ≡ None

-- the item is in this phase, and the first reply was told already
pub record IsTold (phase : Phase) (item : Item) (life : Life) : Type 0 where
  pub phase_is : phase ≡ item.phase
  pub told : IsSome item.key

-- what is saved of an attempt: nothing where nothing was landed since the last time
abbrev pub saving : Item → Life → History
saving item life = cond (life.unsaved == 0) [] (entries.Progress item.id (normal_of item.total life.cover) ∷ [])

-- what reads as the item's part
abbrev pub part_bytes : {D : Type 0} → (D → Clock) → D → Item → Option (List ℕ)
part_bytes clock disk item = bytes_at (now (clock disk)) (part_place item.id.0 item.epoch.0)

-- how long what was found is: nothing has no bytes
abbrev pub length_of : Option (List ℕ) → ℕ
length_of None = 0
length_of (Some bytes) = length bytes
