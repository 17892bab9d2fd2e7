-- What the calls of an attempt leave of its files, as they read, and which names a call may touch.
use Rattle.std.specs.Prelude.{◌≡◌, ◌⊎◌, ◌||◌, ℕ, true, false, List, [], Option, Some, IsTrue, Result, Ok, Err}
use Rattle.dm_types.specs.Name.{IsPart}
use Rattle.dm_types.specs.declared.item.Item.{Item}
use Rattle.dm_types.specs.declared.item.ItemId.{ItemId}
use Rattle.dm_disk_model.specs.Disk.{History as Clock, bytes_at, now}
use Rattle.dm_disk_model.specs.File.{overwrite}
use Rattle.dm_item.specs.Lawful.{History, items_of}
use Rattle.dm_item.specs.Listing.{item_in}
use Rattle.dm_item.specs.Row.{is_complete, is_finishing}
use Rattle.dm_journal.specs.AtRest.{journal_place}
use Rattle.dm_kept.specs.Spelled.{Records}
use Rattle.dm_store.specs.Lives.{part_place}
use Rattle.dm_store.specs.Store.{view_of}
use Rattle.dm_store.specs.View.{View}
use Rattle.dm_store.specs.declared.store.Store.{Store}
use Rattle.dm_answers.specs.declared.fault.OpenFault.{OpenFault}
use Rattle.dm_answers.specs.Running.{part_bytes}
use Rattle.dm_answers.specs.Settling.{name_place, stands}

-- P holds of what the part of the item with the id read before, and reads now
abbrev pub PartReads : {D O : Type 0} → (D → Clock) → View D O → View D O → ItemId → (Option (List ℕ) → Option (List ℕ) → Type 0) → Type 0
PartReads clock old new id P = (item : Item) → item_in id.0 old.items.items ≡ Some item → P (part_bytes clock old.disk item) (part_bytes clock new.disk item)

-- it has no bytes now
abbrev pub IsEmptied : Option (List ℕ) → Option (List ℕ) → Type 0
IsEmptied before after = after ≡ Some []

-- it has the piece at the place, and else what it had
abbrev pub HasPiece : ℕ → List ℕ → Option (List ℕ) → Option (List ℕ) → Type 0
HasPiece at piece before after = (file : List ℕ) → before ≡ Some file → after ≡ Some (overwrite file at piece)

-- the name is that of the item with the id, and it is given to its file, or was
pub record HasNameOf {D O : Type 0} (desk : View D O) (id : ItemId) (name : List ℕ) : Type 0 where
  pub item : Item
  pub there : item_in id.0 desk.items.items ≡ Some item
  pub named : item.name ≡ Some name
  pub given : IsTrue (is_finishing item.phase || is_complete item.phase)

-- a part's name, or that one
abbrev pub IsPartOrNameOf : {D O : Type 0} → View D O → ItemId → List ℕ → Type 0
IsPartOrNameOf desk id name = IsPart name ⊎ HasNameOf desk id name

-- The name is that of an item that is being finished in what reads as the journal, and of its two files the part alone stands: it gets the file.
pub record IsGivenName {D : Type 0} (clock : D → Clock) (disk : D) (name : List ℕ) : Type 0 where
  pub found : History
  pub reads : Records (bytes_at (now (clock disk)) journal_place) found
  pub id : ℕ
  pub item : Item
  pub there : item_in id (items_of found) ≡ Some item
  pub finishing : IsTrue (is_finishing item.phase)
  pub named : item.name ≡ Some name
  pub parted : stands (clock disk) (part_place item.id.0 item.epoch.0) ≡ true
  pub free : stands (clock disk) (name_place item) ≡ false

abbrev pub IsSettledName : {D : Type 0} → (D → Clock) → D → List ℕ → Type 0
IsSettledName clock disk name = IsPart name ⊎ IsGivenName clock disk name

-- an opened store as a desk is seen
abbrev pub seen : {D O : Type 0} → Result (Store D O) (OpenFault D) → Result (View D O) (OpenFault D)
seen (Ok store) = Ok (view_of store)
seen (Err fault) = Err fault
