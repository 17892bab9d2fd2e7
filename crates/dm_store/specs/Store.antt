-- The parts of a desk, as it is seen from outside, and the room that it keeps.
use Rattle.std.specs.Prelude.{◌+◌, ◌*◌, ◌≤◌, ℕ, [], ◌∷◌, Option, Some, None, vec_capacity, length}
use Rattle.dm_types.specs.declared.entry.Entry.{Entry}
use Rattle.dm_disk_model.specs.Disk.{History as Clock}
use Rattle.dm_item.specs.Lawful.{History}
use Rattle.dm_item.specs.Listing.{applied}
use Rattle.dm_store.specs.Keeps.{IsDesk}
use Rattle.dm_store.specs.Lives.{lives_after}
use Rattle.dm_store.specs.View.{View}
use Rattle.dm_store.specs.declared.store.Store.{Store}

abbrev pub list_of : Option Entry → History
list_of None = []
list_of (Some entry) = entry ∷ []

abbrev pub view_of : {D O : Type 0} → Store D O → View D O
view_of s = record {
  disk = s.disk;
  origin = s.origin;
  limits = s.limits;
  items = s.items;
  lives = s.lives.items;
  gate = s.journal;
  broken = s.broken;
  list = s.list.items;
  failed = list_of s.failed;
}

-- the list has room for so many entries, and for three of each attempt that runs: with those it is ended without memory
abbrev pub HasRoomOf : {D O : Type 0} → ℕ → Store D O → Type 0
HasRoomOf count store = length store.list.items + count + 3 * length store.lives.items ≤ vec_capacity store.list

-- there is room for the entry, and then for three of each attempt that still runs
abbrev pub HasRoomBehind : {D O : Type 0} → ℕ → Entry → Store D O → Type 0
HasRoomBehind count entry store = length store.list.items + (count + 1) + 3 * length (lives_after entry (applied entry store.items) store.lives.items) ≤ vec_capacity store.list

-- what room is left behind the entry
abbrev pub KeepsRoom : {D O : Type 0} → Entry → Store D O → Store D O → Type 0
KeepsRoom entry old new = (count : ℕ) → HasRoomBehind count entry old → HasRoomOf count new

pub record IsStore {D O : Type 0} (tells : Type 0) (clock : D → Clock) (store : Store D O) : Type 0 where
  pub desk : IsDesk tells clock (view_of store)
  pub room : HasRoomOf 0 store
