-- The list of items as it is kept, and what one entry makes of it.
use Rattle.std.specs.Prelude.{◌≡◌, ℕ, ◌+◌, ◌≤◌, ◌<◌, Bool, true, false, ◌==◌, cond, ◌⊎◌, List, [], ◌∷◌, ◌++◌, map, length, Option, Some, None, IsTrue, option_and_then, find, position, get_or}
use Rattle.dm_types.specs.declared.item.Item.{Item}
use Rattle.dm_types.specs.declared.item.ItemId.{ItemId}
use Rattle.dm_types.specs.declared.entry.Entry.{Entry}
use Rattle.dm_types.specs.declared.entry.Entry.TheVariants as entries
use Rattle.dm_item.specs.Fields.{added_item, is_gone}
use Rattle.dm_item.specs.Row.{Further, allows, changed, stopped_item, target_of}
use Rattle.dm_item.specs.Words.{IsFreeWord}
use Rattle.dm_item.specs.Restored.{IsRestorable}

pub record Listing : Type 0 where
  -- how many items are taken on
  pub limit : ℕ
  -- the id that the next item gets
  pub next : ℕ
  -- no entry was taken
  pub is_first : Bool
  -- only Reopened and Restored entries were taken
  pub is_early : Bool
  -- the items, by rising id
  pub items : List Item

-- the item with an id
abbrev pub item_in : ℕ → List Item → Option Item
item_in id items = find (λ item. item.id.0 == id) items

-- the first place of an item with this id
abbrev pub place_in : ℕ → List Item → Option ℕ
place_in id items = position (λ item. item.id.0 == id) items

-- the list with another item under an id
abbrev pub put_in : ℕ → Item → List Item → List Item
put_in id new [] = []
put_in id new (item ∷ rest) = cond (item.id.0 == id) (new ∷ rest) (item ∷ put_in id new rest)

-- the list without the item with an id
abbrev pub without : ℕ → List Item → List Item
without id [] = []
without id (item ∷ rest) = cond (item.id.0 == id) rest (item ∷ without id rest)

-- the row of an entry that names an item
abbrev pub Row : Entry → List Item → Option Item → Type 0
Row e items None = ⊥
Row e items (Some item) = IsTrue (allows e item.phase) × Further e items item

abbrev pub RowAt : Entry → List Item → Option ItemId → Type 0
RowAt e items None = ⊥
RowAt e items (Some id) = Row e items (item_in id.0 items)

-- the entry meets its row
abbrev pub Meets : Listing → Entry → Type 0
Meets v (entries.Added id word address wish digest at) = (id.0 ≡ v.next) × IsFreeWord word v.items
Meets v (entries.Reopened next at) = (next ≡ v.next) ⊎ (IsTrue v.is_first × (1 ≤ next))
Meets v (entries.Restored item) = IsRestorable v.is_early v.next v.items item
Meets v e = RowAt e v.items (target_of e)

-- there is room for one more item
pub record HasRoom (v : Listing) : Type 0 where
  pub room : length v.items < v.limit
  pub number : v.next < 4294967295

-- only an Added needs room
abbrev pub HasRoomFor : Listing → Entry → Type 0
HasRoomFor v (entries.Added id word address wish digest at) = HasRoom v
HasRoomFor v _ = Unit {0}

-- the list takes the entry, if there is memory
pub record Admits (v : Listing) (e : Entry) : Type 0 where
  pub room : HasRoomFor v e
  pub meets : Meets v e

-- the list with the item of an id as an entry leaves it
abbrev pub changed_at : Entry → ℕ → List Item → List Item
changed_at e id [] = []
changed_at e id (item ∷ rest) = cond (item.id.0 == id) (changed e item ∷ rest) (item ∷ changed_at e id rest)

abbrev pub items_after : Entry → Option ItemId → List Item → List Item
items_after e None items = items
items_after e (Some id) items = cond (is_gone e) (without id.0 items) (changed_at e id.0 items)

-- what an entry makes of the list
abbrev pub applied : Entry → Listing → Listing
applied (entries.Added id word address wish digest at) v =
    record v { next = id.0 + 1; is_first = false; is_early = false; items = v.items ++ added_item id word address wish digest at ∷ [] }
applied (entries.Reopened next at) v =
    record v { next = cond v.is_first next v.next; is_first = false; items = map stopped_item v.items }
applied (entries.Restored item) v =
    record v { is_first = false; items = v.items ++ item ∷ [] }
applied e v = record v { is_first = false; is_early = false; items = items_after e (target_of e) v.items }

-- the list takes the entry
pub record Takes (e : Entry) (old new : Listing) : Type 0 where
  pub room : HasRoomFor old e
  pub meets : Meets old e
  pub value : new ≡ applied e old

abbrev pub is_broke : Entry → Bool
is_broke (entries.Broke id reason) = true
is_broke _ = false

-- an entry whose effect on the list wants no memory
abbrev pub is_light : Entry → Bool
is_light (entries.Added id word address wish digest at) = false
is_light (entries.Began id attempt by at) = true
is_light (entries.Described id key last_address total name modified) = false
is_light (entries.Progress id slices) = false
is_light (entries.Broke id reason) = true
is_light (entries.Paused id) = true
is_light (entries.Cancelled id) = true
is_light (entries.Restarted id epoch because) = false
is_light (entries.Finishing id total) = true
is_light (entries.Done id digest at) = true
is_light (entries.Removed id) = true
is_light (entries.Archived id) = true
is_light (entries.Reopened next at) = true
is_light (entries.Restored item) = false
is_light (entries.Asked id) = true

-- the item that the entry changes
abbrev pub target_in : Entry → List Item → Option Item
target_in e items = option_and_then (λ id. item_in id.0 items) (target_of e)

-- the entry names the item at this place, and its row takes the entry
pub record IsRowAt (e : Entry) (items : List Item) (place : ℕ) : Type 0 where
  pub id : ItemId
  pub item : Item
  pub named : target_of e ≡ Some id
  pub at : place_in id.0 items ≡ Some place
  pub is : item ≡ get_or items place item
  pub phase : IsTrue (allows e item.phase)
  pub further : Further e items item

-- an entry that names an item is taken
pub record TargetTakes (e : Entry) (old new : List Item) : Type 0 where
  pub row : RowAt e old (target_of e)
  pub value : new ≡ items_after e (target_of e) old

-- a list that has taken no entry
abbrev pub empty_list : ℕ → Listing
empty_list limit = record { limit = limit; next = 1; is_first = true; is_early = true; items = [] }
