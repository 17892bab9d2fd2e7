-- How an item is added.
use Rattle.std.specs.Prelude.{◌≡◌, ◌≢◌, ◌⊎◌, ◌≤◌, ℕ, List, [], ◌∷◌, length, Some, Result, Ok, Err}
use Rattle.dm_types.specs.declared.entry.Entry.{Entry}
use Rattle.dm_types.specs.declared.entry.Entry.TheVariants.{Added}
use Rattle.dm_types.specs.declared.item.Item.{Item}
use Rattle.dm_types.specs.declared.item.ItemId.{ItemId}
use Rattle.dm_record.specs.Limits.{AtMost}
use Rattle.dm_item.specs.Words.{HasWordOf, IsFreeWord}
use Rattle.dm_item.specs.Listing.{HasRoom, Listing, item_in}
use Rattle.dm_store.specs.Becomes.{Fell, Recorded, Refuses}
use Rattle.dm_store.specs.View.{View}
use Rattle.dm_answers.specs.declared.order.Order.{Order}
use Rattle.dm_answers.specs.declared.order.Taken.{Taken}
use Rattle.dm_answers.specs.declared.order.Taken.TheVariants.{New, Same}
use Rattle.dm_answers.specs.declared.fault.DeskFault.{DeskFault}
use Rattle.dm_answers.specs.declared.fault.DeskFault.TheVariants as faults
use Rattle.dm_answers.specs.Frame.{IsBroken}

-- the word, the address's text and the wish keep their limits
pub record IsOrder (order : Order) : Type 0 where
  pub word : AtMost 64 order.word
  pub address : AtMost 4096 order.address.text
  pub wish : AtMost 255 order.wish

-- the word isn't empty, its item has this id, and P holds of the item with the id
pub record HasItem (items : List Item) (word : List ℕ) (id : ItemId) (P : Item → Type 0) : Type 0 where
  pub named : HasWordOf word items id
  pub item : Item
  pub there : item_in id.0 items ≡ Some item
  pub is : P item

-- the item with the order's word has this id and the order's address
abbrev pub IsKnown : List Item → Order → ItemId → Type 0
IsKnown items order id = HasItem items order.word id (λ item. item.first_address ≡ order.address.text)

-- the item with the order's word has this id and another first address
abbrev pub IsOther : List Item → Order → ItemId → Type 0
IsOther items order id = HasItem items order.word id (λ item. item.first_address ≢ order.address.text)

-- the word is free, and the list is full or the ids are used up; it has so many items
pub record IsFull (items : Listing) (order : Order) (count : ℕ) : Type 0 where
  pub free : IsFreeWord order.word items.items
  pub full : (items.limit ≤ length items.items) ⊎ (items.next ≡ 4294967295)
  pub count_is : count ≡ length items.items

-- the order is for a new item, and there is room
pub record IsNew (items : Listing) (order : Order) : Type 0 where
  pub free : IsFreeWord order.word items.items
  pub room : HasRoom items

-- the entry of an order, with the next id
abbrev pub added_by : Listing → Order → ℕ → Entry
added_by items order at = Added (record { 0 = items.next }) order.word order.address.text order.wish order.digest at

-- Each answer, with its cause and what it makes of the desk. Want of memory comes behind the other refusals.
abbrev pub AddAnswers : {D O : Type 0} → View D O → View D O → Order → ℕ → Result Taken DeskFault → Type 0
AddAnswers old new order at (Ok (New id)) = (id.0 ≡ old.items.next) × IsNew old.items order × Recorded old new (added_by old.items order at ∷ [])
AddAnswers old new order at (Ok (Same id)) = Refuses old new (IsKnown old.items.items order id)
AddAnswers old new order at (Err faults.Broken) = IsBroken old new
AddAnswers old new order at (Err (faults.WordTaken id)) = Refuses old new (IsOther old.items.items order id)
AddAnswers old new order at (Err (faults.ItemsFull count)) = Refuses old new (IsFull old.items order count)
AddAnswers old new order at (Err faults.NoMemory) = Refuses old new (IsNew old.items order)
AddAnswers old new order at (Err (faults.Journal kind)) = IsNew old.items order × Fell old new (added_by old.items order at ∷ [])
AddAnswers old new order at _ = ⊥
