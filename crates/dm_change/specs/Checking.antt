-- What a list says of an order.
use Rattle.std.specs.Prelude.{◌≡◌, ◌⊎◌, ◌≤◌, length}
use Rattle.dm_item.specs.Listing.{HasRoom, Listing}
use Rattle.dm_answers.specs.declared.order.Order.{Order}
use Rattle.dm_answers.specs.Add.{IsFull, IsKnown, IsNew, IsOther}
use Rattle.dm_change.specs.declared.checking.Checked.{Checked}
use Rattle.dm_change.specs.declared.checking.Checked.TheVariants as checks

-- whether there is room
abbrev pub RoomBy : Listing → Checked → Type 0
RoomBy items (checks.Fits id) = (id.0 ≡ items.next) × HasRoom items
RoomBy items (checks.Full count) = ((items.limit ≤ length items.items) ⊎ (items.next ≡ 4294967295)) × (count ≡ length items.items)
RoomBy items (checks.Known id) = ⊥
RoomBy items (checks.Other id) = ⊥

-- what the list says of an order
abbrev pub CheckedBy : Listing → Order → Checked → Type 0
CheckedBy items order (checks.Fits id) = (id.0 ≡ items.next) × IsNew items order
CheckedBy items order (checks.Known id) = IsKnown items.items order id
CheckedBy items order (checks.Other id) = IsOther items.items order id
CheckedBy items order (checks.Full count) = IsFull items order count
