-- The changes that the user makes of items.
use Rattle.std.specs.Prelude.{◌≡◌, Bool, true, false, None, IsTrue, IsSomeAnd, Result, Ok, Err}
use Rattle.dm_types.specs.declared.entry.Entry.{Entry}
use Rattle.dm_types.specs.declared.entry.Entry.TheVariants as entries
use Rattle.dm_types.specs.declared.item.ItemId.{ItemId}
use Rattle.dm_types.specs.declared.item.Phase.{Phase}
use Rattle.dm_item.specs.Listing.{Listing, item_in}
use Rattle.dm_item.specs.Row.{is_cancelled}
use Rattle.dm_answers.specs.declared.fault.DeskFault.{DeskFault}
use Rattle.dm_answers.specs.declared.fault.DeskFault.TheVariants as faults
use Rattle.dm_answers.specs.Change.{IsDueChange, IsWrong, in_no_phase, is_left, is_under_way}
use Rattle.dm_answers.specs.Faults.{is_free}
use Rattle.dm_change.specs.declared.changing.Change.{Change}
use Rattle.dm_change.specs.declared.changing.Change.TheVariants as changes

-- the phases in which a change leaves its item as it is
abbrev pub leaves : Change → Phase → Bool
leaves changes.Resume = is_under_way
leaves changes.Cancel = is_cancelled
leaves changes.Remove = in_no_phase
leaves changes.Archive = in_no_phase

-- the entry that a change records
abbrev pub entry_of : Change → ItemId → Entry
entry_of changes.Resume id = entries.Asked id
entry_of changes.Cancel id = entries.Cancelled id
entry_of changes.Remove id = entries.Removed id
entry_of changes.Archive id = entries.Archived id

-- whether a change is still to be made of a list, or why it may not be
abbrev pub ChangeChecked : Change → ItemId → Listing → Result Bool DeskFault → Type 0
ChangeChecked change id items (Ok true) = IsDueChange (leaves change) (entry_of change id) id items
ChangeChecked change id items (Ok false) = IsTrue (is_left (leaves change) id items)
ChangeChecked change id items (Err (faults.NoItem other)) = (other ≡ id) × (item_in id.0 items.items ≡ None)
ChangeChecked change id items (Err (faults.WrongState phase)) = IsSomeAnd (item_in id.0 items.items) (IsWrong (leaves change) (entry_of change id) items phase)
ChangeChecked change id items (Err fault) = ⊥

-- the answers are the same, unless one of them comes from outside
abbrev pub SameAnswer : Result (Unit {0}) DeskFault → Result (Unit {0}) DeskFault → Type 0
SameAnswer a b = is_free a ≡ false → is_free b ≡ false → a ≡ b
