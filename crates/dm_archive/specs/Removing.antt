-- The user removes an item from the list, or a row from the history.
use Rattle.std.specs.Prelude.{◌≡◌, true, false, List, Option, Some, None, Result, Ok, Err}
use Rattle.dm_types.specs.declared.entry.Entry.TheVariants as entries
use Rattle.dm_types.specs.declared.item.Item.{Item}
use Rattle.dm_types.specs.declared.item.ItemId.{ItemId}
use Rattle.dm_item.specs.Listing.{item_in}
use Rattle.dm_store.specs.View.{View}
use Rattle.dm_answers.specs.Change.{ChangeAnswers, in_no_phase}
use Rattle.dm_answers.specs.Frame.{IsBroken}
use Rattle.dm_answers.specs.declared.fault.DeskFault.{DeskFault}
use Rattle.dm_answers.specs.declared.fault.DeskFault.TheVariants as desks
use Rattle.dm_hist.specs.declared.row.Row.{Row}
use Rattle.dm_hist.specs.Rows.{is_there, without_row}
use Rattle.dm_archive.specs.declared.fault.ArchiveFault.{ArchiveFault}
use Rattle.dm_archive.specs.declared.fault.ArchiveFault.TheVariants as faults
use Rattle.dm_archive.specs.Faults.{desk_fault}

-- the desk isn't broken, and nothing of it changed
abbrev pub Untouched : {D O : Type 0} → View D O → View D O → Type 0
Untouched old new = (old.broken ≡ false) × (new ≡ old)

-- An item has the id: the list answers.
abbrev pub RemovesItem : {D O : Type 0} → ItemId → View D O → View D O → Result (Unit {0}) ArchiveFault → Type 0
RemovesItem id old new (Ok done) = ChangeAnswers in_no_phase (entries.Removed id) id old new (Ok done)
RemovesItem id old new (Err (faults.Desk fault)) = ChangeAnswers in_no_phase (entries.Removed id) id old new (Err fault)
RemovesItem id old new (Err faults.NoMemory) = ChangeAnswers in_no_phase (entries.Removed id) id old new (Err desks.NoMemory)
RemovesItem id old new (Err faults.Keeper) = ⊥

-- No item has the id: the history drops its row, if it has one.
abbrev pub RemovesRow : {D O : Type 0} → Type 0 → ItemId → View D O → View D O → List Row → List Row → Result (Unit {0}) ArchiveFault → Type 0
RemovesRow tells id old new rows rows' (Ok done) = Untouched old new × (tells → (is_there id.0 rows ≡ true) × (rows' ≡ without_row id.0 rows))
RemovesRow tells id old new rows rows' (Err (faults.Desk (desks.NoItem other))) = Untouched old new × (other ≡ id) × (tells → (is_there id.0 rows ≡ false) × (rows' ≡ rows))
RemovesRow tells id old new rows rows' (Err (faults.Desk desks.Broken)) = IsBroken old new × (tells → rows' ≡ rows)
RemovesRow tells id old new rows rows' (Err faults.Keeper) = Untouched old new × (tells → rows' ≡ rows)
RemovesRow tells id old new rows rows' (Err faults.NoMemory) = Untouched old new × (tells → rows' ≡ rows)
RemovesRow tells id old new rows rows' _ = ⊥

-- by the item with the id
abbrev pub RemovesOf : {D O : Type 0} → Option Item → Type 0 → ItemId → View D O → View D O → List Row → List Row → Result (Unit {0}) ArchiveFault → Type 0
RemovesOf (Some item) tells id old new rows rows' result = RemovesItem id old new result × (tells → rows' ≡ rows)
RemovesOf None tells id old new rows rows' result = RemovesRow tells id old new rows rows' result

-- Each answer, and what it makes of the list and of the rows.
abbrev pub RemoveAnswers : {D O : Type 0} → Type 0 → ItemId → View D O → View D O → List Row → List Row → Result (Unit {0}) ArchiveFault → Type 0
RemoveAnswers tells id old new rows rows' result = RemovesOf (item_in id.0 old.items.items) tells id old new rows rows' result

-- a row is dropped
abbrev pub DropAnswers : Type 0 → ItemId → List Row → List Row → Result (Unit {0}) ArchiveFault → Type 0
DropAnswers tells id rows rows' (Ok done) = tells → (is_there id.0 rows ≡ true) × (rows' ≡ without_row id.0 rows)
DropAnswers tells id rows rows' (Err (faults.Desk (desks.NoItem other))) = (other ≡ id) × (tells → (is_there id.0 rows ≡ false) × (rows' ≡ rows))
DropAnswers tells id rows rows' (Err faults.Keeper) = tells → rows' ≡ rows
DropAnswers tells id rows rows' (Err faults.NoMemory) = tells → rows' ≡ rows
DropAnswers tells id rows rows' _ = ⊥

-- what comes behind a refusal of the list: where no item has the id a row is dropped, and else the refusal is answered
abbrev pub BehindAnswers : Type 0 → ItemId → DeskFault → List Row → List Row → Result (Unit {0}) ArchiveFault → Type 0
BehindAnswers tells id (desks.NoItem other) rows rows' result = DropAnswers tells id rows rows' result
BehindAnswers tells id fault rows rows' result = (result ≡ Err (desk_fault fault)) × (tells → rows' ≡ rows)
