-- How the next item is moved.
use Rattle.std.specs.Prelude.{◌≡◌, ◌⊎◌, Bool, true, false, List, [], ◌∷◌, find, Option, Some, None, Result, Ok, Err}
use Rattle.dm_types.specs.declared.entry.Entry.TheVariants as entries
use Rattle.dm_types.specs.declared.item.Item.{Item}
use Rattle.dm_types.specs.declared.item.ItemId.{ItemId}
use Rattle.dm_item.specs.Listing.{item_in}
use Rattle.dm_store.specs.Becomes.{Becomes, Recorded}
use Rattle.dm_store.specs.View.{View}
use Rattle.dm_answers.specs.Frame.{IsBroken}
use Rattle.dm_answers.specs.declared.fault.DeskFault.TheVariants as desks
use Rattle.dm_hist.specs.declared.row.Row.{Row}
use Rattle.dm_hist.specs.Rows.{with_row}
use Rattle.dm_hist.specs.Shown.{row_of_item}
use Rattle.dm_archive.specs.declared.fault.ArchiveFault.{ArchiveFault}
use Rattle.dm_archive.specs.declared.fault.ArchiveFault.TheVariants as faults
use Rattle.dm_archive.specs.Moving.{goes}

-- the first item that goes
abbrev pub next_over : List Item → Option Item
next_over items = find goes items

-- an item with the id is there, and goes
pub record GoesAt (id : ItemId) (items : List Item) : Type 0 where
  pub item : Item
  pub there : item_in id.0 items ≡ Some item
  pub goes : goes item ≡ true

-- an item leaves the list: each answer, and what it makes of the desk
abbrev pub LeaveAnswers : {D O : Type 0} → ItemId → View D O → View D O → Result (Unit {0}) ArchiveFault → Type 0
LeaveAnswers id old new (Ok done) = Recorded old new (entries.Archived id ∷ [])
LeaveAnswers id old new (Err faults.NoMemory) = new ≡ old
LeaveAnswers id old new (Err (faults.Desk (desks.Journal kind))) = Becomes old new [] (entries.Archived id ∷ []) true
LeaveAnswers id old new (Err (faults.Desk desks.Broken)) = IsBroken old new
LeaveAnswers id old new _ = ⊥

-- the fault comes of the history, or of the memory
abbrev pub IsOutside : ArchiveFault → Type 0
IsOutside faults.Keeper = Unit {0}
IsOutside faults.NoMemory = Unit {0}
IsOutside (faults.Desk fault) = ⊥

-- one was moved, or the fault
abbrev pub moved : Result (Unit {0}) ArchiveFault → Result Bool ArchiveFault
moved (Ok done) = Ok true
moved (Err fault) = Err fault

-- P holds of the first item that goes
pub record IsNext (items : List Item) (P : Item → Type 0) : Type 0 where
  pub item : Item
  pub is : next_over items ≡ Some item
  pub does : P item

-- The next item is moved: whether there was one, and what each answer makes of the desk and of the rows.
abbrev pub MoveAnswers : {D O : Type 0} → Type 0 → View D O → View D O → List Row → List Row → Result Bool ArchiveFault → Type 0
MoveAnswers tells old new rows rows' (Ok false) = (next_over old.items.items ≡ None) × (new ≡ old) × (tells → rows' ≡ rows)
MoveAnswers tells old new rows rows' (Ok true) =
    IsNext old.items.items (λ item. Recorded old new (entries.Archived item.id ∷ []) × (tells → rows' ≡ with_row (row_of_item item) rows))
MoveAnswers tells old new rows rows' (Err faults.Keeper) = IsNext old.items.items (λ item. (new ≡ old) × (tells → rows' ≡ rows))
MoveAnswers tells old new rows rows' (Err faults.NoMemory) =
    IsNext old.items.items (λ item. (new ≡ old) × (tells → (rows' ≡ rows) ⊎ (rows' ≡ with_row (row_of_item item) rows)))
MoveAnswers tells old new rows rows' (Err (faults.Desk (desks.Journal kind))) =
    IsNext old.items.items (λ item. Becomes old new [] (entries.Archived item.id ∷ []) true × (tells → rows' ≡ with_row (row_of_item item) rows))
MoveAnswers tells old new rows rows' (Err (faults.Desk desks.Broken)) =
    IsNext old.items.items (λ item. IsBroken old new × (tells → rows' ≡ with_row (row_of_item item) rows))
MoveAnswers tells old new rows rows' _ = ⊥
