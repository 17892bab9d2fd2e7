-- Which items go to the history, and what moving them records and keeps.
use Rattle.std.specs.Prelude.{◌≡◌, ◌⊎◌, ℕ, Bool, true, List, [], ◌∷◌, ◌++◌, filter, length, map, Result, Ok, Err}
use Rattle.dm_types.specs.declared.entry.Entry.TheVariants as entries
use Rattle.dm_types.specs.declared.item.Item.{Item}
use Rattle.dm_item.specs.Lawful.{History}
use Rattle.dm_store.specs.Becomes.{Becomes, Recorded}
use Rattle.dm_store.specs.View.{View}
use Rattle.dm_answers.specs.Frame.{IsBroken}
use Rattle.dm_answers.specs.declared.fault.DeskFault.TheVariants as desks
use Rattle.dm_hist.specs.declared.row.Row.{Row}
use Rattle.dm_hist.specs.Rows.{with_row}
use Rattle.dm_hist.specs.Shown.{is_over, row_of_item}
use Rattle.dm_archive.specs.declared.fault.ArchiveFault.{ArchiveFault}
use Rattle.dm_archive.specs.declared.fault.ArchiveFault.TheVariants as faults

-- the item is complete or cancelled
abbrev pub goes : Item → Bool
goes item = is_over item.phase

-- the items that go to the history, by rising id
abbrev pub overs : List Item → List Item
overs items = filter goes items

-- these items leave the list, one after another
abbrev pub archives : List Item → History
archives items = map (λ item. entries.Archived item.id) items

-- the rows with those of these items, one after another
abbrev pub put_all : List Item → List Row → List Row
put_all [] rows = rows
put_all (item ∷ more) rows = put_all more (with_row (row_of_item item) rows)

-- These items left the list, with an entry each. Of a broken desk none does, and nothing changes.
abbrev pub Leave : {D O : Type 0} → List Item → View D O → View D O → Type 0
Leave gone old new = (IsBroken old new × (gone ≡ [])) ⊎ Recorded old new (archives gone)

-- The items that go are these, this one, and the rest; and P holds of these and of this one.
pub record StopsAt (items : List Item) (P : List Item → Item → Type 0) : Type 0 where
  pub gone : List Item
  pub item : Item
  pub rest : List Item
  pub are : overs items ≡ gone ++ item ∷ rest
  pub is : P gone item

-- Each answer, and what it makes of the list, and of the rows where the history tells them. Ok has the number of items that were moved:
-- all that go. A fault comes at one item, behind those that were moved: the history kept no row of it; or memory was wanting, before its
-- row was kept or behind it; or its row is kept, and the journal failed, or had failed before, so that it stays in the list.
abbrev pub ArchiveAnswers : {D O : Type 0} → Type 0 → View D O → View D O → List Row → List Row → Result ℕ ArchiveFault → Type 0
ArchiveAnswers tells old new rows rows' (Ok count) =
    (count ≡ length (overs old.items.items)) × Leave (overs old.items.items) old new × (tells → rows' ≡ put_all (overs old.items.items) rows)
ArchiveAnswers tells old new rows rows' (Err faults.Keeper) = StopsAt old.items.items (λ gone item. Leave gone old new × (tells → rows' ≡ put_all gone rows))
ArchiveAnswers tells old new rows rows' (Err faults.NoMemory) =
    StopsAt old.items.items (λ gone item. Leave gone old new × (tells → (rows' ≡ put_all gone rows) ⊎ (rows' ≡ put_all (gone ++ item ∷ []) rows)))
ArchiveAnswers tells old new rows rows' (Err (faults.Desk (desks.Journal kind))) =
    StopsAt old.items.items (λ gone item. Becomes old new (archives gone) (entries.Archived item.id ∷ []) true × (tells → rows' ≡ put_all (gone ++ item ∷ []) rows))
ArchiveAnswers tells old new rows rows' (Err (faults.Desk desks.Broken)) =
    StopsAt old.items.items (λ gone item. IsBroken old new × (gone ≡ []) × (tells → rows' ≡ put_all (item ∷ []) rows))
ArchiveAnswers tells old new rows rows' _ = ⊥
