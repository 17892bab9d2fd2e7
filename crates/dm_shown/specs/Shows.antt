-- How often each item and each row is shown, by the list and by the history together.
use Rattle.std.specs.Prelude.{◌≡◌, ◌⊎◌, ℕ, ◌+◌, ◌==◌, Bool, List, Some}
use Rattle.std.specs.List.{count_by}
use Rattle.dm_types.specs.declared.item.Item.{Item}
use Rattle.dm_item.specs.Listing.{item_in}
use Rattle.dm_hist.specs.declared.row.Row.{Row}
use Rattle.dm_hist.specs.Rows.{is_of, row_of}
use Rattle.dm_hist.specs.Shown.{row_of_item, shown}

-- the item has the id
abbrev pub has_id : ℕ → Item → Bool
has_id id item = item.id.0 == id

-- How often an id is shown: once for each item of it in the list, and once for each row of it that the history shows, which
-- are those whose id is no item's.
abbrev pub times_shown : ℕ → List Item → List Row → ℕ
times_shown id items rows = count_by (has_id id) items + count_by (is_of id) (shown items rows)

-- The item is shown exactly once: it is in the list as it was, or its row is in the history.
pub record ItemShownOnce (items : List Item) (rows : List Row) (item : Item) : Type 0 where
  pub once : times_shown item.id.0 items rows ≡ 1
  pub is : (item_in item.id.0 items ≡ Some item) ⊎ (row_of item.id.0 (shown items rows) ≡ Some (row_of_item item))

-- The row is shown exactly once, in the history.
pub record RowShownOnce (items : List Item) (rows : List Row) (row : Row) : Type 0 where
  pub once : times_shown row.id.0 items rows ≡ 1
  pub is : row_of row.id.0 (shown items rows) ≡ Some row

-- Each item and each row that some list and history showed is shown exactly once by another list and history, and nothing else is.
pub record ShowTheSame (items : List Item) (rows : List Row) (items' : List Item) (rows' : List Row) : Type 0 where
  pub of_items : (id : ℕ) (item : Item) → item_in id items ≡ Some item → ItemShownOnce items' rows' item
  pub of_rows : (id : ℕ) (row : Row) → row_of id (shown items rows) ≡ Some row → RowShownOnce items' rows' row
  pub no_more : (id : ℕ) → times_shown id items rows ≡ 0 → times_shown id items' rows' ≡ 0
