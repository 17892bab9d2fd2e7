-- What the history is asked for a task, and what it tells.
use Rattle.std.specs.Prelude.{◌≡◌, ℕ, Bool, true, false, is_none, if◌then◌else◌, List, [], ◌∷◌, Option}
use Rattle.std.specs.List.{All}
use Rattle.dm_types.specs.declared.item.Item.{Item}
use Rattle.dm_item.specs.Listing.{item_in}
use Rattle.dm_hist.specs.declared.row.Row.{Row}
use Rattle.dm_hist.specs.Rows.{is_there, row_with}
use Rattle.dm_hist.specs.Shown.{is_listed}
use Rattle.dm_shown.specs.Pages.{shown_page}
use Rattle.dm_shown.specs.Words.{item_with}
use Rattle.dm_service.specs.declared.task.Task.{Task}
use Rattle.dm_service.specs.declared.task.Task.TheVariants as tasks

-- What the history told: the row that has the word, or whether a row has the id, or part of its rows. Or it wasn't asked.
pub data Recall : Type 0 where
  unasked : Recall
  by_word : Option Row → Recall
  by_id : Bool → Recall
  page : List Row → Recall

-- there is a word, and no item has it
abbrev pub is_free : List ℕ → List Item → Bool
is_free [] items = false
is_free (byte ∷ rest) items = is_none (item_with (byte ∷ rest) items)

-- no item has the id
abbrev pub is_gone : ℕ → List Item → Bool
is_gone id items = is_none (item_in id items)

abbrev pub word_recall : Bool → Option Row → Recall
word_recall free row = if free then by_word row else unasked

abbrev pub id_recall : Bool → Bool → Recall
id_recall gone there = if gone then by_id there else unasked

-- What a history of these rows tells. It is asked for a word or an id only where no item has it.
abbrev pub recall_of : List Item → List Row → Task → Recall
recall_of items rows (tasks.Add order) = word_recall (is_free order.word items) (row_with order.word rows)
recall_of items rows (tasks.Remove id) = id_recall (is_gone id.0 items) (is_there id.0 rows)
recall_of items rows (tasks.History window) = page (shown_page items window.after window.limit rows)
recall_of items rows task = unasked

-- whether the history is asked
abbrev pub is_asked : List Item → Task → Bool
is_asked items (tasks.Add order) = is_free order.word items
is_asked items (tasks.Remove id) = is_gone id.0 items
is_asked items (tasks.History window) = true
is_asked items task = false

-- no row of a page is one whose id an item has
abbrev pub IsUnlisted : List Item → Recall → Type 0
IsUnlisted items (page rows) = All (λ row. is_listed row.id.0 items ≡ false) rows
IsUnlisted items recall = Unit {0}

-- What a history told. Where it tells its rows it is what they say.
pub record Recalls (told : Type 0) (items : List Item) (rows : List Row) (task : Task) (recall : Recall) : Type 0 where
  pub is : told → recall ≡ recall_of items rows task
  pub unlisted : IsUnlisted items recall
