-- Which items leave the list, what row they become, and which rows are shown.
use Rattle.std.specs.Prelude.{ℕ, Bool, true, false, not, List, []}
use Rattle.std.specs.Option.{unwrap_or}
use Rattle.std.specs.List.{filter, list_any}
use Rattle.std.specs.Prelude.{◌==◌}
use Rattle.dm_types.specs.declared.item.Item.{Item}
use Rattle.dm_types.specs.declared.item.Phase.{Phase}
use Rattle.dm_types.specs.declared.item.Phase.TheVariants.{Waiting, Running, Paused, Finishing, Complete, Cancelled, Interrupted}
use Rattle.dm_hist.specs.declared.row.Row.{Row}

abbrev pub is_complete : Phase → Bool
is_complete Waiting = false
is_complete Running = false
is_complete Paused = false
is_complete Finishing = false
is_complete Complete = true
is_complete Cancelled = false
is_complete (Interrupted reason) = false

-- complete or cancelled: such items go to the history
abbrev pub is_over : Phase → Bool
is_over Waiting = false
is_over Running = false
is_over Paused = false
is_over Finishing = false
is_over Complete = true
is_over Cancelled = true
is_over (Interrupted reason) = false

-- the item's row. Its name is empty where it has none, its digest that of its file
abbrev pub row_of_item : Item → Row
row_of_item item = record {
  id = item.id;
  word = item.word;
  address = item.first_address;
  name = unwrap_or item.name [];
  complete = is_complete item.phase;
  total = item.total;
  digest = item.have;
  at_ms = item.at_ms;
}

-- an item has the id
abbrev pub is_listed : ℕ → List Item → Bool
is_listed id items = list_any (λ item. item.id.0 == id) items

-- the rows that are shown: those whose id is no item's
abbrev pub shown : List Item → List Row → List Row
shown items rows = filter (λ row. not (is_listed row.id.0 items)) rows
