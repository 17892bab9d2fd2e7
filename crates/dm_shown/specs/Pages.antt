-- The pages of the history.
use Rattle.std.specs.Prelude.{ℕ, List, take}
use Rattle.dm_types.specs.declared.item.Item.{Item}
use Rattle.dm_hist.specs.declared.row.Row.{Row}
use Rattle.dm_hist.specs.Rows.{rows_above}
use Rattle.dm_hist.specs.Shown.{shown}

-- The first so many rows above an id of those that are shown: the rows whose id is no item's.
abbrev pub shown_page : List Item → ℕ → ℕ → List Row → List Row
shown_page items after limit rows = take limit (shown items (rows_above after rows))
