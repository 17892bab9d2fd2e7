-- How a page is made of what a history answers piece by piece.
use Rattle.std.specs.Prelude.{◌≡◌, ℕ, ◌-◌, nat_lt, cond, List, ◌++◌, length, take, drop, slice_get, Option, Some, None}
use Rattle.dm_types.specs.declared.item.Item.{Item}
use Rattle.dm_hist.specs.declared.row.Row.{Row}
use Rattle.dm_hist.specs.Rows.{rows_above}
use Rattle.dm_hist.specs.Shown.{shown}
use Rattle.dm_shown.specs.Pages.{shown_page}

-- the row's id, where it is above this one
abbrev pub id_above : ℕ → Option Row → Option ℕ
id_above from None = None
id_above from (Some row) = cond (nat_lt from row.id.0) (Some row.id.0) None

-- From which id the next piece is asked for: that of the last row, where as many rows came as were wanted.
abbrev pub next_from : List Row → ℕ → ℕ → Option ℕ
next_from rows from wanted = cond (nat_lt (length rows) wanted) None (id_above from (slice_get rows (length rows - 1)))

-- What one piece adds to a page: the last rows that are shown, or some, and then the rows behind them are those above an id.
abbrev pub Adds : List Item → List Row → ℕ → ℕ → List Row → List Row → Option ℕ → Type 0
Adds items rows from wanted page page' None = page' ≡ page ++ shown_page items from wanted rows
Adds items rows from wanted page page' (Some last) =
    (page' ≡ page ++ shown items (take wanted (rows_above from rows))) × (rows_above last rows ≡ drop wanted (rows_above from rows))
