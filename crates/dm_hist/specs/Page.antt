-- A page that is made row by row.
use Rattle.std.specs.Prelude.{ℕ, List, [], ◌∷◌, ◌++◌, cond, length, nat_lt}
use Rattle.dm_hist.specs.declared.row.Row.{Row}
use Rattle.dm_hist.specs.declared.row.RowFilter.{RowFilter}
use Rattle.dm_hist.specs.Rows.{is_due}

-- the page with one row more, where it is asked for and there is room
abbrev pub with_next : RowFilter → ℕ → ℕ → List Row → Row → List Row
with_next asked after limit page row = cond (is_due asked after row) (cond (nat_lt (length page) limit) (page ++ row ∷ []) page) page
