-- The rows of a history, by rising id, and what each call of a keeper makes of them.
use Rattle.std.specs.Prelude.{ℕ, ◌<◌, ◌≤◌, ◌==◌, nat_lt, bytes_eq, Bool, true, false, ◌&&◌, not, List, ◌∷◌, ◌++◌, take, Option, Some, None}
use Rattle.std.specs.List.{All, AllPairs, filter, find, list_any}
use Rattle.dm_hist.specs.declared.row.Row.{Row}
use Rattle.dm_hist.specs.declared.row.RowFilter.{RowFilter}

-- Each id is at least 1, and they rise, so no two rows have one id.
pub record AreRows (rows : List Row) : Type 0 where
  pub numbered : All (λ row. 1 ≤ row.id.0) rows
  pub rising : AllPairs (λ one later. one.id.0 < later.id.0) rows

-- the row's id is this one
abbrev pub is_of : ℕ → Row → Bool
is_of id row = row.id.0 == id

-- the row of an id
abbrev pub row_of : ℕ → List Row → Option Row
row_of id rows = find (is_of id) rows

-- whether an id has a row
abbrev pub is_there : ℕ → List Row → Bool
is_there id rows = list_any (is_of id) rows

-- the first row that has the word, which is the one of least id
abbrev pub row_with : List ℕ → List Row → Option Row
row_with word rows = find (λ row. bytes_eq row.word word) rows

-- the rows of the ids below
abbrev pub rows_below : ℕ → List Row → List Row
rows_below id rows = filter (λ row. nat_lt row.id.0 id) rows

-- the rows of the ids above
abbrev pub rows_above : ℕ → List Row → List Row
rows_above id rows = filter (λ row. nat_lt id row.id.0) rows

-- with this row, and no other of its id
abbrev pub with_row : Row → List Row → List Row
with_row row rows = rows_below row.id.0 rows ++ row ∷ rows_above row.id.0 rows

-- without the row of an id
abbrev pub without_row : ℕ → List Row → List Row
without_row id rows = filter (λ row. not (is_of id row)) rows

-- a flag is as it is asked for, if it is asked for
abbrev pub is_asked : Option Bool → Bool → Bool
is_asked None complete = true
is_asked (Some true) complete = complete
is_asked (Some false) complete = not complete

-- the filter allows the row
abbrev pub allows : RowFilter → Row → Bool
allows asked row = is_asked asked.complete row.complete

-- the row is above an id, and the filter allows it
abbrev pub is_due : RowFilter → ℕ → Row → Bool
is_due asked after row = nat_lt after row.id.0 && allows asked row

-- the first so many of these rows
abbrev pub page_of : RowFilter → ℕ → ℕ → List Row → List Row
page_of asked after limit rows = take limit (filter (is_due asked after) rows)
