-- Where an id stands among rows, or would stand.
use Rattle.std.specs.Prelude.{◌≡◌, ℕ, ◌<◌, ◌≤◌, List, length, slice_index_or}
use Rattle.dm_hist.specs.declared.row.Row.{Row}

-- the row at this place has the id
pub record IsAt (rows : List Row) (id place : ℕ) : Type 0 where
  pub within : place < length rows
  pub has : (d : Row) → (slice_index_or rows place d).id.0 ≡ id

-- the rows before this place are below the id, and those from it on are above
pub record IsGapFor (rows : List Row) (id place : ℕ) : Type 0 where
  pub within : place ≤ length rows
  pub below : (j : ℕ) (d : Row) → j < place → (slice_index_or rows j d).id.0 < id
  pub above : (j : ℕ) (d : Row) → place ≤ j → j < length rows → id < (slice_index_or rows j d).id.0
