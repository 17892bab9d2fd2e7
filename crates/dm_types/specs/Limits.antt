-- How much a desk takes on at most.
use Rattle.std.specs.Prelude.{ℕ, ◌≤◌}
use Rattle.dm_types.specs.declared.item.Limits.{Limits}

-- items in the list
abbrev pub most_items : ℕ
most_items = 4096

-- unsaved bytes at which a checkpoint is due
abbrev pub most_unsaved : ℕ
most_unsaved = 1048576

-- bytes of one landed piece
abbrev pub most_piece : ℕ
most_piece = 65536

-- the least part, in bytes, where a hole is cut
abbrev pub most_min_slice : ℕ
most_min_slice = 1048576

-- each limit is at least 1 and, but for the journal's, at most the greatest
pub record IsLimits (limits : Limits) : Type 0 where
  pub items : (1 ≤ limits.items) × (limits.items ≤ most_items)
  pub checkpoint : (1 ≤ limits.checkpoint) × (limits.checkpoint ≤ most_unsaved)
  pub piece : (1 ≤ limits.piece) × (limits.piece ≤ most_piece)
  pub min_slice : (1 ≤ limits.min_slice) × (limits.min_slice ≤ most_min_slice)
  pub journal : 1 ≤ limits.journal
