use Rattle.std.proofs.Common.{◌≢◌, ℕ, ◌<◌, slice_index_or}
use Rattle.dm_types.specs.declared.item.Item.{Item}
use Rattle.dm_item.proofs.items.find_word.Given as goal

abbrev pub invariant-loop-item : goal.invariant-loop-item
invariant-loop-item l = (k : ℕ) (d : Item) → k < l.item-index → (slice_index_or l.items k d).word ≢ l.word
