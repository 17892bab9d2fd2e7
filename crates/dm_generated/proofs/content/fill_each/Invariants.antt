use Rattle.std.proofs.Common.{◌≡◌, ℕ, ◌+◌, ◌<◌, get_or}
use Rattle.dm_edge.specs.Origin.{generated_byte}
use Rattle.dm_generated.proofs.content.fill_each.Given as goal

-- the places up to here have their bytes
abbrev pub invariant-loop-place : goal.invariant-loop-place
invariant-loop-place l = (k : ℕ) → k < l.place → get_or l.window k 0 ≡ generated_byte l.number (l.first + k)
