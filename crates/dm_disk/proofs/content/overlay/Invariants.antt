use Rattle.std.proofs.Common.{◌≡◌, ◌⊎◌, ℕ, ◌+◌, ◌-◌, ◌<◌, ◌≤◌, length, get_or}
use Rattle.dm_disk.proofs.content.overlay.Given as goal

-- the places up to here have the new bytes, and the others the old
abbrev pub invariant-loop-place : goal.invariant-loop-place
invariant-loop-place l = record {
  inside : (k : ℕ) → k < length l.window → l.at ≤ l.from + k → l.from + k < l.place → get_or l.window k 0 ≡ get_or l.bytes ((l.from + k) - l.at) 0;
  outside : (k : ℕ) → k < length l.window → ((l.from + k < l.at) ⊎ (l.place ≤ l.from + k)) → get_or l.window k 0 ≡ get_or l.initial.window k 0;
}
