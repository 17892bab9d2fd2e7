use Rattle.std.proofs.Common.{◌≡◌, ℕ, ◌<◌, List, get_or}
use Rattle.dm_disk.proofs.listing.is_listed.Given as goal

abbrev pub invariant-loop-listed : goal.invariant-loop-listed
invariant-loop-listed l = (k : ℕ) (d : List ℕ) → k < l.listed-index → get_or l.names k d ≡ l.name → ⊥
