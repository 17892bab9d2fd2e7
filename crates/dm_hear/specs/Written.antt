-- What writing a reply leaves.
use Rattle.std.specs.Prelude.{◌≡◌, ℕ, List, ◌++◌, take, Result, MatchResult}
use Rattle.dm_edge.specs.declared.fault.EdgeFault.{EdgeFault}
use Rattle.dm_edge.specs.Wire.{Told}

-- All of the bytes were written, or after a fault some front of them. What is left to read stays.
pub record WritesAll (before now : Told) (result : Result (Unit {0}) EdgeFault) (bytes : List ℕ) : Type 0 where
  pub given : now.given ≡ before.given
  pub left : now.left ≡ before.left
  pub sent : MatchResult result (λ _. now.sent ≡ before.sent ++ bytes) (λ _. (n : ℕ) × (now.sent ≡ before.sent ++ take n bytes))

-- these bytes were written
pub record Wrote (before now : Told) (bytes : List ℕ) : Type 0 where
  pub given : now.given ≡ before.given
  pub left : now.left ≡ before.left
  pub sent : now.sent ≡ before.sent ++ bytes
