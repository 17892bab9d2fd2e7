-- What a write leaves in a sink.
use Rattle.std.specs.Prelude.{◌≡◌, ℕ, List, ◌++◌, take, Result, MatchResult}
use Rattle.dm_edge.specs.declared.fault.EdgeFault.{EdgeFault}

-- the first bytes of the piece were added: as many as were answered, and after a fault some front of it
abbrev pub Writes : List ℕ → List ℕ → Result ℕ EdgeFault → List ℕ → Type 0
Writes before now result piece =
    MatchResult result (λ n. now ≡ before ++ take n piece) (λ _. (n : ℕ) × (now ≡ before ++ take n piece))
