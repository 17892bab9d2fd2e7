-- What was landed of each part.
use Rattle.std.specs.Prelude.{◌≡◌, ◌≢◌, ℕ, ◌+◌, ◌<◌, ◌≤◌, suc, zero, List, [], ◌∷◌, ◌++◌, length, map, slice_get, Some}
use Rattle.dm_slice.specs.declared.plan.Part.{Part}

-- a part, and what was landed of it, from its first place on
pub record Share : Type 0 where
  pub part : Part
  pub bytes : List ℕ

-- the k-th share has this piece more
abbrev pub added : List Share → ℕ → List ℕ → List Share
added [] k piece = []
added (share ∷ shares) zero piece = record share { bytes = share.bytes ++ piece } ∷ shares
added (share ∷ shares) (suc k) piece = share ∷ added shares k piece

-- the piece begins at the next place of the part, and has room in it
pub record IsNext (shares : List Share) (part : Part) (at : ℕ) (piece : List ℕ) : Type 0 where
  pub share : Share
  pub is : slice_get shares part.index ≡ Some share
  pub part_is : share.part ≡ part
  pub at_is : at ≡ part.first + length share.bytes
  pub some : 0 < length piece
  pub fits : at + length piece ≤ part.end

-- the parts are the same
abbrev pub Keeps : List Share → List Share → Type 0
Keeps old new = map (λ (share : Share). share.part) new ≡ map (λ (share : Share). share.part) old

-- the parts are the same, and of no other than this one was anything landed
pub record Grows (k : ℕ) (old new : List Share) : Type 0 where
  pub keeps : Keeps old new
  pub others : (j : ℕ) → j ≢ k → slice_get new j ≡ slice_get old j

-- a sum over a list
abbrev pub total : {X : Type 0} → (X → ℕ) → List X → ℕ
total f [] = 0
total f (x ∷ xs) = f x + total f xs
