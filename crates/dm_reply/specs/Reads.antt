-- What a call does to a wire that it only receives on.
use Rattle.std.specs.Prelude.{◌≡◌, ℕ, ◌≤◌, List, ◌++◌}
use Rattle.dm_edge.specs.Wire.{Purpose, Told}

-- what was given goes on
pub record GoesOn (before now : Told) : Type 0 where
  pub piece : List ℕ
  pub given : now.given ≡ before.given ++ piece

-- Nothing is sent, what the wire gave goes on, what it was made for and its origin stay, and it has wanted memory as often or more often.
pub record OnlyReads {W O : Type 0} (tells : Type 0) (told : W → Told) (purpose : W → Purpose) (origin : W → O) (wants : W → ℕ) (old new : W) : Type 0 where
  pub sent : tells → (told new).sent ≡ (told old).sent
  pub given : tells → GoesOn (told old) (told new)
  pub purpose_stays : purpose new ≡ purpose old
  pub origin_stays : origin new ≡ origin old
  pub later : wants old ≤ wants new
