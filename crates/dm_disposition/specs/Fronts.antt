-- How far a text goes as some value of the grammar does.
use Rattle.std.specs.Prelude.{ℕ, ◌<◌, ◌≤◌, List, ◌++◌, length, take}
use Rattle.dm_disposition.specs.Grammar.{Field, Spells}

-- some value of the grammar begins so
pub record BeginsValue (front : List ℕ) : Type 0 where
  pub more : List ℕ
  pub field : Field
  pub spells : Spells field (front ++ more)

-- the longest front of the text with which some value begins has this length
pub record IsLongestFront (text : List ℕ) (n : ℕ) : Type 0 where
  pub within : n ≤ length text
  pub begins : BeginsValue (take n text)
  pub longest : (m : ℕ) → n < m → m ≤ length text → BeginsValue (take m text) → ⊥

-- the text is not in the grammar, and this is how far it goes
pub record IsStuckAt (text : List ℕ) (n : ℕ) : Type 0 where
  pub outside : (field : Field) → Spells field text → ⊥
  pub front : IsLongestFront text n
