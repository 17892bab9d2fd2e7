-- What every list keeps, whatever entries it took.
use Rattle.std.specs.Prelude.{◌≡◌, ℕ, ◌+◌, ◌≤◌, List, [], ◌∷◌, IsTrue}
use Rattle.dm_types.specs.declared.item.Item.{Item}
use Rattle.dm_item.specs.Listing.{Listing}

-- The ids rise from a number on, and are below the next id.
abbrev pub IsNumbered : ℕ → List Item → ℕ → Type 0
IsNumbered low [] next = low ≤ next
IsNumbered low (item ∷ rest) next = (low ≤ item.id.0) × IsNumbered (item.id.0 + 1) rest next

-- what every list keeps
pub record IsKept (v : Listing) : Type 0 where
  pub numbered : IsNumbered 1 v.items v.next
  pub fresh : IsTrue v.is_first → v.items ≡ []
