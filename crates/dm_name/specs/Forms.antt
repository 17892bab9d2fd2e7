-- The forms of a name, and the first that is free.
use Rattle.std.specs.Prelude.{◌≡◌, ◌<◌, ◌≤◌, ℕ, zero, suc, List, ◌++◌, codes, Any}
use Rattle.std.specs.Fmt.{decimal}
use Rattle.dm_types.specs.Name.{fold_case}
use Rattle.dm_name.specs.Clean.{stem, extension}

-- the name itself, and the name with a number before its extension
abbrev pub form : List ℕ → ℕ → List ℕ
form name zero = name
form name (suc k) = stem name ++ (codes " (" ++ (decimal (suc k) ++ (codes ")" ++ extension name)))

-- one of the taken names is this one, ASCII case ignored
abbrev pub IsTaken : List (List ℕ) → List ℕ → Type 0
IsTaken taken name = Any (λ other. fold_case other ≡ fold_case name) taken

-- the first of the 101 forms that isn't taken
pub record IsFirstFree (wish : List ℕ) (taken : List (List ℕ)) (name : List ℕ) : Type 0 where
  pub number : ℕ
  pub within : number ≤ 100
  pub is : name ≡ form wish number
  pub free : IsTaken taken name → ⊥
  pub others : (k : ℕ) → k < number → IsTaken taken (form wish k)

abbrev pub AreAllTaken : List ℕ → List (List ℕ) → Type 0
AreAllTaken wish taken = (k : ℕ) → k ≤ 100 → IsTaken taken (form wish k)
