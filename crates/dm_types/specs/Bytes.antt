-- Bytes of one kind in a row.
use Rattle.std.specs.Prelude.{◌≡◌, ℕ, Bool, false, ◌||◌, ◌==◌, List, [], ◌∷◌, ◌++◌, IsTrue}
use Rattle.std.specs.List.{AllByRecursion}

-- a space or a tab
abbrev pub is_blank : ℕ → Bool
is_blank b = b == 32 || b == 9

-- each byte is of the kind
abbrev pub Each : (ℕ → Bool) → List ℕ → Type 0
Each kind bytes = AllByRecursion (λ b. IsTrue (kind b)) bytes

-- the first byte, if there is one, isn't of the kind
abbrev pub Stops : (ℕ → Bool) → List ℕ → Type 0
Stops kind [] = Unit {0}
Stops kind (b ∷ bytes) = kind b ≡ false

-- the bytes are a run of the kind, as long as it goes, and what follows
pub record Cuts (kind : ℕ → Bool) (bytes run rest : List ℕ) : Type 0 where
  pub parts : bytes ≡ run ++ rest
  pub each : Each kind run
  pub stops : Stops kind rest
