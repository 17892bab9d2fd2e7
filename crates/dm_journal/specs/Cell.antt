-- What stands at a gate.
use Rattle.std.specs.Prelude.{◌≡◌, ◌≢◌, ℕ, List, ◌∷◌, ◌++◌}
use Rattle.dm_journal.specs.Text.{FitsCell, cell, IsBroken}
use Rattle.dm_journal.specs.declared.cell.AtGate.{AtGate}
use Rattle.dm_journal.specs.declared.cell.AtGate.TheVariants.{Shut, Cell, Broken, More}

-- a closed gate, and then anything
pub record IsShut (bytes : List ℕ) : Type 0 where
  pub gate : ℕ
  pub rest : List ℕ
  pub shut : gate ≢ 1
  pub is : bytes ≡ gate ∷ rest

-- no cell is whole here, whatever stands behind
abbrev pub IsNoCell : List ℕ → Type 0
IsNoCell bytes = (more : List ℕ) → IsBroken (bytes ++ more)

abbrev pub IsAtGate : List ℕ → AtGate → Type 0
IsAtGate bytes Shut = IsShut bytes
IsAtGate bytes (Cell body after) = FitsCell body.now × (bytes ≡ cell body.now ++ after.now)
IsAtGate bytes Broken = IsNoCell bytes
IsAtGate bytes More = IsBroken bytes
