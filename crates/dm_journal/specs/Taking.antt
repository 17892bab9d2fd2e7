-- The bodies of whole cells are taken from the front of some bytes.
use Rattle.std.specs.Prelude.{◌≡◌, ℕ, ◌≤◌, List, ◌++◌, length, drop}
use Rattle.dm_journal.specs.Text.{AllFit, cells, IsBroken}
use Rattle.dm_journal.specs.Cell.{IsShut, IsNoCell}
use Rattle.dm_journal.specs.declared.text.Taken.{Taken}
use Rattle.dm_journal.specs.declared.text.End.{End}
use Rattle.dm_journal.specs.declared.text.End.TheVariants.{Shut, Broken, More}

-- what stands behind the whole cells
abbrev pub EndsSo : End → List ℕ → Type 0
EndsSo Shut rest = IsShut rest
EndsSo Broken rest = IsNoCell rest
EndsSo More rest = IsBroken rest

-- The cells of the new bodies stand at the front of the bytes, and then the rest.
pub record TakesUpTo (old new : List (List ℕ)) (bytes rest : List ℕ) : Type 0 where
  pub gone : List ℕ
  pub is : bytes ≡ gone ++ rest
  pub taken : cells new ≡ cells old ++ gone
  pub sizes : AllFit old → AllFit new

pub record TakesCells (old new : List (List ℕ)) (bytes : List ℕ) (taken : Taken) : Type 0 where
  pub within : taken.count ≤ length bytes
  pub takes : TakesUpTo old new bytes (drop taken.count bytes)
  pub ends : EndsSo taken.end (drop taken.count bytes)
