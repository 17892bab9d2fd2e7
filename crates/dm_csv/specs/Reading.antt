-- What each step of reading says to the next.
use Rattle.std.specs.Prelude.{◌≡◌, ℕ, List, ◌∷◌}
use Rattle.dm_request.specs.Fault.{IsNoAddress}
use Rattle.dm_csv.specs.Rows.{AreRows, IsBadAt, IsBadUnder, IsRow, import_header}
use Rattle.dm_csv.specs.declared.importing.ImportFault.{ImportFault}
use Rattle.dm_csv.specs.declared.importing.ImportFault.TheVariants as faults
use Rattle.dm_csv.specs.declared.row.ImportRow.{ImportRow}
use Rattle.dm_csv.specs.declared.row.RowFault.{RowFault}
use Rattle.dm_csv.specs.declared.row.RowFault.TheVariants.{Bad, NoMemory}

-- the fields are no row's, or memory was wanting
abbrev pub RefusesRow : List (List ℕ) → RowFault → Type 0
RefusesRow fields Bad = (row : ImportRow) → ¬ IsRow fields row
RefusesRow fields NoMemory = Unit {0}

-- no address is read of the text, or memory was wanting
abbrev pub RefusesText : List ℕ → RowFault → Type 0
RefusesText text Bad = IsNoAddress text
RefusesText text NoMemory = Unit {0}

-- of the records under the header one is bad, or memory was wanting
abbrev pub RefusesUnder : List (List (List ℕ)) → ImportFault → Type 0
RefusesUnder under (faults.Bad number) = IsBadUnder under number
RefusesUnder under faults.NoMemory = Unit {0}

-- the same of all records
abbrev pub RefusesAll : List (List (List ℕ)) → ImportFault → Type 0
RefusesAll all (faults.Bad number) = IsBadAt all number
RefusesAll all faults.NoMemory = Unit {0}

-- all records are the header and these rows
pub record AreAll (all : List (List (List ℕ))) (rows : List ImportRow) : Type 0 where
  pub under : List (List (List ℕ))
  pub all_are : all ≡ import_header ∷ under
  pub are : AreRows under rows
