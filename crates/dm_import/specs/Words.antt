-- Which words ask for an import.
use Rattle.std.specs.Prelude.{ℕ, List, Option, Some, None}
use Rattle.dm_words.specs.Asked.{Asked, Asks, Imports}

abbrev pub name_in : Asked → Option (List ℕ)
name_in (Imports name) = Some name
name_in asked = None

-- the words ask to import the file of this name
abbrev pub HasImport : List (List ℕ) → List ℕ → Type 0
HasImport words name = Asks words (Imports name)
