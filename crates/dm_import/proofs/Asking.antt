-- Words that ask for an import.
use Rattle.std.proofs.Common.{◌≡◌, ℕ, List, Some, None, sym, ◌∙◌, ap, subst}
use Rattle.dm_item.proofs.Basics.{none_some, some_same}
use Rattle.dm_words.specs.Asked.{Asked, Asks, Imports}
use Rattle.dm_import.specs.Words.{HasImport, name_in}

-- an import of this name alone has it
is_import : (asked : Asked) (name : List ℕ) → Some name ≡ name_in asked → asked ≡ Imports name
is_import (Imports other) name is = ap Imports (sym (some_same is))
is_import asked name is = absurd cc

pub some_import : (words : List (List ℕ)) (asked : Asked) (name : List ℕ) → Asks words asked → Some name ≡ name_in asked → HasImport words name
some_import words asked name asks is = subst (Asks words) (is_import asked name is) asks

pub none_import : (words : List (List ℕ)) (asked : Asked) → ((other : Asked) → Asks words other → other ≡ asked) → None ≡ name_in asked → (name : List ℕ) → HasImport words name → ⊥
none_import words asked alone is name has = none_some (is ∙ ap name_in (sym (alone (Imports name) has)))
