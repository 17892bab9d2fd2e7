-- What a word names: an item, or else a row of the history.
use Rattle.std.specs.Prelude.{◌≡◌, ℕ, List, [], ◌∷◌, Option, Some, None, Result, Ok, find, bytes_eq, option_map}
use Rattle.dm_types.specs.declared.item.Item.{Item}
use Rattle.dm_hist.specs.declared.row.Row.{Row}
use Rattle.dm_hist.specs.Rows.{row_with}
use Rattle.dm_shown.specs.declared.named.Named.{Named}
use Rattle.dm_shown.specs.declared.named.Named.TheVariants as names

-- the first item that has the word
abbrev pub item_with : List ℕ → List Item → Option Item
item_with word items = find (λ item. bytes_eq item.word word) items

-- what was found, of the list and of the history: an item stands before a row
abbrev pub first_named : Option Item → Option Row → Option Named
first_named (Some item) row = Some (names.Item item.id)
first_named None row = option_map names.Row row

-- what the word names; the empty word names nothing
abbrev pub named : List ℕ → List Item → List Row → Option Named
named [] items rows = None
named (byte ∷ rest) items rows = first_named (item_with (byte ∷ rest) items) (row_with (byte ∷ rest) rows)

-- The answer that needs no history: there is no word, or an item has it.
abbrev pub HasWithout : List ℕ → Option Item → {E : Type 0} → Result (Option Named) E → Type 0
HasWithout [] found answer = answer ≡ Ok None
HasWithout (byte ∷ rest) (Some item) answer = answer ≡ Ok (Some (names.Item item.id))
HasWithout (byte ∷ rest) None answer = Unit {0}
