-- The words of items: the short names that a user gives.
use Rattle.std.specs.Prelude.{◌≡◌, ◌≢◌, ℕ, ◌⊎◌, List, [], ◌∷◌}
use Rattle.dm_types.specs.declared.item.Item.{Item}
use Rattle.dm_types.specs.declared.item.ItemId.{ItemId}

-- no item has the word
abbrev pub HasNoWord : List ℕ → List Item → Type 0
HasNoWord word [] = Unit {0}
HasNoWord word (item ∷ rest) = (item.word ≢ word) × HasNoWord word rest

-- the word is empty, or no item has it
abbrev pub IsFreeWord : List ℕ → List Item → Type 0
IsFreeWord [] items = Unit {0}
IsFreeWord (byte ∷ rest) items = HasNoWord (byte ∷ rest) items

-- the first item with the word has this id
abbrev pub IsWordOf : List ℕ → List Item → ItemId → Type 0
IsWordOf word [] id = ⊥
IsWordOf word (item ∷ rest) id = ((item.word ≡ word) × (item.id ≡ id)) ⊎ ((item.word ≢ word) × IsWordOf word rest id)

-- a word that isn't empty is the item's
abbrev pub HasWordOf : List ℕ → List Item → ItemId → Type 0
HasWordOf word items id = (word ≢ []) × IsWordOf word items id
