-- What is known of a content.
use Rattle.std.specs.Prelude.{◌≡◌, ℕ, List, Some, Contains}
use Rattle.dm_types.specs.declared.entry.Entry.TheVariants as entries
use Rattle.dm_types.specs.declared.item.Item.{Item}
use Rattle.dm_types.specs.declared.item.Key.{Key}
use Rattle.dm_types.specs.declared.item.Key.TheVariants.{Strong}
use Rattle.dm_edge.specs.declared.wanted.Wanted.{Wanted}
use Rattle.dm_edge.specs.declared.wanted.Wanted.TheVariants.{Whole, Part}
use Rattle.dm_item.specs.Lawful.{History}

-- What is known of an item's content, its validator, address and length: those that it had already, or that an entry of the list tells.
pub data IsKnownOf (item : Item) (list : History) (validator : Key) (address : List ℕ) (total : ℕ) : Type 0 where
  kept : item.key ≡ Some validator → item.last_address ≡ Some address → item.total ≡ Some total → IsKnownOf item list validator address total
  told : (name modified : List ℕ) → Contains list (entries.Described item.id validator address (Some total) name modified) → IsKnownOf item list validator address total

-- of a range that is wanted at this address: its total is known of the content there, under its tag
abbrev pub OfKnown : Item → History → List ℕ → Wanted → Type 0
OfKnown item list address Whole = Unit {0}
OfKnown item list address (Part first last tag total) = IsKnownOf item list (Strong tag) address total
