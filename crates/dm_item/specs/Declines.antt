-- Why a list doesn't take an entry.
use Rattle.std.specs.Prelude.{◌≡◌, ℕ, ◌≤◌, false, ◌⊎◌, List, length, Some, None, IsSomeAnd, IsTrue}
use Rattle.dm_types.specs.Kind.{kind_of}
use Rattle.dm_types.specs.declared.item.Item.{Item}
use Rattle.dm_types.specs.declared.item.ItemId.{ItemId}
use Rattle.dm_types.specs.declared.entry.Entry.{Entry}
use Rattle.dm_types.specs.declared.entry.Entry.TheVariants as entries
use Rattle.dm_item.specs.declared.fault.ApplyFault.{ApplyFault}
use Rattle.dm_item.specs.declared.fault.ApplyFault.TheVariants.{NoItem, WrongPhase, Full, Unlawful, NoMemory}
use Rattle.dm_item.specs.Row.{Further, allows, target_of}
use Rattle.dm_item.specs.Words.{IsFreeWord}
use Rattle.dm_item.specs.Restored.{IsRestorable}
use Rattle.dm_item.specs.Listing.{HasRoom, Listing, is_broke, item_in, target_in}

-- why the row of an item doesn't take an entry: its phase, and then the further condition
abbrev pub RowDeclines : Entry → List Item → Item → ApplyFault → Type 0
RowDeclines e items item (WrongPhase phase) = (item.phase ≡ phase) × (allows e item.phase ≡ false)
RowDeclines e items item (Unlawful kind) = (kind ≡ kind_of e) × (IsTrue (allows e item.phase) × ¬ Further e items item)
RowDeclines e items item (NoItem id) = ⊥
RowDeclines e items item (Full count) = ⊥
RowDeclines e items item NoMemory = ⊥

-- why an entry that names an item isn't taken; a Broke never wants memory
abbrev pub TargetDeclines : Entry → List Item → ApplyFault → Type 0
TargetDeclines e items (NoItem id) = (target_of e ≡ Some id) × (item_in id.0 items ≡ None)
TargetDeclines e items (WrongPhase phase) = IsSomeAnd (target_in e items) (λ item. RowDeclines e items item (WrongPhase phase))
TargetDeclines e items (Unlawful kind) = IsSomeAnd (target_in e items) (λ item. RowDeclines e items item (Unlawful kind))
TargetDeclines e items (Full count) = ⊥
TargetDeclines e items NoMemory = is_broke e ≡ false

-- why an Added isn't taken: no room, and then its further condition
abbrev pub AddedDeclines : Listing → ItemId → List ℕ → ApplyFault → Type 0
AddedDeclines v id word (Full count) = (count ≡ length v.items) × ((v.limit ≤ length v.items) ⊎ (v.next ≡ 4294967295))
AddedDeclines v id word (Unlawful kind) = (kind ≡ 1) × (HasRoom v × ¬ ((id.0 ≡ v.next) × IsFreeWord word v.items))
AddedDeclines v id word NoMemory = Unit {0}
AddedDeclines v id word (NoItem other) = ⊥
AddedDeclines v id word (WrongPhase phase) = ⊥

-- why a Reopened isn't taken; it wants no memory
abbrev pub ReopenedDeclines : Listing → ℕ → ApplyFault → Type 0
ReopenedDeclines v next (Unlawful kind) = (kind ≡ 13) × ¬ ((next ≡ v.next) ⊎ (IsTrue v.is_first × (1 ≤ next)))
ReopenedDeclines v next (NoItem id) = ⊥
ReopenedDeclines v next (WrongPhase phase) = ⊥
ReopenedDeclines v next (Full count) = ⊥
ReopenedDeclines v next NoMemory = ⊥

-- why a Restored isn't taken
abbrev pub RestoredDeclines : Listing → Item → ApplyFault → Type 0
RestoredDeclines v item (Unlawful kind) = (kind ≡ 14) × ¬ IsRestorable v.is_early v.next v.items item
RestoredDeclines v item NoMemory = Unit {0}
RestoredDeclines v item (NoItem id) = ⊥
RestoredDeclines v item (WrongPhase phase) = ⊥
RestoredDeclines v item (Full count) = ⊥

-- why the list doesn't take an entry
abbrev pub Declines : Listing → Entry → ApplyFault → Type 0
Declines v (entries.Added id word address wish digest at) fault = AddedDeclines v id word fault
Declines v (entries.Reopened next at) fault = ReopenedDeclines v next fault
Declines v (entries.Restored item) fault = RestoredDeclines v item fault
Declines v e fault = TargetDeclines e v.items fault
