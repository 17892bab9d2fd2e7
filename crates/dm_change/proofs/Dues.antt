-- The first item that is due.
use Rattle.std.proofs.Common.{◌≡◌, List, Option, Some, ap, ◌∙◌}
use Rattle.std.specs.Prelude.{find, option_and_then}
use Rattle.std.specs.Option.{option_map}
use Rattle.dm_types.specs.declared.item.Item.{Item}
use Rattle.dm_types.specs.declared.item.ItemId.{ItemId}
use Rattle.dm_types.specs.declared.kinds.By.{By}
use Rattle.dm_change.specs.Due.{due_by, first_due, is_due}

-- the item's id, and by whom it is due
abbrev told : Item → Option (ItemId × By)
told item = option_map (λ (by : By). (item.id, by)) (due_by item)

pub first_is : (items : List Item) (item : Item) (by : Option By) → Some item ≡ find is_due items → by ≡ due_by item → option_map (λ (by : By). (item.id, by)) by ≡ first_due items
first_is items item by found is = ap (option_map (λ (by : By). (item.id, by))) is ∙ ap (option_and_then told) found
