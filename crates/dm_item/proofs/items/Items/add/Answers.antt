use Rattle.std.proofs.Common.{◌≡◌, ◌++◌, ◌∷◌, [], false, ap, rules}
use Rattle.dm_types.specs.declared.item.Item.{Item}
use Rattle.dm_item.proofs.Numbers.{kept-push}
use Rattle.dm_item.proofs.items.Items.add.Goals as goal

pub invariant_of-self-2 : goal.invariant_of-self-2
invariant_of-self-2 c =
    let value : c.push_item.new.items.items ≡ c.self.inside.items.items ++ c.in-Ok-make_item.item ∷ [] = search rules in
    let same : c.args.id.0 ≡ c.self.inside.next = search rules in
    let made : c.in-Ok-make_item.item.id.0 ≡ c.args.id.0 = ap (λ (i : Item). i.id.0) c.in-Ok-make_item.ensures in
    kept-push c.self.inside.limit c.self.inside.next c.args.id.0 false c.self.inside.items.items c.push_item.new.items.items c.in-Ok-make_item.item c.self.invariant.numbered same made value
