use Rattle.std.proofs.Common.{◌≡◌, ◌++◌, ◌∷◌, [], rules}
use Rattle.dm_item.specs.Restored.{IsRestorable}
use Rattle.dm_item.proofs.Numbers.{kept-restored}
use Rattle.dm_item.proofs.items.Items.restore.Goals as goal

pub invariant_of-self-2 : goal.invariant_of-self-2
invariant_of-self-2 c =
    let value : c.push_item.new.items.items ≡ c.self.inside.items.items ++ c.args.item.now ∷ [] = search rules in
    let restorable : IsRestorable c.self.inside.early c.self.inside.next c.self.inside.items.items c.args.item.now = search rules in
    kept-restored c.self.inside.limit c.self.inside.next c.self.inside.early c.self.inside.items.items c.push_item.new.items.items c.args.item.now c.self.invariant.numbered restorable value
