use Rattle.dm_item.proofs.Numbers.{kept-put}
use Rattle.dm_item.proofs.items.Items.put_changed.Goals as goal

pub invariant_of-self : goal.invariant_of-self
invariant_of-self c =
    kept-put c.self.inside.limit c.self.inside.next c.self.inside.items.items c.put_item.new.items.items c.args.item c.self.invariant.numbered c.put_item.ensures
