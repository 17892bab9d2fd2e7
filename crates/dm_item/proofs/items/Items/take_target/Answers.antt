use Rattle.dm_item.proofs.Numbers.{kept-named}
use Rattle.dm_item.proofs.items.Items.take_target.Goals as goal

pub invariant_of-self : goal.invariant_of-self
invariant_of-self c =
    kept-named c.self.inside.limit c.self.inside.next c.args.entry.now c.self.inside.items.items c.change_target.new.items.items c.self.invariant.numbered c.in-Ok.ensures.ok
