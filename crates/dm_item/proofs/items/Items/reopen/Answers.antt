use Rattle.std.proofs.Common.{◌≡◌, ◌≤◌, ◌⊎◌, IsTrue, rules}
use Rattle.dm_item.proofs.Numbers.{kept-reopened}
use Rattle.dm_item.proofs.items.Items.reopen.Goals as goal

pub invariant_of-self : goal.invariant_of-self
invariant_of-self c =
    let may : (c.args.next ≡ c.self.inside.next) ⊎ (IsTrue c.self.inside.first × (1 ≤ c.args.next)) = search rules in
    kept-reopened c.self.inside.limit c.self.inside.next c.args.next c.next_after-self-inside.result c.self.inside.first c.self.inside.early c.self.inside.items.items c.stop_every.new.items.items c.self.invariant.numbered c.self.invariant.fresh may c.next_after-self-inside.ensures c.stop_every.ensures
