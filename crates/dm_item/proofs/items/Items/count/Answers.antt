use Rattle.std.proofs.Common.{arith}
use Rattle.dm_item.proofs.Numbers.{numbered-count}
use Rattle.dm_item.proofs.items.Items.count.Goals as goal

pub overflow_cast-result : goal.overflow_cast-result
overflow_cast-result c =
    let few = numbered-count 1 c.self.inside.items.items c.self.inside.next c.self.invariant.numbered in
    omega arith
