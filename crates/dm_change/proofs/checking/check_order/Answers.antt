use Rattle.std.proofs.Common.{sym}
use Rattle.dm_change.proofs.Orders.{word_there}
use Rattle.dm_change.proofs.checking.check_order.Goals as goal

pub unreachable-requires : goal.unreachable-requires
unreachable-requires c = word_there c.bytes.result.now c.args.items.now.items c.in-Some.id c.in-Some.ensures.some.1 (sym c.in_default-get.ensures)
