use Rattle.std.proofs.Common.{◌<◌, ◌^◌, arith}
use Rattle.dm_sweep.proofs.Leftovers.{not_given, read_given}
use Rattle.dm_sweep.proofs.leftover.is_left.Goals as goal

pub returns-then-id-next : goal.returns-then-id-next
returns-then-id-next c = read_given c.args.items.now c.args.id.0 c.args.epoch.0 c.next.result (omega arith) (omega arith) c.next.ensures c.is_outlived.result c.is_outlived.ensures c.if-id-next.true

pub returns-else-id-next : goal.returns-else-id-next
returns-else-id-next c = not_given c.args.items.now c.args.id.0 c.args.epoch.0 c.next.result (omega arith) (omega arith) c.next.ensures c.if-id-next.false
