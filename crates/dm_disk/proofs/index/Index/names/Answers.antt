use Rattle.std.proofs.Common.{arith}
use Rattle.dm_disk.proofs.Entries.{listed_more}
use Rattle.dm_disk.proofs.index.Index.names.Goals as goal

pub loop-one-preserved : goal.loop-one-preserved
loop-one-preserved c =
    listed_more c.args.area c.deref-one-items.result.now c.loop-one.one-index c.one-item.result c.loop-one.names.items c.list.new.names.items (omega arith) c.one-item.is c.loop-one.invariant c.in_ok-list.ensures
