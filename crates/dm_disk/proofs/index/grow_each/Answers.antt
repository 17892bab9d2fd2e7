use Rattle.std.proofs.Common.{sym, ap, ◌∙◌, arith}
use Rattle.dm_disk.specs.Index.{entry_grown}
use Rattle.dm_disk.proofs.Entries.{grown_more}
use Rattle.dm_disk.proofs.index.grow_each.Goals as goal

pub loop-one-preserved : goal.loop-one-preserved
loop-one-preserved c =
    grown_more c.args.area c.args.file c.args.end c.args.entries.now c.loop-one.entries c.loop-one.one-index c.one-item.result c.grow.new.self (omega arith) c.loop-one.invariant c.one-item.is
    (c.grow.ensures ∙ ap (entry_grown c.args.area c.args.file c.args.end) (sym c.one-item.is))
