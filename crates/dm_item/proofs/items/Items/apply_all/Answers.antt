use Rattle.dm_item.proofs.Histories.{keeps_none, keeps_more, keeps_all}
use Rattle.dm_item.proofs.items.Items.apply_all.Goals as goal

pub loop-entry-init : goal.loop-entry-init
loop-entry-init c = keeps_none c.args.self.now c.args.entries.now

pub loop-entry-preserved : goal.loop-entry-preserved
loop-entry-preserved c =
    keeps_more c.args.self.now c.loop-entry.self c.apply.new.self c.args.entries.now c.loop-entry.entry-index c.entry-item.result c.loop-entry-test.true c.entry-item.is c.loop-entry.invariant c.in-Ok.ensures.ok

pub returns-clause-ok : goal.returns-clause-ok
returns-clause-ok c = keeps_all c.args.self.now c.loop-entry.self c.args.entries.now c.loop-entry.entry-index c.loop-entry-test.false c.loop-entry.invariant
