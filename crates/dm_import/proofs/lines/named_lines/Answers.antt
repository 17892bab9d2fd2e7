use Rattle.dm_import.proofs.Printed.{lines_more}
use Rattle.dm_import.proofs.lines.named_lines.Goals as goal

pub loop-named-preserved : goal.loop-named-preserved
loop-named-preserved c =
    lines_more c.args.items.now.items c.args.all.now c.loop-named.named-index c.named-item.result c.loop-named.text c.add_named_line.new.text c.loop-named-test.true c.named-item.is c.loop-named.invariant c.in_ok-add_named_line.ensures
