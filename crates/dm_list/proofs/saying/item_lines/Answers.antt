use Rattle.dm_list.proofs.Texts.{lines_more}
use Rattle.dm_list.proofs.saying.item_lines.Goals as goal

pub loop-item-preserved : goal.loop-item-preserved
loop-item-preserved c =
    lines_more c.args.items.now c.loop-item.item-index c.item-item.result c.loop-item.text c.add_item_line.new.text c.loop-item-test.true c.item-item.is c.loop-item.invariant c.in_ok-add_item_line.ensures
