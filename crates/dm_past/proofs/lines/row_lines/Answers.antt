use Rattle.dm_past.proofs.Written.{lines_more}
use Rattle.dm_past.proofs.lines.row_lines.Goals as goal

pub loop-row-preserved : goal.loop-row-preserved
loop-row-preserved c =
    lines_more c.args.rows.now c.loop-row.row-index c.row-item.result c.loop-row.text c.add_row_line.new.text c.loop-row-test.true c.row-item.is c.loop-row.invariant c.in_ok-add_row_line.ensures
