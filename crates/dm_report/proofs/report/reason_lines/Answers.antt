use Rattle.dm_report.proofs.Pieces.{below_more, nothing_below}
use Rattle.dm_report.proofs.report.reason_lines.Goals as goal

pub loop-code-init : goal.loop-code-init
loop-code-init c = nothing_below c.args.items.now c.new-text.result c.new-text.ensures

pub loop-code-preserved : goal.loop-code-preserved
loop-code-preserved c =
    below_more c.args.items.now c.loop-code.code c.loop-code.text c.add_reason.new.text c.count_for.result c.loop-code.invariant c.count_for.ensures c.in_ok-add_reason.ensures
