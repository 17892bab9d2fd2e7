use Rattle.dm_types.specs.declared.item.Phase.TheVariants as phases
use Rattle.dm_report.specs.Texts.{item_line_of}
use Rattle.dm_report.specs.declared.verdict.Verdict.TheVariants as verdicts
use Rattle.dm_list.proofs.Texts.{ends_text, in_phase}
use Rattle.dm_list.proofs.saying.brought.Goals as goal

pub returns-in-Complete : goal.returns-in-Complete
returns-in-Complete c =
    in_phase c.args.item.now.phase phases.Complete (item_line_of c.args.item.now) c.with_text.result c.in-Complete.is
    (ends_text verdicts.Done c.item_line.result (item_line_of c.args.item.now) c.with_text.result c.with_text.ensures c.item_line.ensures)

pub returns-in-Interrupted : goal.returns-in-Interrupted
returns-in-Interrupted c =
    in_phase c.args.item.now.phase (phases.Interrupted c.in-Interrupted.reason) (item_line_of c.args.item.now) c.interrupted.result c.in-Interrupted.is c.interrupted.ensures
