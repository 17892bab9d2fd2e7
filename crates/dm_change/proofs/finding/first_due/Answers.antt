use Rattle.std.proofs.Common.{Some, sym, ◌∙◌}
use Rattle.dm_change.proofs.Dues.{first_is}
use Rattle.dm_change.proofs.finding.first_due.Goals as goal

pub returns-in-Some-due_by : goal.returns-in-Some-due_by
returns-in-Some-due_by c = first_is c.args.items.now c.in-Some.item.now (Some c.in-Some-due_by.by) c.in-Some.ensures (sym c.in-Some-due_by.is ∙ c.due_by.ensures)
