use Rattle.std.proofs.Common.{sym}
use Rattle.dm_rehearse_run.proofs.Keeping.{complete_generated_if, file_if}
use Rattle.dm_rehearse_run.proofs.session.name_in.Goals as goal

pub returns-in-Some-clause-file : goal.returns-in-Some-clause-file
returns-in-Some-clause-file c = file_if c.args.desk.now c.in-Some.item.now c.name_of.result (sym c.in-Some.ensures) c.name_of.ensures

pub returns-in-Some-clause-generated : goal.returns-in-Some-clause-generated
returns-in-Some-clause-generated c = complete_generated_if c.args.desk.now 1 c.in-Some.item.now c.name_of.result c.requires.whole c.requires.held (sym c.in-Some.ensures) c.name_of.ensures
