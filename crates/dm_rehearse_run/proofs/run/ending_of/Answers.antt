use Rattle.std.proofs.Common.{inr}
use Rattle.dm_rehearse_run.proofs.Told.{comes_of, rehearsed}
use Rattle.dm_rehearse_run.proofs.run.ending_of.Goals as goal

pub returns-in-Ok-clause-says : goal.returns-in-Ok-clause-says
returns-in-Ok-clause-says c = rehearsed c.args.number c.in-Ok.text c.new.result c.in-Ok.ensures c.new.ensures

pub returns-in-Ok-clause-comes : goal.returns-in-Ok-clause-comes
returns-in-Ok-clause-comes c = comes_of c.args.number c.in-Ok.text c.new.result c.in-Ok.ensures c.new.ensures

pub returns-in-Err-clause-says : goal.returns-in-Err-clause-says
returns-in-Err-clause-says c = inr c.fixed.ensures

pub returns-in-Err-clause-comes : goal.returns-in-Err-clause-comes
returns-in-Err-clause-comes c = inr c.fixed.ensures
