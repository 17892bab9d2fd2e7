use Rattle.dm_list.proofs.Courses.{look_none, look_some}
use Rattle.dm_list.proofs.deciding.show.Goals as goal

pub returns-in-Some-clause-decides : goal.returns-in-Some-clause-decides
returns-in-Some-clause-decides g c at = look_some c.args.desk.now c.args.id at c.in-Some.field-0.now c.in-Some.ensures

pub returns-in-None-clause-decides : goal.returns-in-None-clause-decides
returns-in-None-clause-decides g c at = look_none c.args.desk.now c.args.id at c.in-None.ensures
