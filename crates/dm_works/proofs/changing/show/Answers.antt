use Rattle.dm_works.proofs.Settling.{look_none, look_some}
use Rattle.dm_works.proofs.changing.show.Goals as goal

pub returns-in-Some : goal.returns-in-Some
returns-in-Some g c at = look_some g.D.Disk.tells g.D.Disk.history g.D.Disk.faults c.args.desk.now c.args.desk.now at c.args.id c.in-Some.field-0.now c.in-Some.ensures

pub returns-in-None : goal.returns-in-None
returns-in-None g c at = look_none g.D.Disk.tells g.D.Disk.history g.D.Disk.faults c.args.desk.now c.args.desk.now at c.args.id c.in-None.ensures
