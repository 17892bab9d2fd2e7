use Rattle.dm_find.proofs.Taking.{read_failed, read_ok}
use Rattle.dm_find.proofs.bodies.read_body.Goals as goal

pub returns-in-Ok : goal.returns-in-Ok
returns-in-Ok c = read_ok c.args.body.now c.in-Ok.entry c.in-Ok.count c.whole_entry.result c.in-Ok.ensures.answers c.whole_entry.ensures

pub returns-in-Err : goal.returns-in-Err
returns-in-Err c = read_failed c.args.body.now c.in-Err.fault c.read_fault.result c.in-Err.ensures.answers c.read_fault.ensures
