use Rattle.dm_find.proofs.Taking.{take_failed}
use Rattle.dm_find.proofs.bodies.take_entry.Goals as goal

pub returns-in-Err : goal.returns-in-Err
returns-in-Err c = take_failed c.args.items.now c.apply.new.self c.args.entry.now c.in-Err.fault c.apply_fault.result c.in-Err.ensures.err c.apply_fault.ensures
