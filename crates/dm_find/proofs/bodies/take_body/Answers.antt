use Rattle.dm_find.proofs.Taking.{body_taken}
use Rattle.dm_find.proofs.bodies.take_body.Goals as goal

pub returns-in-Ok : goal.returns-in-Ok
returns-in-Ok c = body_taken c.args.body.now c.in-Ok.entry c.args.items.now c.take_entry-result.new.items c.take_entry-result.result c.in-Ok.ensures.0 c.in-Ok.ensures.1 c.take_entry-result.ensures
