use Rattle.dm_store.specs.Store.{view_of}
use Rattle.dm_begin.proofs.Planned.{round_small}
use Rattle.dm_begin.proofs.planning.make_round.Goals as goal

pub plan_life-requires-clause-total : goal.plan_life-requires-clause-total
plan_life-requires-clause-total g c = round_small g.D.Disk.tells g.D.Disk.history (view_of c.args.store.now) c.args.pass.now c.args.round c.requires.store.desk c.requires.may
