use Rattle.std.proofs.Common.{inr, Ok, refl}
use Rattle.dm_past.specs.Past.{past_of}
use Rattle.dm_import.proofs.Chains.{added_of}
use Rattle.dm_import.proofs.adding.add_next.Goals as goal

pub returns-in-Ok-push-clause-tried : goal.returns-in-Ok-push-clause-tried
returns-in-Ok-push-clause-tried g c = record {
  one = c.in-Ok.named;
  was = added_of g.K.Keeper.tells g.D.Disk.faults c.args.at c.args.order c.args.desk.now c.add_order.new.desk (past_of g.K.Keeper.rows g.K.Keeper.faults c.args.keeper.now) (past_of g.K.Keeper.rows g.K.Keeper.faults c.add_order.new.keeper) c.in-Ok.named
      (Ok c.in-Ok.named) c.in-Ok.ensures.tried refl;
  all_are = c.in-Ok-push.ensures.ok;
}

pub returns-in-Err-clause-tried : goal.returns-in-Err-clause-tried
returns-in-Err-clause-tried g c = inr (c.in-Err.ensures.tried, refl)
