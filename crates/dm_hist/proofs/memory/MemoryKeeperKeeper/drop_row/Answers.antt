use Rattle.std.proofs.Common.{sym, subst}
use Rattle.dm_hist.specs.Rows.{AreRows}
use Rattle.dm_hist.proofs.Placing.{rows_without}
use Rattle.dm_hist.proofs.memory.MemoryKeeperKeeper.drop_row.Goals as goal

pub invariant_of-self : goal.invariant_of-self
invariant_of-self c = subst AreRows (sym c.drop_from.ensures.dropped) (rows_without c.args.id.0 c.self.inside.rows.items c.self.invariant)

pub returns-in-Ok-clause-rising : goal.returns-in-Ok-clause-rising
returns-in-Ok-clause-rising c = subst AreRows (sym c.drop_from.ensures.dropped) (rows_without c.args.id.0 c.self.inside.rows.items c.self.invariant)
