use Rattle.dm_hist.specs.Rows.{with_row}
use Rattle.dm_hist.proofs.Placing.{rows_after, rows_with}
use Rattle.dm_hist.proofs.memory.MemoryKeeperKeeper.put_row.Goals as goal

pub invariant_of-self : goal.invariant_of-self
invariant_of-self c =
    let old = c.self.inside.rows.items in
    rows_after c.put_copy.result old (with_row c.args.row.now old) c.put_copy.new.rows.items c.self.invariant
    (rows_with c.args.row.now old c.requires.id c.self.invariant) c.put_copy.ensures.ok c.put_copy.ensures.err

pub returns-in-Ok-clause-rising : goal.returns-in-Ok-clause-rising
returns-in-Ok-clause-rising c =
    let old = c.self.inside.rows.items in
    rows_after c.put_copy.result old (with_row c.args.row.now old) c.put_copy.new.rows.items c.self.invariant
    (rows_with c.args.row.now old c.requires.id c.self.invariant) c.put_copy.ensures.ok c.put_copy.ensures.err
