use Rattle.std.proofs.Common.{arith, ◌∙◌, Ok, Err}
use Rattle.dm_store.specs.Origin.{said_of}
use Rattle.dm_attempt.specs.Trace.{with_saves}
use Rattle.dm_rounds.proofs.Readings.{may_read, reads_then}
use Rattle.dm_rounds.proofs.lanes.read_lanes.Goals as goal

pub returns-in-Err-clause-goes : goal.returns-in-Err-clause-goes
returns-in-Err-clause-goes g c scene older asking cover shares reading =
    let D = g.S.D.Disk in
    let N = g.N.Net in
    let W = g.N.W.Wire in
    let view = g.S.Desk.view in
    let on = c.loop-lanes.invariant.goes scene older asking cover shares reading in
    reads_then D.tells D.history (λ o. said_of (g.S.O.Origin.says o)) D.far D.faults N.tells W.tells g.met.N.Net.wires_tell W.purpose W.told W.origin scene c.args.going.now (view c.loop-lanes.desk) (view c.take_turn.new.desk) (N.closed c.loop-lanes.net) (N.closed c.take_turn.new.net)
    older asking cover shares c.loop-lanes.lanes.items c.take_turn.new.lanes.items (Err c.in-Err.stop) on (c.in-Err.ensures.goes scene (with_saves older on.saves) asking cover on.after on.is)

pub loop-lanes-preserved : goal.loop-lanes-preserved
loop-lanes-preserved g c =
    let D = g.S.D.Disk in
    let N = g.N.Net in
    let W = g.N.W.Wire in
    let view = g.S.Desk.view in
    record {
      room = let r = c.loop-lanes.invariant.room in omega (arith, r, c.take_turn.auto.buffer);
      few = let f = c.loop-lanes.invariant.few in rw c.in-Ok.ensures.limits (omega (arith, f, c.take_turn.auto.buffer));
      may = let was = c.loop-lanes.invariant.may in
          may_read D.tells D.history (λ o. said_of (g.S.O.Origin.says o)) D.far D.faults N.tells W.tells g.met.N.Net.wires_tell W.purpose W.told W.origin was.scene c.args.going.now (view c.take_turn.new.desk) (N.closed c.take_turn.new.net) was.older was.asking was.cover was.shares
          c.take_turn.new.lanes.items (c.in-Ok.ensures.goes was.scene was.older was.asking was.cover was.shares was.is);
      goes = λ scene older asking cover shares reading.
          let on = c.loop-lanes.invariant.goes scene older asking cover shares reading in
          reads_then D.tells D.history (λ o. said_of (g.S.O.Origin.says o)) D.far D.faults N.tells W.tells g.met.N.Net.wires_tell W.purpose W.told W.origin scene c.args.going.now (view c.loop-lanes.desk) (view c.take_turn.new.desk) (N.closed c.loop-lanes.net) (N.closed c.take_turn.new.net)
          older asking cover shares c.loop-lanes.lanes.items c.take_turn.new.lanes.items (Ok tt) on (c.in-Ok.ensures.goes scene (with_saves older on.saves) asking cover on.after on.is);
      capacity = c.take_turn.ensures.capacity ∙ c.loop-lanes.invariant.capacity;
      later = λ kind. let a = c.loop-lanes.invariant.later kind in let b = c.take_turn.ensures.later kind in omega (arith, a, b);
      origin = c.take_turn.ensures.origin ∙ c.loop-lanes.invariant.origin;
    }
