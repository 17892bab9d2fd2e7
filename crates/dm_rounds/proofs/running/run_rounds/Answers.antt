use Rattle.std.proofs.Common.{◌≡◌, ◌∙◌, ◌≤◌, Bool, Ok, refl, sym, ap, subst, arith, vec_len}
use Rattle.dm_types.specs.declared.item.Limits.{Limits}
use Rattle.dm_store.specs.Origin.{said_of}
use Rattle.dm_store.specs.declared.pass.Pass.{Pass}
use Rattle.dm_attempt.specs.declared.stop.Going.{Going}
use Rattle.dm_rounds.specs.Rounding.{AsksAll}
use Rattle.dm_rounds.specs.Running.{MayGoOn, RunsOn, RunsOnce, later_asking}
use Rattle.dm_rounds.specs.Trail.{RunEnds, RunStops}
use Rattle.dm_rounds.proofs.Onward.{ends_from, from_same, stops_from}
use Rattle.dm_rounds.proofs.Trails.{from_then}
use Rattle.dm_rounds.proofs.running.run_rounds.Goals as goal

pub loop-now-init : goal.loop-now-init
loop-now-init g c = record {
  place = c.requires.place;
  room = c.requires.room;
  most = c.requires.most;
  may = c.requires.may;
  goes = λ scene older first shares running count asks. record { trace = older; from = from_same older; shares = shares; is = running };
  pass = refl;
  capacity = refl;
  later = λ kind. omega arith;
  stays = refl;
}

pub returns-in-Ok-true-clause-goes : goal.returns-in-Ok-true-clause-goes
returns-in-Ok-true-clause-goes g c scene older first shares running count asks =
    let D = g.S.D.Disk in
    let N = g.N.Net in
    let W = g.N.W.Wire in
    let view = g.S.Desk.view in
    let was = c.loop-now.invariant in
    let now = c.loop-now.now in
    let on = was.goes scene older first shares running count asks in
    let own = subst (λ (p : Pass). AsksAll (later_asking first) c.args.source.now p) (sym was.pass) asks in
    let once = subst (λ (b : Bool). RunsOnce D.tells D.history (λ o. said_of (g.S.O.Origin.says o)) D.far D.faults N.tells W.tells W.purpose W.told W.origin scene now (view c.run_once.new.desk) (N.closed c.run_once.new.net) (N.origin_of c.run_once.new.net) (N.faults c.loop-now.net) (N.faults c.run_once.new.net) on.trace first c.run_once.new.tools.lanes.items c.args.at (Ok b))
    c.in-Ok-true.field-0-test (c.in-Ok-true.ensures.goes scene on.trace first on.shares on.is (on.from.count_is ∙ count) own) in
    subst (λ (p : Pass). RunEnds D.tells D.history (λ o. said_of (g.S.O.Origin.says o)) D.far D.faults N.tells scene p (view c.run_once.new.desk) (N.closed c.run_once.new.net) older first) was.pass
    (ends_from D.tells D.history (λ o. said_of (g.S.O.Origin.says o)) D.far D.faults N.tells scene now.pass (view c.run_once.new.desk) (N.closed c.run_once.new.net) older on.trace first on.from once)

pub next_of-now-requires : goal.next_of-now-requires
next_of-now-requires g c e =
    let D = g.S.D.Disk in
    let N = g.N.Net in
    let W = g.N.W.Wire in
    let view = g.S.Desk.view in
    let may = c.loop-now.invariant.may in
    let now = c.loop-now.now in
    let next = subst (λ (b : Bool). RunsOnce D.tells D.history (λ o. said_of (g.S.O.Origin.says o)) D.far D.faults N.tells W.tells W.purpose W.told W.origin may.run.scene now (view c.run_once.new.desk) (N.closed c.run_once.new.net) (N.origin_of c.run_once.new.net) (N.faults c.loop-now.net) (N.faults c.run_once.new.net) may.run.older may.run.first c.run_once.new.tools.lanes.items c.args.at (Ok b))
    c.in-Ok-false.field-0-test (c.in-Ok-false.ensures.goes may.run.scene may.run.older may.run.first may.run.shares may.run.is may.count_is may.asks) in
    let turn = next.0.is.reading.has.turn_is in
    next.1 (omega (arith, turn, e))

pub loop-now-preserved : goal.loop-now-preserved
loop-now-preserved g c =
    let D = g.S.D.Disk in
    let N = g.N.Net in
    let W = g.N.W.Wire in
    let view = g.S.Desk.view in
    let was = c.loop-now.invariant in
    let may = was.may in
    let now = c.loop-now.now in
    let next = subst (λ (b : Bool). RunsOnce D.tells D.history (λ o. said_of (g.S.O.Origin.says o)) D.far D.faults N.tells W.tells W.purpose W.told W.origin may.run.scene now (view c.run_once.new.desk) (N.closed c.run_once.new.net) (N.origin_of c.run_once.new.net) (N.faults c.loop-now.net) (N.faults c.run_once.new.net) may.run.older may.run.first c.run_once.new.tools.lanes.items c.args.at (Ok b))
    c.in-Ok-false.field-0-test (c.in-Ok-false.ensures.goes may.run.scene may.run.older may.run.first may.run.shares may.run.is may.count_is may.asks) in
    let limits : (view c.run_once.new.desk).limits ≡ (view c.loop-now.desk).limits = next.0.is.reading.has.live.goes.went.limits ∙ sym may.run.is.reading.has.live.goes.went.limits in
    record {
      place = let p = was.place in let e = c.run_once.ensures.capacity in omega (arith, p, e);
      room = let r = was.room in let e = c.run_once.ensures.buffer in omega (arith, r, e);
      most = subst (λ (l : Limits). vec_len c.run_once.new.tools.buffer ≤ l.piece) (sym limits) (let m = was.most in let e = c.run_once.ensures.buffer in omega (arith, m, e));
      may = subst (λ (going : Going). MayGoOn D.tells D.history (λ o. said_of (g.S.O.Origin.says o)) D.far D.faults N.tells W.tells W.purpose W.told W.origin going (view c.run_once.new.desk) (N.closed c.run_once.new.net) (N.origin_of c.run_once.new.net) c.run_once.new.tools.lanes.items c.args.source.now c.args.n c.args.at) (sym c.next_of-now.ensures)
          (record { run = record { scene = may.run.scene; older = next.0.trace; first = may.run.first; shares = next.0.shares; is = next.0.is }; count_is = next.0.from.count_is ∙ may.count_is; asks = may.asks });
      goes = λ scene older first shares running count asks.
          let on = was.goes scene older first shares running count asks in
          let own = subst (λ (p : Pass). AsksAll (later_asking first) c.args.source.now p) (sym was.pass) asks in
          let more = subst (λ (b : Bool). RunsOnce D.tells D.history (λ o. said_of (g.S.O.Origin.says o)) D.far D.faults N.tells W.tells W.purpose W.told W.origin scene now (view c.run_once.new.desk) (N.closed c.run_once.new.net) (N.origin_of c.run_once.new.net) (N.faults c.loop-now.net) (N.faults c.run_once.new.net) on.trace first c.run_once.new.tools.lanes.items c.args.at (Ok b))
          c.in-Ok-false.field-0-test (c.in-Ok-false.ensures.goes scene on.trace first on.shares on.is (on.from.count_is ∙ count) own) in
          subst (λ (going : Going). RunsOn D.tells D.history (λ o. said_of (g.S.O.Origin.says o)) D.far D.faults N.tells W.tells W.purpose W.told W.origin scene going (view c.run_once.new.desk) (N.closed c.run_once.new.net) (N.origin_of c.run_once.new.net) older first c.run_once.new.tools.lanes.items c.args.at) (sym c.next_of-now.ensures)
          (record { trace = more.0.trace; from = from_then older on.trace more.0.trace on.from more.0.from; shares = more.0.shares; is = more.0.is });
      pass = ap (λ (going : Going). going.pass) c.next_of-now.ensures ∙ was.pass;
      capacity = c.run_once.ensures.capacity ∙ was.capacity;
      later = λ kind. let a = was.later kind in let b = c.run_once.ensures.later kind in omega (arith, a, b);
      stays = c.run_once.ensures.stays ∙ was.stays;
    }

pub returns-in-Err-clause-goes : goal.returns-in-Err-clause-goes
returns-in-Err-clause-goes g c scene older first shares running count asks =
    let D = g.S.D.Disk in
    let N = g.N.Net in
    let W = g.N.W.Wire in
    let view = g.S.Desk.view in
    let was = c.loop-now.invariant in
    let now = c.loop-now.now in
    let on = was.goes scene older first shares running count asks in
    let own = subst (λ (p : Pass). AsksAll (later_asking first) c.args.source.now p) (sym was.pass) asks in
    subst (λ (p : Pass). RunStops D.tells D.history (λ o. said_of (g.S.O.Origin.says o)) D.far D.faults N.tells scene p (view c.run_once.new.desk) (N.closed c.run_once.new.net) (N.faults c.args.net.now) (N.faults c.run_once.new.net) older first c.in-Err.stop) was.pass
    (stops_from D.tells D.history (λ o. said_of (g.S.O.Origin.says o)) D.far D.faults N.tells scene now.pass (view c.run_once.new.desk) (N.closed c.run_once.new.net) older on.trace first on.from (N.faults c.args.net.now) (N.faults c.loop-now.net) (N.faults c.run_once.new.net) was.later c.in-Err.stop
    (c.in-Err.ensures.goes scene on.trace first on.shares on.is (on.from.count_is ∙ count) own))
