use Rattle.std.proofs.Common.{◌≡◌, sym, ap, subst, arith}
use Rattle.dm_store.specs.Origin.{said_of}
use Rattle.dm_store.specs.declared.pass.Pass.{Pass}
use Rattle.dm_attempt.specs.declared.stop.Going.{Going}
use Rattle.dm_rounds.specs.First.{first_asking}
use Rattle.dm_rounds.specs.Reading.{closed_before}
use Rattle.dm_rounds.specs.Rounding.{AsksAll, next_shares}
use Rattle.dm_rounds.specs.Running.{later_asking}
use Rattle.dm_rounds.specs.Trail.{RunLeaves}
use Rattle.dm_rounds.proofs.Bringing.{first_lost, first_runs, rest_asked, share_count}
use Rattle.dm_rounds.proofs.Onward.{leaves_longer}
use Rattle.dm_rounds.proofs.Serves.{drop_one, later_asks}
use Rattle.dm_rounds.proofs.fresh.bring_all.Goals as goal

pub open_others-requires-clause-room : goal.open_others-requires-clause-room
open_others-requires-clause-room g c = let rest = drop_one c.args.plan.now c.requires.planned in let open_lanes = c.requires.open_lanes in let place = c.requires.place in let parts = c.requires.parts in let few = c.requires.few in omega (arith, rest, open_lanes, place, parts, few)

pub run_rounds-requires-clause-may : goal.run_rounds-requires-clause-may
run_rounds-requires-clause-may g c =
    let D = g.S.D.Disk in
    let N = g.N.Net in
    let W = g.N.W.Wire in
    let view = g.S.Desk.view in
    let m = c.requires.may in
    let pass = c.args.pass.now in
    let lanes = c.args.tools.now.lanes.items in
    let going = c.first_of.result in
    let own : going.pass ≡ pass = ap (λ (x : Going). x.pass) c.first_of.ensures in
    let turn : going.round ≡ 1 = ap (λ (x : Going). x.round) c.first_of.ensures in
    let is = m.is in
    let given = c.in-Ok.ensures.opened (first_asking pass m.tale) (next_shares m.scene m.trace) (closed_before m.scene m.trace) (rest_asked D.tells D.history (λ o. said_of (g.S.O.Origin.says o)) D.far D.faults N.tells W.tells W.purpose W.told W.origin m.scene pass (view c.args.desk.now) (N.closed c.args.net.now) (N.origin_of c.args.net.now) m.trace m.tale c.args.plan.now lanes c.args.at is c.args.source.now m.source_is)
    (share_count D.tells D.history (λ o. said_of (g.S.O.Origin.says o)) D.far D.faults N.tells W.tells W.purpose W.told W.origin m.scene pass (view c.args.desk.now) (N.closed c.args.net.now) (N.origin_of c.args.net.now) m.trace m.tale c.args.plan.now lanes c.args.at is) is.opening in
    let running = first_runs D.tells D.history (λ o. said_of (g.S.O.Origin.says o)) D.far D.faults N.tells W.tells W.purpose W.told W.origin m.scene pass (view c.args.desk.now) (N.closed c.args.net.now) (N.origin_of c.args.net.now) m.trace m.tale c.args.plan.now lanes c.args.at is (N.closed c.open_others.new.net) (N.origin_of c.open_others.new.net) c.open_others.new.lanes.items going own turn c.open_others.ensures.stays given in
    let asks = subst (λ (p : Pass). AsksAll (later_asking (first_asking pass m.tale)) c.args.source.now p) (sym own) (later_asks pass m.tale c.args.source.now m.source_is) in
    record { run = record { scene = m.scene; older = m.trace; first = first_asking pass m.tale; shares = next_shares m.scene m.trace; is = running }; count_is = m.count_is; asks = asks }

pub returns-in-Ok-clause-goes : goal.returns-in-Ok-clause-goes
returns-in-Ok-clause-goes g c scene trace tale first_open source_is count =
    let D = g.S.D.Disk in
    let N = g.N.Net in
    let W = g.N.W.Wire in
    let view = g.S.Desk.view in
    let pass = c.args.pass.now in
    let lanes = c.args.tools.now.lanes.items in
    let going = c.first_of.result in
    let own : going.pass ≡ pass = ap (λ (x : Going). x.pass) c.first_of.ensures in
    let turn : going.round ≡ 1 = ap (λ (x : Going). x.round) c.first_of.ensures in
    let is = first_open in
    let given = c.in-Ok.ensures.opened (first_asking pass tale) (next_shares scene trace) (closed_before scene trace) (rest_asked D.tells D.history (λ o. said_of (g.S.O.Origin.says o)) D.far D.faults N.tells W.tells W.purpose W.told W.origin scene pass (view c.args.desk.now) (N.closed c.args.net.now) (N.origin_of c.args.net.now) trace tale c.args.plan.now lanes c.args.at is c.args.source.now source_is)
    (share_count D.tells D.history (λ o. said_of (g.S.O.Origin.says o)) D.far D.faults N.tells W.tells W.purpose W.told W.origin scene pass (view c.args.desk.now) (N.closed c.args.net.now) (N.origin_of c.args.net.now) trace tale c.args.plan.now lanes c.args.at is) is.opening in
    let running = first_runs D.tells D.history (λ o. said_of (g.S.O.Origin.says o)) D.far D.faults N.tells W.tells W.purpose W.told W.origin scene pass (view c.args.desk.now) (N.closed c.args.net.now) (N.origin_of c.args.net.now) trace tale c.args.plan.now lanes c.args.at is (N.closed c.open_others.new.net) (N.origin_of c.open_others.new.net) c.open_others.new.lanes.items going own turn c.open_others.ensures.stays given in
    let asks = subst (λ (p : Pass). AsksAll (later_asking (first_asking pass tale)) c.args.source.now p) (sym own) (later_asks pass tale c.args.source.now source_is) in
    subst (λ (p : Pass). RunLeaves D.tells D.history (λ o. said_of (g.S.O.Origin.says o)) D.far D.faults N.tells scene p (view c.run_rounds.new.desk) (N.closed c.run_rounds.new.net) (N.faults c.args.net.now) (N.faults c.run_rounds.new.net) trace (first_asking pass tale) c.run_rounds.result) own
    (leaves_longer D.tells D.history (λ o. said_of (g.S.O.Origin.says o)) D.far D.faults N.tells scene going.pass (view c.run_rounds.new.desk) (N.closed c.run_rounds.new.net) (N.faults c.args.net.now) (N.faults c.open_others.new.net) (N.faults c.run_rounds.new.net) trace (first_asking pass tale) c.run_rounds.result
    c.open_others.ensures.later (c.run_rounds.ensures.goes scene trace (first_asking pass tale) (next_shares scene trace) running count asks))

pub returns-in-Err-clause-goes : goal.returns-in-Err-clause-goes
returns-in-Err-clause-goes g c scene trace tale is source_is count =
    let D = g.S.D.Disk in
    let N = g.N.Net in
    let W = g.N.W.Wire in
    let view = g.S.Desk.view in
    let pass = c.args.pass.now in
    let lanes = c.args.tools.now.lanes.items in
    first_lost D.tells D.history (λ o. said_of (g.S.O.Origin.says o)) D.far D.faults N.tells W.tells W.purpose W.told W.origin scene pass (view c.args.desk.now) (N.closed c.args.net.now) (N.origin_of c.args.net.now) trace tale c.args.plan.now lanes c.args.at is c.args.source.now (N.faults c.args.net.now) (N.faults c.open_others.new.net) (N.closed c.open_others.new.net) c.in-Err.stop c.in-Err.ensures.own
    (c.in-Err.ensures.stopped (first_asking pass tale) (next_shares scene trace) (closed_before scene trace) (rest_asked D.tells D.history (λ o. said_of (g.S.O.Origin.says o)) D.far D.faults N.tells W.tells W.purpose W.told W.origin scene pass (view c.args.desk.now) (N.closed c.args.net.now) (N.origin_of c.args.net.now) trace tale c.args.plan.now lanes c.args.at is c.args.source.now source_is) is.opening)
