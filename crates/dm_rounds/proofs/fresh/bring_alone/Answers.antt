use Rattle.std.proofs.Common.{◌≡◌, refl, ap, subst}
use Rattle.dm_store.specs.Origin.{said_of}
use Rattle.dm_store.specs.declared.pass.Pass.{Pass}
use Rattle.dm_attempt.specs.declared.stop.Going.{Going}
use Rattle.dm_rounds.specs.First.{first_asking}
use Rattle.dm_rounds.specs.Rounding.{next_shares}
use Rattle.dm_rounds.specs.Trail.{RunEnds, RunStops}
use Rattle.dm_rounds.proofs.Bringing.{first_runs, none_short, one_opened, reads_all}
use Rattle.dm_rounds.proofs.fresh.bring_alone.Goals as goal

pub read_one-requires-clause-may : goal.read_one-requires-clause-may
read_one-requires-clause-may g c =
    let D = g.S.D.Disk in
    let N = g.N.Net in
    let W = g.N.W.Wire in
    let view = g.S.Desk.view in
    let passes = c.requires.may.0 in
    let one = c.requires.may.1 in
    let m = c.requires.may.2 in
    let pass = c.args.pass.now in
    let going = c.first_of.result in
    let own : going.pass ≡ pass = ap (λ (x : Going). x.pass) c.first_of.ensures in
    let turn : going.round ≡ 1 = ap (λ (x : Going). x.round) c.first_of.ensures in
    record {
      scene = m.scene;
      older = m.trace;
      first = first_asking pass m.tale;
      shares = next_shares m.scene m.trace;
      is = first_runs D.tells D.history (λ o. said_of (g.S.O.Origin.says o)) D.far D.faults N.tells W.tells W.purpose W.told W.origin m.scene pass (view c.args.desk.now) (N.closed c.args.net.now) (N.origin_of c.args.net.now) m.trace m.tale passes c.args.tools.now.lanes.items c.args.at m.is (N.closed c.args.net.now) (N.origin_of c.args.net.now)
          c.args.tools.now.lanes.items going own turn refl (one_opened D.tells D.history (λ o. said_of (g.S.O.Origin.says o)) D.far D.faults N.tells W.tells W.purpose W.told W.origin m.scene pass (view c.args.desk.now) (N.closed c.args.net.now) (N.origin_of c.args.net.now) m.trace m.tale passes c.args.tools.now.lanes.items c.args.at m.is one);
    }

pub returns-in-Ok-clause-goes : goal.returns-in-Ok-clause-goes
returns-in-Ok-clause-goes g c scene trace tale passes is one count bare =
    let D = g.S.D.Disk in
    let N = g.N.Net in
    let W = g.N.W.Wire in
    let view = g.S.Desk.view in
    let pass = c.args.pass.now in
    let going = c.first_of.result in
    let own : going.pass ≡ pass = ap (λ (x : Going). x.pass) c.first_of.ensures in
    let turn : going.round ≡ 1 = ap (λ (x : Going). x.round) c.first_of.ensures in
    let lanes = c.args.tools.now.lanes.items in
    let opened = one_opened D.tells D.history (λ o. said_of (g.S.O.Origin.says o)) D.far D.faults N.tells W.tells W.purpose W.told W.origin scene pass (view c.args.desk.now) (N.closed c.args.net.now) (N.origin_of c.args.net.now) trace tale passes lanes c.args.at is one in
    let running = first_runs D.tells D.history (λ o. said_of (g.S.O.Origin.says o)) D.far D.faults N.tells W.tells W.purpose W.told W.origin scene pass (view c.args.desk.now) (N.closed c.args.net.now) (N.origin_of c.args.net.now) trace tale passes lanes c.args.at is (N.closed c.args.net.now) (N.origin_of c.args.net.now) lanes going own turn refl opened in
    subst (λ (p : Pass). RunEnds D.tells D.history (λ o. said_of (g.S.O.Origin.says o)) D.far D.faults N.tells scene p (view c.read_one.new.desk) (N.closed c.read_one.new.net) trace (first_asking pass tale)) own
    (reads_all D.tells D.history (λ o. said_of (g.S.O.Origin.says o)) D.far D.faults N.tells scene going (view c.read_one.new.desk) (N.closed c.read_one.new.net) (N.faults c.args.net.now) (N.faults c.read_one.new.net) trace (first_asking pass tale) c.in-Ok.field-0
    (none_short D.tells D.history (λ o. said_of (g.S.O.Origin.says o)) D.far D.faults N.tells W.tells W.purpose W.told W.origin scene pass (view c.args.desk.now) (N.closed c.args.net.now) (N.origin_of c.args.net.now) trace tale passes lanes c.args.at is count bare going turn (view c.read_one.new.desk) (N.closed c.read_one.new.net))
    (c.in-Ok.ensures.goes scene trace (first_asking pass tale) (next_shares scene trace) running))

pub returns-in-Err-clause-goes : goal.returns-in-Err-clause-goes
returns-in-Err-clause-goes g c scene trace tale passes is one count bare =
    let D = g.S.D.Disk in
    let N = g.N.Net in
    let W = g.N.W.Wire in
    let view = g.S.Desk.view in
    let pass = c.args.pass.now in
    let going = c.first_of.result in
    let own : going.pass ≡ pass = ap (λ (x : Going). x.pass) c.first_of.ensures in
    let turn : going.round ≡ 1 = ap (λ (x : Going). x.round) c.first_of.ensures in
    let lanes = c.args.tools.now.lanes.items in
    let opened = one_opened D.tells D.history (λ o. said_of (g.S.O.Origin.says o)) D.far D.faults N.tells W.tells W.purpose W.told W.origin scene pass (view c.args.desk.now) (N.closed c.args.net.now) (N.origin_of c.args.net.now) trace tale passes lanes c.args.at is one in
    let running = first_runs D.tells D.history (λ o. said_of (g.S.O.Origin.says o)) D.far D.faults N.tells W.tells W.purpose W.told W.origin scene pass (view c.args.desk.now) (N.closed c.args.net.now) (N.origin_of c.args.net.now) trace tale passes lanes c.args.at is (N.closed c.args.net.now) (N.origin_of c.args.net.now) lanes going own turn refl opened in
    subst (λ (p : Pass). RunStops D.tells D.history (λ o. said_of (g.S.O.Origin.says o)) D.far D.faults N.tells scene p (view c.read_one.new.desk) (N.closed c.read_one.new.net) (N.faults c.args.net.now) (N.faults c.read_one.new.net) trace (first_asking pass tale) c.in-Err.stop) own
    (c.in-Err.ensures.goes scene trace (first_asking pass tale) (next_shares scene trace) running)
