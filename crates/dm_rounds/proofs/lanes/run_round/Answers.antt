use Rattle.dm_store.specs.Origin.{said_of}
use Rattle.dm_rounds.proofs.Causes.{net_counts}
use Rattle.dm_rounds.proofs.Readings.{round_goes, round_stops}
use Rattle.dm_rounds.proofs.lanes.run_round.Goals as goal

pub returns-in-Ok-clause-goes : goal.returns-in-Ok-clause-goes
returns-in-Ok-clause-goes g c scene older asking cover shares reading =
    let D = g.S.D.Disk in
    let N = g.N.Net in
    let W = g.N.W.Wire in
    round_goes D.tells D.history (λ o. said_of (g.S.O.Origin.says o)) D.far D.faults N.tells W.tells g.met.N.Net.wires_tell W.purpose W.told W.origin scene c.args.going.now (g.S.Desk.view c.read_lanes.new.desk) (N.closed c.read_lanes.new.net) older asking cover shares
    c.read_lanes.new.lanes.items c.in-Ok.ensures.none (c.in-Ok.ensures.goes scene older asking cover shares reading)

pub returns-in-Err-clause-goes : goal.returns-in-Err-clause-goes
returns-in-Err-clause-goes g c scene older asking cover shares reading =
    let D = g.S.D.Disk in
    let N = g.N.Net in
    let W = g.N.W.Wire in
    round_stops D.tells D.history (λ o. said_of (g.S.O.Origin.says o)) D.far D.faults N.tells W.tells g.met.N.Net.wires_tell W.purpose W.told W.origin scene c.args.going.now (g.S.Desk.view c.read_lanes.new.desk) (N.closed c.read_lanes.new.net) (N.closed c.close_all.new.net)
    older asking cover shares c.read_lanes.new.lanes.items c.in-Err.stop c.close_all.ensures.closed (c.in-Err.ensures.goes scene older asking cover shares reading)

pub returns-in-Err-clause-counted : goal.returns-in-Err-clause-counted
returns-in-Err-clause-counted g c =
    let N = g.N.Net in
    let W = g.N.W.Wire in
    net_counts W.faults c.read_lanes.new.lanes.items (N.faults c.args.net.now) (N.faults c.read_lanes.new.net) (N.faults c.close_all.new.net) c.in-Err.stop c.in-Err.ensures.own c.in-Err.ensures.shown c.close_all.ensures.counted c.read_lanes.ensures.later
