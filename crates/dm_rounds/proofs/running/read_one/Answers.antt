use Rattle.dm_store.specs.Origin.{said_of}
use Rattle.dm_rounds.specs.Trail.{asking_behind}
use Rattle.dm_rounds.proofs.Trails.{told_some, read_live, read_trace, reads_one, round_stopped}
use Rattle.dm_rounds.proofs.running.read_one.Goals as goal

pub run_round-requires-clause-may : goal.run_round-requires-clause-may
run_round-requires-clause-may g c = let may = c.requires.may in record { scene = may.scene; older = may.older; asking = asking_behind may.first may.older.rounds; cover = _; shares = may.shares; is = may.is.reading }

pub returns-in-Ok-clause-goes : goal.returns-in-Ok-clause-goes
returns-in-Ok-clause-goes g c scene older first shares running =
    let D = g.S.D.Disk in
    let N = g.N.Net in
    let view = g.S.Desk.view in
    let going = c.args.going.now in
    let goes = c.in-Ok.ensures.goes scene older (asking_behind first older.rounds) _ shares running.reading in
    let desk = view c.run_round.new.desk in
    let closed = N.closed c.run_round.new.net in
    let trace = read_trace D.tells D.history (λ o. said_of (g.S.O.Origin.says o)) D.far D.faults N.tells scene going older first shares running.none_lost running.rounds running.served running.reading.has.turn_is desk closed goes in
    let live = read_live D.tells D.history (λ o. said_of (g.S.O.Origin.says o)) D.far D.faults N.tells scene going older first shares running.none_lost running.rounds running.served running.reading.has.turn_is desk closed goes in
    reads_one D.tells D.history (λ o. said_of (g.S.O.Origin.says o)) D.far D.faults N.tells scene going older first shares running.none_lost running.rounds running.served running.reading.has.turn_is desk closed goes (N.faults c.args.net.now) (N.faults c.run_round.new.net)
    (view c.finish.new.desk) c.finish.result (c.finish.ensures.goes scene trace live (told_some going.pass (asking_behind first older.rounds) _ running.reading.has.keyed) running.at_is)

pub returns-in-Err-clause-goes : goal.returns-in-Err-clause-goes
returns-in-Err-clause-goes g c scene older first shares running =
    let D = g.S.D.Disk in
    let N = g.N.Net in
    let view = g.S.Desk.view in
    round_stopped D.tells D.history (λ o. said_of (g.S.O.Origin.says o)) D.far D.faults N.tells scene c.args.going.now older first shares running.none_lost running.rounds running.served running.reading.has.turn_is (N.faults c.args.net.now) (N.faults c.run_round.new.net)
    (view c.run_round.new.desk) (N.closed c.run_round.new.net) c.in-Err.stop c.in-Err.ensures.counted (c.in-Err.ensures.goes scene older (asking_behind first older.rounds) _ shares running.reading)
