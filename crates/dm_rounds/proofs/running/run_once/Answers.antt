use Rattle.std.proofs.Common.{◌∙◌, ◌+◌, inr, Bool, Ok, refl, subst, arith}
use Rattle.dm_store.specs.Origin.{said_of}
use Rattle.dm_rounds.specs.Rounding.{next_shares}
use Rattle.dm_rounds.specs.Running.{ReadsOne, later_asking}
use Rattle.dm_rounds.proofs.Onward.{keyed_next, next_runs, opening_stops}
use Rattle.dm_rounds.proofs.Trails.{told_some}
use Rattle.dm_rounds.proofs.running.run_once.Goals as goal

pub returns-in-Ok-true-clause-goes : goal.returns-in-Ok-true-clause-goes
returns-in-Ok-true-clause-goes g c scene older first shares running count asks =
    let D = g.S.D.Disk in
    let N = g.N.Net in
    let W = g.N.W.Wire in
    let view = g.S.Desk.view in
    subst (λ (b : Bool). ReadsOne D.tells D.history (λ o. said_of (g.S.O.Origin.says o)) D.far D.faults N.tells scene c.args.going.now (view c.read_one.new.desk) (N.closed c.read_one.new.net) (N.faults c.args.net.now) (N.faults c.read_one.new.net) older first (Ok b))
    c.in-Ok-true.field-0-test (c.in-Ok-true.ensures.goes scene older first shares running)

pub returns-in-Ok-clause-goes : goal.returns-in-Ok-clause-goes
returns-in-Ok-clause-goes g c scene older first shares running count asks =
    let D = g.S.D.Disk in
    let N = g.N.Net in
    let W = g.N.W.Wire in
    let view = g.S.Desk.view in
    let going = c.args.going.now in
    let short = subst (λ (b : Bool). ReadsOne D.tells D.history (λ o. said_of (g.S.O.Origin.says o)) D.far D.faults N.tells scene going (view c.read_one.new.desk) (N.closed c.read_one.new.net) (N.faults c.args.net.now) (N.faults c.read_one.new.net) older first (Ok b))
    c.in-Ok-false.field-0-test (c.in-Ok-false.ensures.goes scene older first shares running) in
    let keyed = keyed_next scene going.pass first older short.trace short.from running.reading.has.keyed in
    let opens = c.in-Ok.ensures.goes scene short.trace (later_asking first) short.live (told_some going.pass (later_asking first) _ keyed) (short.from.count_is ∙ count) asks keyed short.closed_is (c.read_one.ensures.stays ∙ running.there_is) in (
      record {
        trace = short.trace;
        from = short.from;
        shares = next_shares scene short.trace;
        is = next_runs D.tells D.history (λ o. said_of (g.S.O.Origin.says o)) D.far D.faults N.tells scene going older first (later_asking first) short.trace short.from short.asking_is short.rounds (short.from.lost_is ∙ running.none_lost) (inr short.served) W.tells W.purpose W.told W.origin
            (view c.open_round.new.desk) (N.closed c.open_round.new.net) (N.origin_of c.open_round.new.net) c.open_round.new.lanes.items c.args.at (record going { round = going.round + 1 }) refl (let t = short.turn_is in omega (arith, t)) opens
            (c.open_round.ensures.stays ∙ c.read_one.ensures.stays ∙ running.there_is) running.at_is;
      },
      opens.more,
    )

pub returns-in-Err-open_round-clause-goes : goal.returns-in-Err-open_round-clause-goes
returns-in-Err-open_round-clause-goes g c scene older first shares running count asks =
    let D = g.S.D.Disk in
    let N = g.N.Net in
    let W = g.N.W.Wire in
    let view = g.S.Desk.view in
    let going = c.args.going.now in
    let short = subst (λ (b : Bool). ReadsOne D.tells D.history (λ o. said_of (g.S.O.Origin.says o)) D.far D.faults N.tells scene going (view c.read_one.new.desk) (N.closed c.read_one.new.net) (N.faults c.args.net.now) (N.faults c.read_one.new.net) older first (Ok b))
    c.in-Ok-false.field-0-test (c.in-Ok-false.ensures.goes scene older first shares running) in
    let keyed = keyed_next scene going.pass first older short.trace short.from running.reading.has.keyed in
    opening_stops D.tells D.history (λ o. said_of (g.S.O.Origin.says o)) D.far D.faults N.tells scene going older first (later_asking first) short.trace short.from short.asking_is short.rounds (short.from.lost_is ∙ running.none_lost) (inr short.served)
    (N.faults c.args.net.now) (N.faults c.open_round.new.net) (view c.open_round.new.desk) (N.closed c.open_round.new.net) c.in-Err-open_round.stop short.served c.args.source.now (N.faults c.read_one.new.net) c.read_one.ensures.later
    (λ cause why. record { cause_is = why.0; last = why.1; place = short.place; missing = short.missing })
    (c.in-Err-open_round.ensures.goes scene short.trace (later_asking first) short.live (told_some going.pass (later_asking first) _ keyed) (short.from.count_is ∙ count) asks keyed short.closed_is (c.read_one.ensures.stays ∙ running.there_is))

pub returns-in-Err-clause-goes : goal.returns-in-Err-clause-goes
returns-in-Err-clause-goes g c scene older first shares running count asks = c.in-Err.ensures.goes scene older first shares running
