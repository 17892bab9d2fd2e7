use Rattle.std.proofs.Common.{◌≤◌, length, sym, subst, take, arith, Err}
use Rattle.std.proofs.lemmas.List.{length-take-le}
use Rattle.dm_store.specs.Origin.{said_of}
use Rattle.dm_attempt.specs.declared.stop.Stop.{Stop}
use Rattle.dm_rounds.specs.Reading.{TurnLeaves, live_round}
use Rattle.dm_rounds.proofs.Causes.{desk_own, desk_shown}
use Rattle.dm_rounds.proofs.Turns.{piece_next}
use Rattle.dm_rounds.proofs.Going.{says_next, turn_broke, turn_ended, turn_landed, turn_refused}
use Rattle.dm_rounds.proofs.lane.turn_of.Goals as goal

pub next_piece-requires-clause-within : goal.next_piece-requires-clause-within
next_piece-requires-clause-within g c = c.requires.may.turn.ready.within

pub next_piece-requires-clause-on : goal.next_piece-requires-clause-on
next_piece-requires-clause-on g c = c.requires.may.turn.ready.on

pub next_piece-requires-clause-at : goal.next_piece-requires-clause-at
next_piece-requires-clause-at g c = let ready = c.requires.may.turn.ready in omega (arith, ready.at, ready.given)

pub next_piece-requires-clause-unbroken : goal.next_piece-requires-clause-unbroken
next_piece-requires-clause-unbroken g c = c.requires.may.turn.ready.unbroken

pub land_piece-requires-clause-some : goal.land_piece-requires-clause-some
land_piece-requires-clause-some g c =
    let moves = rw c.in-Ok-Bytes.field-0-is at c.in-Ok-Bytes.ensures.moves in
    let within : c.in-Ok-Bytes.count ≤ length c.next_piece.new.buffer = omega (arith, moves.1, c.next_piece.auto.buffer) in
    omega (arith, moves.0, length-take-le c.in-Ok-Bytes.count c.next_piece.new.buffer within)

pub land_piece-requires-clause-few : goal.land_piece-requires-clause-few
land_piece-requires-clause-few g c =
    let moves = rw c.in-Ok-Bytes.field-0-is at c.in-Ok-Bytes.ensures.moves in
    let within : c.in-Ok-Bytes.count ≤ length c.next_piece.new.buffer = omega (arith, moves.1, c.next_piece.auto.buffer) in
    omega (arith, moves.1, c.requires.few, length-take-le c.in-Ok-Bytes.count c.next_piece.new.buffer within)

pub land_piece-requires-clause-said : goal.land_piece-requires-clause-said
land_piece-requires-clause-said g c =
    let D = g.S.D.Disk in
    let W = g.W.Wire in
    let may = c.requires.may in
    says_next D.tells D.history (λ o. said_of (g.S.O.Origin.says o)) D.far D.faults W.tells W.purpose W.told W.origin g.S.O.Origin.says may.scene c.args.going.now (g.S.Desk.view c.args.desk.now) may.older may.asking may.cover may.shares
    c.args.lane.now c.next_piece.new.lane (take c.in-Ok-Bytes.count c.next_piece.new.buffer) may.round may.turn c.next_piece.ensures.part c.next_piece.ensures.wanted c.next_piece.ensures.stays c.next_piece.ensures.origin c.next_piece.ensures.sent
    (g.met.W.Wire.honest c.next_piece.new.lane.wire)
    (λ t. rw c.in-Ok-Bytes.field-0-is at (c.in-Ok-Bytes.ensures.says t may.asking.key may.turn.ready.left.share.bytes (may.turn.ready.reads t)))

pub turn_at-requires : goal.turn_at-requires
turn_at-requires g c =
    let moves = rw c.in-Ok-Bytes.field-0-is at c.in-Ok-Bytes.ensures.moves in
    record { within = moves.3 }

pub returns-in-Ok-clause-goes : goal.returns-in-Ok-clause-goes
returns-in-Ok-clause-goes g c scene older asking cover shares has turn =
    let D = g.S.D.Disk in
    let W = g.W.Wire in
    let old = c.args.lane.now in
    let new = c.next_piece.new.lane in
    let buffer = c.next_piece.new.buffer in
    let n = c.in-Ok-Bytes.count in
    let moves = rw c.in-Ok-Bytes.field-0-is at c.in-Ok-Bytes.ensures.moves in
    let within : n ≤ length buffer = omega (arith, moves.1, c.next_piece.auto.buffer) in
    turn_landed D.tells D.history (λ o. said_of (g.S.O.Origin.says o)) D.far D.faults W.tells W.purpose W.told W.origin scene c.args.going.now (g.S.Desk.view c.land_piece.new.desk) older asking cover shares old new turn
    c.next_piece.ensures.part c.next_piece.ensures.wanted c.next_piece.ensures.stays n _ buffer moves within c.next_piece.ensures.limit c.next_piece.ensures.counted c.next_piece.ensures.bounded
    (λ t bytes given. rw c.in-Ok-Bytes.field-0-is at (c.in-Ok-Bytes.ensures.says t asking.key bytes given))
    (c.in-Ok.ensures.goes scene older (live_round asking cover shares) has.live
    (piece_next W.tells W.purpose W.told asking.key shares old new turn.ready c.next_piece.ensures.part c.next_piece.ensures.wanted c.next_piece.ensures.stays n _ buffer moves within) has.turn_is)
    c.turn_at.result c.turn_at.ensures

pub returns-in-Err-land_piece-clause-goes : goal.returns-in-Err-land_piece-clause-goes
returns-in-Err-land_piece-clause-goes g c scene older asking cover shares has turn =
    let D = g.S.D.Disk in
    let W = g.W.Wire in
    let old = c.args.lane.now in
    let new = c.next_piece.new.lane in
    let buffer = c.next_piece.new.buffer in
    let n = c.in-Ok-Bytes.count in
    let moves = rw c.in-Ok-Bytes.field-0-is at c.in-Ok-Bytes.ensures.moves in
    let within : n ≤ length buffer = omega (arith, moves.1, c.next_piece.auto.buffer) in
    turn_refused D.tells D.history (λ o. said_of (g.S.O.Origin.says o)) D.far D.faults W.tells W.purpose W.told W.origin scene c.args.going.now (g.S.Desk.view c.land_piece.new.desk) older asking cover shares old new turn
    c.next_piece.ensures.part c.next_piece.ensures.wanted c.next_piece.ensures.stays n buffer
    (λ t bytes given. rw c.in-Ok-Bytes.field-0-is at (c.in-Ok-Bytes.ensures.says t asking.key bytes given))
    new.part.index (take n buffer) c.in-Err-land_piece.stop
    (c.in-Err-land_piece.ensures.goes scene older (live_round asking cover shares) has.live
    (piece_next W.tells W.purpose W.told asking.key shares old new turn.ready c.next_piece.ensures.part c.next_piece.ensures.wanted c.next_piece.ensures.stays n _ buffer moves within) has.turn_is)

pub returns-in-Ok-End-clause-goes : goal.returns-in-Ok-End-clause-goes
returns-in-Ok-End-clause-goes g c scene older asking cover shares has turn =
    let D = g.S.D.Disk in
    let W = g.W.Wire in
    turn_ended D.tells D.history (λ o. said_of (g.S.O.Origin.says o)) D.far D.faults W.tells W.purpose W.told W.origin scene c.args.going.now (g.S.Desk.view c.args.desk.now) older asking cover shares c.args.lane.now c.next_piece.new.lane turn
    c.next_piece.ensures.part c.next_piece.ensures.wanted c.next_piece.ensures.stays has.live (rw c.in-Ok-End.field-0-is at c.in-Ok-End.ensures.all) c.next_piece.ensures.counted c.next_piece.ensures.bounded c.next_piece.new.buffer
    (λ t bytes given. rw c.in-Ok-End.field-0-is at (c.in-Ok-End.ensures.says t asking.key bytes given))

pub returns-in-Err-clause-goes : goal.returns-in-Err-clause-goes
returns-in-Err-clause-goes g c scene older asking cover shares has turn =
    let D = g.S.D.Disk in
    let W = g.W.Wire in
    subst (λ (s : Stop). TurnLeaves D.tells D.history (λ o. said_of (g.S.O.Origin.says o)) D.far D.faults W.tells W.purpose W.told scene c.args.going.now (g.S.Desk.view c.args.desk.now) older asking cover shares c.next_piece.new.lane (Err s)) (sym c.stop_of.ensures.is)
    (turn_broke D.tells D.history (λ o. said_of (g.S.O.Origin.says o)) D.far D.faults W.tells W.purpose W.told W.origin scene c.args.going.now (g.S.Desk.view c.args.desk.now) older asking cover shares c.args.lane.now c.next_piece.new.lane turn
    c.next_piece.ensures.part c.next_piece.ensures.wanted c.next_piece.ensures.stays has.live c.in-Err.broke c.next_piece.new.buffer (λ t bytes given. c.in-Err.ensures.says t asking.key bytes given))

pub returns-in-Err-land_piece-clause-shown : goal.returns-in-Err-land_piece-clause-shown
returns-in-Err-land_piece-clause-shown g c = desk_shown g.W.Wire.faults c.next_piece.new.lane c.in-Err-land_piece.stop c.in-Err-land_piece.ensures.apart

pub returns-in-Err-land_piece-clause-own : goal.returns-in-Err-land_piece-clause-own
returns-in-Err-land_piece-clause-own g c = desk_own c.in-Err-land_piece.stop c.in-Err-land_piece.ensures.apart
