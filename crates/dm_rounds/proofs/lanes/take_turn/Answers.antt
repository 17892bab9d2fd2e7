use Rattle.std.proofs.Common.{◌<◌, sym, subst, List, arith, length, Ok}
use Rattle.std.proofs.lemmas.List.{length-set, get_or-set_same}
use Rattle.dm_store.specs.Origin.{said_of}
use Rattle.dm_rounds.specs.declared.lane.Lane.{Lane}
use Rattle.dm_rounds.specs.Lanes.{left_of}
use Rattle.dm_rounds.specs.Reading.{ReadLeaves}
use Rattle.dm_rounds.proofs.Readings.{may_turn, turn_at, turned_more, turned_stop, turned_whole}
use Rattle.dm_rounds.proofs.Rounds.{smaller_rest, smaller_set}
use Rattle.dm_rounds.proofs.lanes.take_turn.Goals as goal

pub turn_of-requires-clause-may : goal.turn_of-requires-clause-may
turn_of-requires-clause-may g c =
    let D = g.S.D.Disk in
    let N = g.N.Net in
    let W = g.N.W.Wire in
    let view = g.S.Desk.view in
    let lanes = c.args.lanes.now.items in
    let within : c.args.k < length lanes = omega (arith, c.requires.within, c.args.lanes.now.ok) in
    let may = c.requires.may in
    may_turn D.tells D.history (λ o. said_of (g.S.O.Origin.says o)) D.far D.faults N.tells W.tells g.met.N.Net.wires_tell W.purpose W.told W.origin may.scene c.args.going.now may.older may.asking may.cover may.shares lanes c.args.k c.index_mut.result.now within c.index_mut.ensures.value (view c.args.desk.now) (N.closed c.args.net.now) may.is

pub returns-in-Ok-More-clause-goes : goal.returns-in-Ok-More-clause-goes
returns-in-Ok-More-clause-goes g c scene older asking cover shares reading =
    let D = g.S.D.Disk in
    let N = g.N.Net in
    let W = g.N.W.Wire in
    let view = g.S.Desk.view in
    let lanes = c.args.lanes.now.items in
    let within : c.args.k < length lanes = omega (arith, c.requires.within, c.args.lanes.now.ok) in
    turned_more D.tells D.history (λ o. said_of (g.S.O.Origin.says o)) D.far D.faults N.tells W.tells g.met.N.Net.wires_tell W.purpose W.told W.origin scene c.args.going.now older asking cover shares lanes c.args.k c.index_mut.result.now within c.index_mut.ensures.value (view c.args.desk.now) (N.closed c.args.net.now) reading
    c.turn_of.new.lane c.turn_of.ensures.part c.turn_of.ensures.bounded c.turn_of.ensures.wanted c.turn_of.ensures.stays c.turn_of.ensures.origin c.turn_of.ensures.sent c.turn_of.ensures.given (view c.turn_of.new.desk)
    (rw c.in-Ok-More.field-0-is at (c.in-Ok-More.ensures.goes scene older asking cover shares reading.has
    (turn_at D.tells D.history (λ o. said_of (g.S.O.Origin.says o)) D.far D.faults N.tells W.tells g.met.N.Net.wires_tell W.purpose W.told W.origin scene c.args.going.now older asking cover shares lanes c.args.k c.index_mut.result.now within c.index_mut.ensures.value (view c.args.desk.now) (N.closed c.args.net.now) reading)))

pub returns-in-Ok-More-clause-smaller : goal.returns-in-Ok-More-clause-smaller
returns-in-Ok-More-clause-smaller g c =
    let D = g.S.D.Disk in
    let N = g.N.Net in
    let W = g.N.W.Wire in
    let view = g.S.Desk.view in
    let lanes = c.args.lanes.now.items in
    let within : c.args.k < length lanes = omega (arith, c.requires.within, c.args.lanes.now.ok) in
    let moves = rw c.in-Ok-More.field-0-is at c.in-Ok-More.ensures.moves in
    smaller_set lanes c.args.k c.index_mut.result.now c.turn_of.new.lane within c.index_mut.ensures.value c.turn_of.ensures.part moves.0 moves.1

pub returns-in-Ok-Whole-clause-goes : goal.returns-in-Ok-Whole-clause-goes
returns-in-Ok-Whole-clause-goes g c scene older asking cover shares reading =
    let D = g.S.D.Disk in
    let N = g.N.Net in
    let W = g.N.W.Wire in
    let view = g.S.Desk.view in
    let lanes = c.args.lanes.now.items in
    let within : c.args.k < length lanes = omega (arith, c.requires.within, c.args.lanes.now.ok) in
    let lane = c.turn_of.new.lane in
    subst (λ (l : List (Lane g.row.N-W.Denot)). ReadLeaves D.tells D.history (λ o. said_of (g.S.O.Origin.says o)) D.far D.faults N.tells W.tells W.purpose W.told W.origin scene c.args.going.now (view c.turn_of.new.desk) (N.closed c.close_lane.new.net) older asking cover shares l (Ok tt))
    (sym c.close_lane.ensures.items)
    (turned_whole D.tells D.history (λ o. said_of (g.S.O.Origin.says o)) D.far D.faults N.tells W.tells g.met.N.Net.wires_tell W.purpose W.told W.origin scene c.args.going.now older asking cover shares lanes c.args.k c.index_mut.result.now within c.index_mut.ensures.value (view c.args.desk.now) (N.closed c.args.net.now) reading
    lane c.turn_of.ensures.part c.turn_of.ensures.bounded c.turn_of.ensures.wanted c.turn_of.ensures.stays c.turn_of.ensures.origin c.turn_of.ensures.sent c.turn_of.ensures.given (view c.turn_of.new.desk) (N.closed c.close_lane.new.net)
    (λ t. c.close_lane.ensures.closed t lane (sym (get_or-set_same lanes c.args.k lane lane within)))
    (rw c.in-Ok-Whole.field-0-is at (c.in-Ok-Whole.ensures.goes scene older asking cover shares reading.has
    (turn_at D.tells D.history (λ o. said_of (g.S.O.Origin.says o)) D.far D.faults N.tells W.tells g.met.N.Net.wires_tell W.purpose W.told W.origin scene c.args.going.now older asking cover shares lanes c.args.k c.index_mut.result.now within c.index_mut.ensures.value (view c.args.desk.now) (N.closed c.args.net.now) reading))))

pub returns-in-Ok-Whole-clause-smaller : goal.returns-in-Ok-Whole-clause-smaller
returns-in-Ok-Whole-clause-smaller g c =
    let D = g.S.D.Disk in
    let N = g.N.Net in
    let W = g.N.W.Wire in
    let view = g.S.Desk.view in
    let lanes = c.args.lanes.now.items in
    let within : c.args.k < length lanes = omega (arith, c.requires.within, c.args.lanes.now.ok) in
    subst (λ (l : List (Lane g.row.N-W.Denot)). left_of l < left_of lanes) (sym c.close_lane.ensures.items)
    (smaller_rest lanes c.args.k c.index_mut.result.now c.turn_of.new.lane within c.index_mut.ensures.value c.turn_of.ensures.part)

pub returns-in-Err-clause-goes : goal.returns-in-Err-clause-goes
returns-in-Err-clause-goes g c scene older asking cover shares reading =
    let D = g.S.D.Disk in
    let N = g.N.Net in
    let W = g.N.W.Wire in
    let view = g.S.Desk.view in
    let lanes = c.args.lanes.now.items in
    let within : c.args.k < length lanes = omega (arith, c.requires.within, c.args.lanes.now.ok) in
    turned_stop D.tells D.history (λ o. said_of (g.S.O.Origin.says o)) D.far D.faults N.tells W.tells g.met.N.Net.wires_tell W.purpose W.told W.origin scene c.args.going.now older asking cover shares lanes c.args.k c.index_mut.result.now within c.index_mut.ensures.value (view c.args.desk.now) (N.closed c.args.net.now) reading
    c.turn_of.new.lane c.turn_of.ensures.part c.turn_of.ensures.bounded c.turn_of.ensures.wanted c.turn_of.ensures.stays c.turn_of.ensures.origin c.turn_of.ensures.sent c.turn_of.ensures.given (view c.turn_of.new.desk) c.in-Err.stop
    (c.in-Err.ensures.goes scene older asking cover shares reading.has
    (turn_at D.tells D.history (λ o. said_of (g.S.O.Origin.says o)) D.far D.faults N.tells W.tells g.met.N.Net.wires_tell W.purpose W.told W.origin scene c.args.going.now older asking cover shares lanes c.args.k c.index_mut.result.now within c.index_mut.ensures.value (view c.args.desk.now) (N.closed c.args.net.now) reading))

pub returns-in-Err-clause-shown : goal.returns-in-Err-clause-shown
returns-in-Err-clause-shown g c =
    let D = g.S.D.Disk in
    let N = g.N.Net in
    let W = g.N.W.Wire in
    let view = g.S.Desk.view in
    let lanes = c.args.lanes.now.items in
    let within : c.args.k < length lanes = omega (arith, c.requires.within, c.args.lanes.now.ok) in
    let lane = c.turn_of.new.lane in
    record { lane = lane; among = (c.args.k, omega (arith, within, length-set lanes c.args.k lane), get_or-set_same lanes c.args.k lane lane within); shown = c.in-Err.ensures.shown }
