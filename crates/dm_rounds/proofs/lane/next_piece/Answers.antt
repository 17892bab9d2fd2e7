use Rattle.std.proofs.Common.{List, ℕ, ◌≤◌, ◌++◌, length, drop, sym, subst, arith}
use Rattle.std.proofs.lemmas.List.{length-take-le, take-append-le}
use Rattle.dm_reply.specs.Content.{HasRead}
use Rattle.dm_rounds.proofs.Causes.{cause_shown}
use Rattle.dm_rounds.proofs.Turns.{count_same, most_same, piece_fits}
use Rattle.dm_rounds.proofs.lane.next_piece.Goals as goal

pub moved-lane-requires : goal.moved-lane-requires
moved-lane-requires g c =
    let keeps = rw c.in-Ok-Bytes.field-0-is at c.in-Ok-Bytes.ensures.keeps in
    record { fits = piece_fits c.args.lane.now c.room_of-room.result c.in-Ok-Bytes.count c.requires.on c.requires.at c.room_of-room.ensures.fits (omega (arith, keeps.1, length-take-le c.room_of-room.result c.args.buffer.now c.room_of-room.ensures.most)) keeps.2 }

pub returns-in-Ok-Bytes-clause-says : goal.returns-in-Ok-Bytes-clause-says
returns-in-Ok-Bytes-clause-says g c tells key bytes given =
    let n = c.in-Ok-Bytes.count in
    let new = c.content.new in
    let keeps = rw c.in-Ok-Bytes.field-0-is at c.in-Ok-Bytes.ensures.keeps in
    let within : n ≤ length new.buf = omega (arith, keeps.1, c.content.auto.buf) in
    record {
      head = given.head;
      has = subst (λ (piece : List ℕ). HasRead c.args.lane.now.reader.wanted given.head (g.W.Wire.told new.wire).given new.self (bytes ++ piece))
          (sym (take-append-le n new.buf (drop c.room_of-room.result c.args.buffer.now) within))
          (rw c.in-Ok-Bytes.field-0-is at (c.in-Ok-Bytes.ensures.says tells c.args.lane.now.reader.wanted given.head bytes given.has));
      tag = given.tag;
      tag_is = given.tag_is;
      key_is = given.key_is;
    }

pub returns-in-Ok-End-clause-says : goal.returns-in-Ok-End-clause-says
returns-in-Ok-End-clause-says g c tells key bytes given =
    let says = rw c.in-Ok-End.field-0-is at (c.in-Ok-End.ensures.says tells c.args.lane.now.reader.wanted given.head bytes given.has) in
    (record { head = given.head; all = says.0 }, record { head = given.head; has = says.1; tag = given.tag; tag_is = given.tag_is; key_is = given.key_is })

pub returns-in-Err-clause-says : goal.returns-in-Err-clause-says
returns-in-Err-clause-says g c tells key bytes given = (c.in-Err.ensures.says tells c.args.lane.now.reader.wanted given.head bytes given.has).0

pub returns-in-Err-clause-shown : goal.returns-in-Err-clause-shown
returns-in-Err-clause-shown g c =
    cause_shown g.W.Wire.faults (record c.args.lane.now { wire = c.content.new.wire; reader = c.content.new.self }) (g.W.Wire.faults c.args.lane.now.wire) c.in-Err.broke (c.in-Err.ensures.cause c.requires.unbroken).cause

pub returns-in-Ok-Bytes-clause-limit : goal.returns-in-Ok-Bytes-clause-limit
returns-in-Ok-Bytes-clause-limit g c = most_same c.args.lane.now.reader c.content.new.self c.content.ensures.kept.1 c.content.ensures.kept.2

pub returns-in-Ok-End-clause-limit : goal.returns-in-Ok-End-clause-limit
returns-in-Ok-End-clause-limit g c = most_same c.args.lane.now.reader c.content.new.self c.content.ensures.kept.1 c.content.ensures.kept.2

pub returns-in-Err-clause-limit : goal.returns-in-Err-clause-limit
returns-in-Err-clause-limit g c = most_same c.args.lane.now.reader c.content.new.self c.content.ensures.kept.1 c.content.ensures.kept.2

pub returns-in-Ok-Bytes-clause-counted : goal.returns-in-Ok-Bytes-clause-counted
returns-in-Ok-Bytes-clause-counted g c = count_same c.args.lane.now.reader c.content.new.self c.content.ensures.kept.1 c.content.ensures.kept.2

pub returns-in-Ok-End-clause-counted : goal.returns-in-Ok-End-clause-counted
returns-in-Ok-End-clause-counted g c = count_same c.args.lane.now.reader c.content.new.self c.content.ensures.kept.1 c.content.ensures.kept.2

pub returns-in-Err-clause-counted : goal.returns-in-Err-clause-counted
returns-in-Err-clause-counted g c = count_same c.args.lane.now.reader c.content.new.self c.content.ensures.kept.1 c.content.ensures.kept.2

pub returns-in-Ok-End-clause-all : goal.returns-in-Ok-End-clause-all
returns-in-Ok-End-clause-all g c = rw c.in-Ok-End.field-0-is at c.in-Ok-End.ensures.all
