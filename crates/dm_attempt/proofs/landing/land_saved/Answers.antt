use Rattle.std.proofs.Common.{Result, Ok, Err, ap, sym, subst}
use Rattle.dm_store.specs.Origin.{said_of}
use Rattle.dm_store.specs.View.{View}
use Rattle.dm_answers.specs.Land.{LandAnswers, SaysPiece}
use Rattle.dm_answers.specs.Reads.{HasPiece, PartReads}
use Rattle.dm_answers.specs.declared.answer.SlicePass.{SlicePass}
use Rattle.dm_attempt.specs.declared.stop.Stop.{Stop}
use Rattle.dm_attempt.specs.Stops.{LandLeaves}
use Rattle.dm_attempt.proofs.Steps.{piece_leaves}
use Rattle.dm_attempt.proofs.landing.land_saved.Goals as goal

pub returns-in-Ok-clause-goes : goal.returns-in-Ok-clause-goes
returns-in-Ok-clause-goes g c scene older round live next turn_is =
    let D = g.S.D.Disk in
    let view = g.S.Desk.view in
    let old = view c.args.desk.now in
    let new = view c.land.new.self in
    piece_leaves D.tells D.history (λ o. said_of (g.S.O.Origin.says o)) D.far D.faults scene c.args.going.now.pass old new
    (record { keeps = c.land.ensures.keeps; near = c.land.ensures.far; later = c.land.ensures.cause.later; beside = c.land.ensures.beside }) older round c.args.part.now c.args.at c.args.piece.now c.args.going.now.round live next turn_is
    (Ok tt) c.requires.none c.land.ensures.was
    (subst (λ (s : SlicePass). LandAnswers D.faults old new s c.args.at c.args.piece.now (Ok tt)) c.slice_of.ensures c.in-Ok.ensures.answers) tt
    (λ told. subst (λ (s : SlicePass). PartReads D.history old new s.id (HasPiece c.args.at c.args.piece.now)) c.slice_of.ensures (c.in-Ok.ensures.reads told))

pub returns-in-Ok-clause-limits : goal.returns-in-Ok-clause-limits
returns-in-Ok-clause-limits g c = ap (λ (desk : View g.row.S-D.Denot g.row.S-O.Denot). desk.limits) c.in-Ok.ensures.answers.1.same

pub returns-in-Err-clause-goes : goal.returns-in-Err-clause-goes
returns-in-Err-clause-goes g c scene older round live next turn_is =
    let D = g.S.D.Disk in
    let view = g.S.Desk.view in
    let old = view c.args.desk.now in
    let new = view c.land.new.self in
    subst (λ (s : Stop). LandLeaves D.tells D.history (λ o. said_of (g.S.O.Origin.says o)) D.far D.faults scene c.args.going.now.pass new older round c.args.part.now.index c.args.piece.now (Err s)) (sym c.stop_of.ensures.is)
    (piece_leaves D.tells D.history (λ o. said_of (g.S.O.Origin.says o)) D.far D.faults scene c.args.going.now.pass old new
    (record { keeps = c.land.ensures.keeps; near = c.land.ensures.far; later = c.land.ensures.cause.later; beside = c.land.ensures.beside }) older round c.args.part.now c.args.at c.args.piece.now c.args.going.now.round live next turn_is
    (Err c.in-Err.fault) c.requires.none c.land.ensures.was
    (subst (λ (s : SlicePass). LandAnswers D.faults old new s c.args.at c.args.piece.now (Err c.in-Err.fault)) c.slice_of.ensures c.in-Err.ensures.answers) c.in-Err.ensures.cause.cause (λ told. tt))

pub land-requires-clause-said : goal.land-requires-clause-said
land-requires-clause-said g c =
    subst (λ (s : SlicePass). SaysPiece (said_of (g.S.O.Origin.says (g.S.Desk.view c.args.desk.now).origin)) (g.S.Desk.view c.args.desk.now).items.items s.id c.args.at c.args.piece.now) (sym c.slice_of.ensures) c.requires.said
