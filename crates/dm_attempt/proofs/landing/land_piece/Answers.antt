use Rattle.std.proofs.Common.{◌≡◌, ◌≤◌, length, Result, Ok, Err, ap, sym, ◌∙◌, subst}
use Rattle.std.specs.Result.{OnOk}
use Rattle.dm_store.specs.Origin.{said_of}
use Rattle.dm_store.specs.View.{View}
use Rattle.dm_answers.specs.Land.{LandAnswers}
use Rattle.dm_answers.specs.Reads.{HasPiece, PartReads}
use Rattle.dm_answers.specs.declared.answer.SlicePass.{SlicePass}
use Rattle.dm_attempt.specs.Live.{LiveDesk}
use Rattle.dm_attempt.specs.Trace.{opened}
use Rattle.dm_attempt.proofs.Steps.{live_landed, piece_refused}
use Rattle.dm_attempt.proofs.Answers.{due_same}
use Rattle.dm_answers.specs.Land.{SaysPiece}
use Rattle.dm_attempt.proofs.landing.land_piece.Goals as goal

pub returns-in-Ok-clause-goes : goal.returns-in-Ok-clause-goes
returns-in-Ok-clause-goes g c scene older round live next turn_is =
    let D = g.S.D.Disk in
    let view = g.S.Desk.view in
    let answers = subst (λ (s : SlicePass). LandAnswers D.faults (view c.args.desk.now) (view c.land.new.self) s c.args.at c.args.piece.now (Ok tt)) c.slice_of.ensures c.in-Ok.ensures.answers in (
      older.saves,
      live_landed D.tells D.history (λ o. said_of (g.S.O.Origin.says o)) D.far D.faults scene c.args.going.now.pass (view c.args.desk.now) (view c.land.new.self)
          (record { keeps = c.land.ensures.keeps; near = c.land.ensures.far; later = c.land.ensures.cause.later; beside = c.land.ensures.beside }) c.land.ensures.was older round c.args.part.now c.args.at c.args.piece.now live next answers.1
          (λ told. subst (λ (s : SlicePass). PartReads D.history (view c.args.desk.now) (view c.land.new.self) s.id (HasPiece c.args.at c.args.piece.now)) c.slice_of.ensures (c.in-Ok.ensures.reads told)),
    )

pub returns-in-Ok-clause-limits : goal.returns-in-Ok-clause-limits
returns-in-Ok-clause-limits g c = ap (λ (desk : View g.row.S-D.Denot g.row.S-O.Denot). desk.limits) c.in-Ok.ensures.answers.1.same

pub returns-in-Some-clause-goes : goal.returns-in-Some-clause-goes
returns-in-Some-clause-goes g c scene older round live next turn_is =
    let D = g.S.D.Disk in
    let view = g.S.Desk.view in
    piece_refused D.tells D.history (λ o. said_of (g.S.O.Origin.says o)) D.far D.faults scene c.args.going.now.pass (view c.args.desk.now) (view c.land.new.self)
    (record { keeps = c.land.ensures.keeps; near = c.land.ensures.far; later = c.land.ensures.cause.later; beside = c.land.ensures.beside }) older round c.args.part.now c.args.at c.args.piece.now c.args.going.now.round live next turn_is
    c.in-Err.fault c.in-Some.stop (sym c.unless_due.ensures.is ∙ c.in-Some.is)
    (subst (λ (s : SlicePass). LandAnswers D.faults (view c.args.desk.now) (view c.land.new.self) s c.args.at c.args.piece.now (Err c.in-Err.fault)) c.slice_of.ensures c.in-Err.ensures.answers) c.in-Err.ensures.cause.cause

pub save_and_land-requires-clause-few : goal.save_and_land-requires-clause-few
save_and_land-requires-clause-few g c =
    subst (λ (desk : View g.row.S-D.Denot g.row.S-O.Denot). length c.args.piece.now ≤ desk.limits.piece)
    (sym (due_same g.S.D.Disk.faults (g.S.Desk.view c.args.desk.now) (g.S.Desk.view c.land.new.self) c.slice_of.result c.args.at c.args.piece.now c.in-Err.fault (sym c.unless_due.ensures.is ∙ c.in-None.is) c.in-Err.ensures.answers)) c.requires.few

pub save_and_land-requires-clause-said : goal.save_and_land-requires-clause-said
save_and_land-requires-clause-said g c =
    subst (λ (desk : View g.row.S-D.Denot g.row.S-O.Denot). SaysPiece (said_of (g.S.O.Origin.says desk.origin)) desk.items.items c.args.going.now.pass.id c.args.at c.args.piece.now)
    (sym (due_same g.S.D.Disk.faults (g.S.Desk.view c.args.desk.now) (g.S.Desk.view c.land.new.self) c.slice_of.result c.args.at c.args.piece.now c.in-Err.fault (sym c.unless_due.ensures.is ∙ c.in-None.is) c.in-Err.ensures.answers)) c.requires.said

pub returns-in-None-clause-goes : goal.returns-in-None-clause-goes
returns-in-None-clause-goes g c scene older round live next turn_is =
    let D = g.S.D.Disk in
    c.save_and_land.ensures.goes scene older round
    (subst (λ (desk : View g.row.S-D.Denot g.row.S-O.Denot). LiveDesk D.tells D.history (λ o. said_of (g.S.O.Origin.says o)) D.far D.faults scene c.args.going.now.pass desk (opened older round))
    (sym (due_same D.faults (g.S.Desk.view c.args.desk.now) (g.S.Desk.view c.land.new.self) c.slice_of.result c.args.at c.args.piece.now c.in-Err.fault (sym c.unless_due.ensures.is ∙ c.in-None.is) c.in-Err.ensures.answers)) live) next turn_is

pub returns-in-None-clause-limits : goal.returns-in-None-clause-limits
returns-in-None-clause-limits g c =
    subst (λ (desk : View g.row.S-D.Denot g.row.S-O.Denot). OnOk c.save_and_land.result ((g.S.Desk.view c.save_and_land.new.desk).limits ≡ desk.limits))
    (due_same g.S.D.Disk.faults (g.S.Desk.view c.args.desk.now) (g.S.Desk.view c.land.new.self) c.slice_of.result c.args.at c.args.piece.now c.in-Err.fault (sym c.unless_due.ensures.is ∙ c.in-None.is) c.in-Err.ensures.answers) c.save_and_land.ensures.limits

pub land-requires-clause-said : goal.land-requires-clause-said
land-requires-clause-said g c =
    subst (λ (s : SlicePass). SaysPiece (said_of (g.S.O.Origin.says (g.S.Desk.view c.args.desk.now).origin)) (g.S.Desk.view c.args.desk.now).items.items s.id c.args.at c.args.piece.now) (sym c.slice_of.ensures) c.requires.said
