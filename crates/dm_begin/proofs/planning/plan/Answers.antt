use Rattle.std.proofs.Common.{List, Ok, length, refl, sym, ◌∙◌, ap, subst, arith}
use Rattle.dm_store.specs.declared.life.Life.{Life}
use Rattle.dm_store.specs.Keeps.{IsDesk, Keeps}
use Rattle.dm_store.specs.Origin.{said_of}
use Rattle.dm_store.specs.Store.{view_of}
use Rattle.dm_store.proofs.Keeping.{keeps_same}
use Rattle.dm_answers.specs.Plan.{PlanAnswers}
use Rattle.dm_begin.specs.Round.{with_round}
use Rattle.dm_begin.proofs.Alive.{changed_length}
use Rattle.dm_begin.proofs.Planned.{round_answers, round_desk, round_keeps}
use Rattle.dm_begin.proofs.planning.plan.Goals as goal

pub returns-in-Err-clause-keeps : goal.returns-in-Err-clause-keeps
returns-in-Err-clause-keeps g c = keeps_same g.D.Disk.tells g.D.Disk.history (λ o. said_of (g.O.Origin.says o)) (view_of c.args.store.now) (view_of c.args.store.now) refl

pub returns-in_default-clause-keeps : goal.returns-in_default-clause-keeps
returns-in_default-clause-keeps g c = keeps_same g.D.Disk.tells g.D.Disk.history (λ o. said_of (g.O.Origin.says o)) (view_of c.args.store.now) (view_of c.args.store.now) refl

pub returns-clause-store : goal.returns-clause-store
returns-clause-store g c = record {
  desk = subst (λ (lives : List Life). IsDesk g.D.Disk.tells g.D.Disk.history (record (view_of c.args.store.now) { lives = lives })) (sym c.put_round.ensures)
      (round_desk g.D.Disk.tells g.D.Disk.history (λ o. said_of (g.O.Origin.says o)) (view_of c.args.store.now) c.requires.store.desk c.if-store.false c.args.pass.now c.args.n c.in-Ok.round c.in-Ok-make_round.planned c.in-Ok-make_round.ensures);
  room =
      let same = ap (length {A = Life}) c.put_round.ensures
      ∙ changed_length c.args.pass.now.id.0 (with_round c.in-Ok.round.round c.in-Ok-make_round.planned.cover c.in-Ok-make_round.planned.plan) c.args.store.now.lives.items in
      let room = c.requires.store.room in
      omega (arith, same, room);
}

pub returns-clause-answers : goal.returns-clause-answers
returns-clause-answers g c =
    subst (λ (lives : List Life). PlanAnswers (view_of c.args.store.now) (record (view_of c.args.store.now) { lives = lives }) c.args.pass.now c.args.n (Ok c.in-Ok-make_round.planned.passes)) (sym c.put_round.ensures)
    (round_answers g.D.Disk.tells g.D.Disk.history (λ o. said_of (g.O.Origin.says o)) (view_of c.args.store.now) c.requires.store.desk c.if-store.false c.args.pass.now c.args.n c.in-Ok.round c.in-Ok-make_round.planned c.in-Ok-make_round.ensures
    c.in-Ok-make_round.planned.passes refl)

pub returns-clause-keeps : goal.returns-clause-keeps
returns-clause-keeps g c =
    subst (λ (lives : List Life). Keeps g.D.Disk.tells g.D.Disk.history (λ o. said_of (g.O.Origin.says o)) (view_of c.args.store.now) (record (view_of c.args.store.now) { lives = lives })) (sym c.put_round.ensures)
    (round_keeps g.D.Disk.tells g.D.Disk.history (λ o. said_of (g.O.Origin.says o)) (view_of c.args.store.now) c.requires.store.desk c.if-store.false c.args.pass.now c.args.n c.in-Ok.round c.in-Ok-make_round.planned c.in-Ok-make_round.ensures)
