use Rattle.std.proofs.Common.{arith, refl, ◌∙◌}
use Rattle.dm_types.specs.Faults.{Rose}
use Rattle.dm_edge.specs.declared.fault.EdgeFault.TheVariants.{Failed}
use Rattle.dm_store.specs.Origin.{said_of}
use Rattle.dm_store.proofs.Saved.{rose_last}
use Rattle.dm_does.specs.Printing.{SameCounts}
use Rattle.dm_works.specs.Serving.{service_of}
use Rattle.dm_works.proofs.Stepping.{steps_same, steps_then}
use Rattle.dm_session.specs.Serving.{AnswersAt, IsTold}
use Rattle.dm_session.proofs.Turned.{closes_failed, closes_full, closes_stopped, far_next, far_start}
use Rattle.dm_session.proofs.turning.serve_all.Goals as goal

pub turns-init : goal.turns-init
turns-init g c = record {
  kept = c.requires.desk;
  so_far = far_start g.X.Conns.tells (AnswersAt (IsTold g.C.Clock.tells g.C.Clock.next) g.D.Disk.tells g.K.Keeper.tells g.D.Disk.history g.D.Disk.faults (λ o. said_of (g.O.Origin.says o))) (service_of g.K.Keeper.rows g.K.Keeper.faults c.args.desk.now c.args.keeper.now) (g.X.Conns.over c.args.conns.now) (g.X.Conns.served c.args.conns.now) c.args.requests;
  steps = steps_same g.D.Disk.tells g.D.Disk.history g.D.Disk.faults g.D.Disk.far (λ o. said_of (g.O.Origin.says o)) c.args.desk.now;
  later = λ kind. omega arith;
  accepts = λ kind. refl;
}

pub turns-preserved : goal.turns-preserved
turns-preserved g c =
    let X = g.X.Conns in
    record {
      kept = c.serve_next.ensures.kept;
      so_far = far_next X.tells (AnswersAt (IsTold g.C.Clock.tells g.C.Clock.next) g.D.Disk.tells g.K.Keeper.tells g.D.Disk.history g.D.Disk.faults (λ o. said_of (g.O.Origin.says o))) (service_of g.K.Keeper.rows g.K.Keeper.faults c.args.desk.now c.args.keeper.now) (service_of g.K.Keeper.rows g.K.Keeper.faults c.turns.desk c.turns.keeper) (service_of g.K.Keeper.rows g.K.Keeper.faults c.serve_next.new.desk c.serve_next.new.keeper) (X.over c.args.conns.now) (X.over c.turns.conns) (X.over c.serve_next.new.conns) (X.served c.args.conns.now) (X.served c.turns.conns) (X.served c.serve_next.new.conns) c.args.requests c.turns.left c.turns.invariant.so_far c.turns-test.true c.in-GoesOn.ensures.turned.0;
      steps = steps_then g.D.Disk.tells g.D.Disk.history g.D.Disk.faults g.D.Disk.far (λ o. said_of (g.O.Origin.says o)) c.args.desk.now c.turns.desk c.serve_next.new.desk c.turns.invariant.steps c.serve_next.ensures.steps;
      later = λ kind. let earlier = c.turns.invariant.later kind in let last = c.serve_next.ensures.later kind in omega (arith, earlier, last);
      accepts = λ kind. c.in-GoesOn.ensures.turned.1 kind ∙ c.turns.invariant.accepts kind;
    }

pub returns-in-Stops-clause-closes : goal.returns-in-Stops-clause-closes
returns-in-Stops-clause-closes g c =
    let X = g.X.Conns in
    closes_stopped X.tells (AnswersAt (IsTold g.C.Clock.tells g.C.Clock.next) g.D.Disk.tells g.K.Keeper.tells g.D.Disk.history g.D.Disk.faults (λ o. said_of (g.O.Origin.says o))) (service_of g.K.Keeper.rows g.K.Keeper.faults c.args.desk.now c.args.keeper.now) (service_of g.K.Keeper.rows g.K.Keeper.faults c.turns.desk c.turns.keeper) (service_of g.K.Keeper.rows g.K.Keeper.faults c.serve_next.new.desk c.serve_next.new.keeper) (X.over c.args.conns.now) (X.over c.turns.conns) (X.over c.serve_next.new.conns) (X.served c.args.conns.now) (X.served c.turns.conns) (X.served c.serve_next.new.conns) c.args.requests c.turns.left c.turns.invariant.so_far
    (SameCounts (X.faults c.args.conns.now) (X.faults c.serve_next.new.conns)) (Rose (X.faults c.args.conns.now Failed) (X.faults c.serve_next.new.conns Failed)) c.in-Stops.ensures.turned.0 (λ kind. c.in-Stops.ensures.turned.1 kind ∙ c.turns.invariant.accepts kind)

pub returns-in-NotAccepted-clause-closes : goal.returns-in-NotAccepted-clause-closes
returns-in-NotAccepted-clause-closes g c =
    let X = g.X.Conns in
    closes_failed X.tells (AnswersAt (IsTold g.C.Clock.tells g.C.Clock.next) g.D.Disk.tells g.K.Keeper.tells g.D.Disk.history g.D.Disk.faults (λ o. said_of (g.O.Origin.says o))) (service_of g.K.Keeper.rows g.K.Keeper.faults c.args.desk.now c.args.keeper.now) (service_of g.K.Keeper.rows g.K.Keeper.faults c.turns.desk c.turns.keeper) (service_of g.K.Keeper.rows g.K.Keeper.faults c.serve_next.new.desk c.serve_next.new.keeper) (X.over c.args.conns.now) (X.over c.turns.conns) (X.over c.serve_next.new.conns) (X.served c.args.conns.now) (X.served c.turns.conns) (X.served c.serve_next.new.conns) c.args.requests c.turns.left c.turns.invariant.so_far
    (SameCounts (X.faults c.args.conns.now) (X.faults c.serve_next.new.conns)) (Rose (X.faults c.args.conns.now Failed) (X.faults c.serve_next.new.conns Failed)) (Rose (X.faults c.turns.conns Failed) (X.faults c.serve_next.new.conns Failed))
    (λ rose. rose_last (X.faults c.args.conns.now Failed) (X.faults c.turns.conns Failed) (X.faults c.serve_next.new.conns Failed) (c.turns.invariant.later Failed) rose) c.turns-test.true c.in-NotAccepted.ensures.turned

pub returns-in-Stops-clause-steps : goal.returns-in-Stops-clause-steps
returns-in-Stops-clause-steps g c = steps_then g.D.Disk.tells g.D.Disk.history g.D.Disk.faults g.D.Disk.far (λ o. said_of (g.O.Origin.says o)) c.args.desk.now c.turns.desk c.serve_next.new.desk c.turns.invariant.steps c.serve_next.ensures.steps

pub returns-in-NotAccepted-clause-steps : goal.returns-in-NotAccepted-clause-steps
returns-in-NotAccepted-clause-steps g c = steps_then g.D.Disk.tells g.D.Disk.history g.D.Disk.faults g.D.Disk.far (λ o. said_of (g.O.Origin.says o)) c.args.desk.now c.turns.desk c.serve_next.new.desk c.turns.invariant.steps c.serve_next.ensures.steps

pub returns-in-Stops-clause-later : goal.returns-in-Stops-clause-later
returns-in-Stops-clause-later g c = λ kind. let earlier = c.turns.invariant.later kind in let last = c.serve_next.ensures.later kind in omega (arith, earlier, last)

pub returns-in-NotAccepted-clause-later : goal.returns-in-NotAccepted-clause-later
returns-in-NotAccepted-clause-later g c = λ kind. let earlier = c.turns.invariant.later kind in let last = c.serve_next.ensures.later kind in omega (arith, earlier, last)

pub returns-clause-closes : goal.returns-clause-closes
returns-clause-closes g c =
    let X = g.X.Conns in
    closes_full X.tells (AnswersAt (IsTold g.C.Clock.tells g.C.Clock.next) g.D.Disk.tells g.K.Keeper.tells g.D.Disk.history g.D.Disk.faults (λ o. said_of (g.O.Origin.says o))) (service_of g.K.Keeper.rows g.K.Keeper.faults c.args.desk.now c.args.keeper.now) (service_of g.K.Keeper.rows g.K.Keeper.faults c.turns.desk c.turns.keeper) (X.over c.args.conns.now) (X.over c.turns.conns) (X.served c.args.conns.now) (X.served c.turns.conns)
    (SameCounts (X.faults c.args.conns.now) (X.faults c.turns.conns)) (Rose (X.faults c.args.conns.now Failed) (X.faults c.turns.conns Failed)) c.args.requests c.turns.left
    c.turns.invariant.so_far c.turns.invariant.accepts (λ some. let over = c.turns-test.false in omega (arith, some, over))
