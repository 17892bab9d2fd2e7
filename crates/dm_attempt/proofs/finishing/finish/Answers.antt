use Rattle.std.proofs.Common.{Bool, Result, Err, sym, ◌∙◌, subst}
use Rattle.dm_store.specs.Origin.{said_of}
use Rattle.dm_attempt.specs.declared.stop.Stop.{Stop}
use Rattle.dm_attempt.specs.Finishes.{FinishLeaves}
use Rattle.dm_attempt.proofs.Completes.{finish_hole, finish_left, finish_ok}
use Rattle.dm_attempt.proofs.finishing.finish.Goals as goal

pub returns-in-Ok-clause-goes : goal.returns-in-Ok-clause-goes
returns-in-Ok-clause-goes g c scene trace live told at_is =
    let D = g.S.D.Disk in
    let view = g.S.Desk.view in
    let old = view c.args.desk.now in
    let new = view c.finish.new.self in
    subst (λ (r : Result Bool Stop). FinishLeaves D.tells D.history (λ o. said_of (g.S.O.Origin.says o)) D.far D.faults scene c.args.pass.now old new trace r) (sym c.finished_as.ensures.is)
    (finish_ok D.tells D.history (λ o. said_of (g.S.O.Origin.says o)) D.far D.faults scene c.args.pass.now old new (record { keeps = c.finish.ensures.keeps; near = c.finish.ensures.far; later = c.finish.ensures.cause.later; beside = c.finish.ensures.beside }) trace live told c.args.at at_is c.in-Ok.finished c.in-Ok.ensures.answers)

pub returns-in-Some-clause-goes : goal.returns-in-Some-clause-goes
returns-in-Some-clause-goes g c scene trace live told at_is =
    let D = g.S.D.Disk in
    let view = g.S.Desk.view in
    let old = view c.args.desk.now in
    let new = view c.finish.new.self in
    finish_left D.tells D.history (λ o. said_of (g.S.O.Origin.says o)) D.far D.faults scene c.args.pass.now old new (record { keeps = c.finish.ensures.keeps; near = c.finish.ensures.far; later = c.finish.ensures.cause.later; beside = c.finish.ensures.beside }) trace live told c.args.at at_is c.in-Err.fault c.in-Some.stop (sym c.unless_hole.ensures.is ∙ c.in-Some.is) c.in-Err.ensures.answers c.in-Err.ensures.cause.cause

pub returns-in-None-clause-goes : goal.returns-in-None-clause-goes
returns-in-None-clause-goes g c scene trace live told at_is =
    let D = g.S.D.Disk in
    let view = g.S.Desk.view in
    let old = view c.args.desk.now in
    let new = view c.finish.new.self in
    finish_hole D.tells D.history (λ o. said_of (g.S.O.Origin.says o)) D.far D.faults scene c.args.pass.now old new (record { keeps = c.finish.ensures.keeps; near = c.finish.ensures.far; later = c.finish.ensures.cause.later; beside = c.finish.ensures.beside }) trace live told c.args.at at_is c.in-Err.fault (sym c.unless_hole.ensures.is ∙ c.in-None.is) c.in-Err.ensures.answers
