use Rattle.std.proofs.Common.{sym, subst}
use Rattle.dm_store.specs.Origin.{said_of}
use Rattle.dm_attempt.specs.declared.stop.Stop.{Stop}
use Rattle.dm_attempt.specs.Stops.{Refused}
use Rattle.dm_answers.proofs.Hard.{hard_checkpoint}
use Rattle.dm_answers.proofs.Live.{weaker}
use Rattle.dm_answers.specs.Broke.{IsUnderWay}
use Rattle.dm_attempt.specs.Live.{IsTraced}
use Rattle.dm_attempt.proofs.Steps.{live_saved, save_stops}
use Rattle.dm_attempt.proofs.Behind.{saved_limits, saved_none, saved_says}
use Rattle.dm_attempt.proofs.landing.save.Goals as goal

pub returns-in-Ok-clause-goes : goal.returns-in-Ok-clause-goes
returns-in-Ok-clause-goes g c scene trace live =
    let D = g.S.D.Disk in
    let view = g.S.Desk.view in
    live_saved D.tells D.history (λ o. said_of (g.S.O.Origin.says o)) D.far D.faults scene c.args.pass.now (view c.args.desk.now) (view c.checkpoint.new.self)
    (record { keeps = c.checkpoint.ensures.keeps; near = c.checkpoint.ensures.far; later = c.checkpoint.ensures.cause.later; beside = c.checkpoint.ensures.beside }) trace live c.in-Ok.ensures.answers c.checkpoint.ensures.reads

pub returns-in-Ok-clause-none : goal.returns-in-Ok-clause-none
returns-in-Ok-clause-none g c = saved_none (g.S.Desk.view c.args.desk.now) (g.S.Desk.view c.checkpoint.new.self) c.args.pass.now c.in-Ok.ensures.answers

pub returns-in-Ok-clause-said : goal.returns-in-Ok-clause-said
returns-in-Ok-clause-said g c place bytes said = saved_says (g.S.Desk.view c.args.desk.now) (g.S.Desk.view c.checkpoint.new.self) c.args.pass.now c.in-Ok.ensures.answers (λ o. said_of (g.S.O.Origin.says o)) place bytes said

pub returns-in-Ok-clause-limits : goal.returns-in-Ok-clause-limits
returns-in-Ok-clause-limits g c = saved_limits (g.S.Desk.view c.args.desk.now) (g.S.Desk.view c.checkpoint.new.self) c.args.pass.now c.in-Ok.ensures.answers

pub returns-in-Err-clause-goes : goal.returns-in-Err-clause-goes
returns-in-Err-clause-goes g c scene trace live =
    let D = g.S.D.Disk in
    let view = g.S.Desk.view in
    let old = view c.args.desk.now in
    let new = view c.checkpoint.new.self in
    let pass = c.args.pass.now in
    subst (λ (s : Stop). Refused D.tells D.history (λ o. said_of (g.S.O.Origin.says o)) D.far D.faults scene pass new trace s) (sym c.stop_of.ensures.is)
    (save_stops D.tells D.history (λ o. said_of (g.S.O.Origin.says o)) D.far D.faults scene pass old new
    (record { keeps = c.checkpoint.ensures.keeps; near = c.checkpoint.ensures.far; later = c.checkpoint.ensures.cause.later; beside = c.checkpoint.ensures.beside }) trace live c.in-Err.fault
    (hard_checkpoint D.faults old new pass c.in-Err.fault live.goes.went.broken_is (weaker old pass.id pass.attempt (IsTraced scene trace) IsUnderWay (λ item life is. tt) live.runs) c.in-Err.ensures.answers)
    c.in-Err.ensures.answers c.in-Err.ensures.cause.cause)
