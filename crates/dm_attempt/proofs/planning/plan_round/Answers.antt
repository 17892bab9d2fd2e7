use Rattle.std.proofs.Common.{Err, sym, subst}
use Rattle.dm_store.specs.Origin.{said_of}
use Rattle.dm_types.specs.Name.{IsPart}
use Rattle.dm_disk_model.proofs.Beside.{besides_same}
use Rattle.dm_attempt.specs.declared.stop.Stop.{Stop}
use Rattle.dm_attempt.specs.Ends.{PlanLeaves}
use Rattle.dm_attempt.proofs.Passes.{few_passes, passes_have}
use Rattle.dm_attempt.proofs.Planned.{round_opened, round_refused}
use Rattle.dm_attempt.proofs.planning.plan_round.Goals as goal

pub returns-in-Ok-clause-goes : goal.returns-in-Ok-clause-goes
returns-in-Ok-clause-goes g c scene trace asking live told count =
    let D = g.S.D.Disk in
    let view = g.S.Desk.view in
    let old = view c.args.desk.now in
    let new = view c.plan.new.self in
    round_opened D.tells D.history (λ o. said_of (g.S.O.Origin.says o)) D.far D.faults scene c.args.pass.now old new
    (record { keeps = c.plan.ensures.keeps; near = c.plan.ensures.far; later = c.plan.ensures.cause.later; beside = λ t. besides_same IsPart (D.history old.disk) (D.history new.disk) (c.plan.ensures.beside t) })
    trace live asking c.plan.ensures.was c.args.n count told c.in-Ok.passes c.in-Ok.ensures.answers

pub returns-in-Err-clause-goes : goal.returns-in-Err-clause-goes
returns-in-Err-clause-goes g c scene trace asking live told count =
    let D = g.S.D.Disk in
    let view = g.S.Desk.view in
    let old = view c.args.desk.now in
    let new = view c.plan.new.self in
    subst (λ (s : Stop). PlanLeaves D.tells D.history (λ o. said_of (g.S.O.Origin.says o)) D.far D.faults scene c.args.pass.now new trace asking (Err s)) (sym c.no_plan.ensures.is)
    (round_refused D.tells D.history (λ o. said_of (g.S.O.Origin.says o)) D.far D.faults scene c.args.pass.now old new
    (record { keeps = c.plan.ensures.keeps; near = c.plan.ensures.far; later = c.plan.ensures.cause.later; beside = λ t. besides_same IsPart (D.history old.disk) (D.history new.disk) (c.plan.ensures.beside t) })
    trace live asking c.plan.ensures.was c.args.n count told c.in-Err.fault c.in-Err.ensures.answers)

pub returns-in-Ok-clause-few : goal.returns-in-Ok-clause-few
returns-in-Ok-clause-few g c =
    let D = g.S.D.Disk in
    let view = g.S.Desk.view in
    few_passes D.tells D.history (view c.args.desk.now) (view c.plan.new.self) c.args.pass.now c.args.n c.in-Ok.passes c.in-Ok.ensures.answers c.requires.some

pub returns-in-Ok-clause-ordered : goal.returns-in-Ok-clause-ordered
returns-in-Ok-clause-ordered g c =
    let D = g.S.D.Disk in
    let view = g.S.Desk.view in
    passes_have D.tells D.history (view c.args.desk.now) (view c.plan.new.self) c.args.pass.now c.args.n c.in-Ok.passes c.in-Ok.ensures.answers c.plan.ensures.was
