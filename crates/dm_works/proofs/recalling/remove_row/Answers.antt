use Rattle.std.proofs.Common.{refl, sym, ◌∙◌}
use Rattle.dm_store.specs.Origin.{said_of}
use Rattle.dm_works.specs.Serving.{service_of}
use Rattle.dm_works.proofs.Recalled.{remove_none, remove_row, remove_silent}
use Rattle.dm_works.proofs.Stepping.{steps_same}
use Rattle.dm_works.proofs.recalling.remove_row.Goals as goal

pub returns-in-Ok-true-clause-answers : goal.returns-in-Ok-true-clause-answers
returns-in-Ok-true-clause-answers g c =
    let K = g.K.Keeper in
    remove_row K.tells g.D.Disk.faults (service_of K.rows K.faults c.args.desk.now c.args.keeper.now) (service_of K.rows K.faults c.args.desk.now c.drop_row.new.self) c.args.now c.removed_reply.result c.args.id c.requires.gone
    (λ knows. sym c.in-Ok-true.field-0-test ∙ c.in-Ok-true.ensures.was knows) c.in-Ok-true.ensures.dropped refl c.in-Ok-true.ensures.cause.later c.removed_reply.ensures

pub returns-in-Ok-true-clause-steps : goal.returns-in-Ok-true-clause-steps
returns-in-Ok-true-clause-steps g c = steps_same g.D.Disk.tells g.D.Disk.history g.D.Disk.faults g.D.Disk.far (λ o. said_of (g.O.Origin.says o)) c.args.desk.now

pub returns-in-Ok-false-clause-answers : goal.returns-in-Ok-false-clause-answers
returns-in-Ok-false-clause-answers g c =
    let K = g.K.Keeper in
    remove_none K.tells g.D.Disk.faults (service_of K.rows K.faults c.args.desk.now c.args.keeper.now) (service_of K.rows K.faults c.do_job.new.desk c.drop_row.new.self) c.args.now c.do_job.result c.args.id c.requires.gone
    (λ knows. sym c.in-Ok-false.field-0-test ∙ c.in-Ok-false.ensures.was knows) c.in-Ok-false.ensures.dropped c.in-Ok-false.ensures.cause.later c.do_job.ensures.answers

pub returns-in-Err-clause-answers : goal.returns-in-Err-clause-answers
returns-in-Err-clause-answers g c =
    let K = g.K.Keeper in
    remove_silent K.tells g.D.Disk.faults (service_of K.rows K.faults c.args.desk.now c.args.keeper.now) (service_of K.rows K.faults c.args.desk.now c.drop_row.new.self) c.args.now c.silence.result c.args.id c.requires.gone c.in-Err.fault
    refl c.in-Err.ensures.same c.in-Err.ensures.cause c.silence.ensures

pub returns-in-Err-clause-steps : goal.returns-in-Err-clause-steps
returns-in-Err-clause-steps g c = steps_same g.D.Disk.tells g.D.Disk.history g.D.Disk.faults g.D.Disk.far (λ o. said_of (g.O.Origin.says o)) c.args.desk.now
