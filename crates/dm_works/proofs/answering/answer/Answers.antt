use Rattle.std.proofs.Common.{Err, refl, subst, sym}
use Rattle.dm_store.specs.Origin.{said_of}
use Rattle.dm_call.specs.Asked.{Refuses, asked}
use Rattle.dm_store.proofs.Keeping.{keeps_same}
use Rattle.dm_works.specs.Deciding.{FitsTask}
use Rattle.dm_works.specs.Serving.{service_of}
use Rattle.dm_works.proofs.Recalled.{call_answered, call_refused, call_wanted}
use Rattle.dm_works.proofs.Replying.{fits_task}
use Rattle.dm_works.proofs.Stepping.{steps_same}
use Rattle.dm_works.proofs.Stops.{none_asked, task_asked}
use Rattle.dm_works.proofs.answering.answer.Goals as goal

pub do_task-requires-clause-fits : goal.do_task-requires-clause-fits
do_task-requires-clause-fits g c = subst FitsTask (sym c.task_of.ensures) (fits_task c.in-Ok.call c.in-Ok.ensures.fits)

pub returns-in-Ok-clause-answers : goal.returns-in-Ok-clause-answers
returns-in-Ok-clause-answers g c =
    let K = g.K.Keeper in
    record {
      answers = call_answered K.tells g.D.Disk.faults (service_of K.rows K.faults c.args.desk.now c.args.keeper.now) (service_of K.rows K.faults c.do_task.new.desk c.do_task.new.keeper) c.args.now c.do_task.result c.args.request.now c.in-Ok.call c.task_of.result c.in-Ok.ensures.ok c.task_of.ensures c.do_task.ensures.answers;
      keeps = c.do_task.ensures.steps.keeps;
      shows = task_asked g.D.Disk.tells K.tells g.D.Disk.history (λ o. said_of (g.O.Origin.says o)) (service_of K.rows K.faults c.args.desk.now c.args.keeper.now) (service_of K.rows K.faults c.do_task.new.desk c.do_task.new.keeper) c.args.request.now c.in-Ok.call c.task_of.result c.in-Ok.ensures.ok c.task_of.ensures c.do_task.ensures.shows;
    }

pub returns-in-Err-Refused-clause-answers : goal.returns-in-Err-Refused-clause-answers
returns-in-Err-Refused-clause-answers g c =
    let K = g.K.Keeper in
    record {
      answers = call_refused K.tells g.D.Disk.faults (service_of K.rows K.faults c.args.desk.now c.args.keeper.now) (service_of K.rows K.faults c.args.desk.now c.args.keeper.now) c.args.now c.trouble_reply.result c.args.request.now c.in-Err-Refused.refusal refl
          (subst (Refuses (asked c.args.request.now)) c.in-Err-Refused.field-0-is c.in-Err-Refused.ensures.err) c.trouble_reply.ensures;
      keeps = keeps_same g.D.Disk.tells g.D.Disk.history (λ o. said_of (g.O.Origin.says o)) c.args.desk.now c.args.desk.now refl;
      shows = none_asked g.D.Disk.tells K.tells g.D.Disk.history (λ o. said_of (g.O.Origin.says o)) (service_of K.rows K.faults c.args.desk.now c.args.keeper.now) (service_of K.rows K.faults c.args.desk.now c.args.keeper.now) c.args.request.now c.items-items.ensures.kept c.rows_rise.ensures.rising refl;
    }

pub returns-in-Err-Refused-clause-steps : goal.returns-in-Err-Refused-clause-steps
returns-in-Err-Refused-clause-steps g c = steps_same g.D.Disk.tells g.D.Disk.history g.D.Disk.faults g.D.Disk.far (λ o. said_of (g.O.Origin.says o)) c.args.desk.now

pub returns-in-Err-NoMemory-clause-answers : goal.returns-in-Err-NoMemory-clause-answers
returns-in-Err-NoMemory-clause-answers g c =
    let K = g.K.Keeper in
    record {
      answers = call_wanted K.tells g.D.Disk.faults (service_of K.rows K.faults c.args.desk.now c.args.keeper.now) (service_of K.rows K.faults c.args.desk.now c.args.keeper.now) c.args.now (Err (record {})) c.args.request.now refl refl;
      keeps = keeps_same g.D.Disk.tells g.D.Disk.history (λ o. said_of (g.O.Origin.says o)) c.args.desk.now c.args.desk.now refl;
      shows = none_asked g.D.Disk.tells K.tells g.D.Disk.history (λ o. said_of (g.O.Origin.says o)) (service_of K.rows K.faults c.args.desk.now c.args.keeper.now) (service_of K.rows K.faults c.args.desk.now c.args.keeper.now) c.args.request.now c.items-items.ensures.kept c.rows_rise.ensures.rising refl;
    }

pub returns-in-Err-NoMemory-clause-steps : goal.returns-in-Err-NoMemory-clause-steps
returns-in-Err-NoMemory-clause-steps g c = steps_same g.D.Disk.tells g.D.Disk.history g.D.Disk.faults g.D.Disk.far (λ o. said_of (g.O.Origin.says o)) c.args.desk.now
