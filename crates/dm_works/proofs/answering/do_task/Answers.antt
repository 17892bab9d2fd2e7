use Rattle.std.proofs.Common.{refl}
use Rattle.dm_store.specs.Origin.{said_of}
use Rattle.dm_service.specs.Replies.{page_by, report_by, stop_by}
use Rattle.dm_service.specs.declared.task.Task.TheVariants as tasks
use Rattle.dm_store.proofs.Keeping.{keeps_same}
use Rattle.dm_works.specs.Moving.{same}
use Rattle.dm_works.specs.Serving.{service_of}
use Rattle.dm_works.proofs.Recalled.{for_task, task_listed}
use Rattle.dm_works.proofs.Replying.{only_told}
use Rattle.dm_works.proofs.Stepping.{steps_same}
use Rattle.dm_works.proofs.Stops.{archive_task, none_task, rests_task}
use Rattle.dm_works.proofs.answering.do_task.Goals as goal

pub returns-in-Job-clause-answers : goal.returns-in-Job-clause-answers
returns-in-Job-clause-answers g c =
    let K = g.K.Keeper in
    let old = service_of K.rows K.faults c.args.desk.now c.args.keeper.now in
    let new = service_of K.rows K.faults c.do_job.new.desk c.args.keeper.now in
    for_task K.tells g.D.Disk.faults old new c.args.now c.do_job.result c.args.task (tasks.Job c.in-Job.job) c.in-Job.is
    (task_listed K.tells g.D.Disk.faults old new c.args.now c.do_job.result (tasks.Job c.in-Job.job) refl refl refl c.do_job.ensures.answers)

pub returns-in-Add-clause-answers : goal.returns-in-Add-clause-answers
returns-in-Add-clause-answers g c =
    let K = g.K.Keeper in
    for_task K.tells g.D.Disk.faults (service_of K.rows K.faults c.args.desk.now c.args.keeper.now) (service_of K.rows K.faults c.add_free.new.desk c.add_free.new.keeper) c.args.now c.add_free.result c.args.task (tasks.Add c.in-Add.order) c.in-Add.is c.add_free.ensures.answers

pub returns-in-Remove-clause-answers : goal.returns-in-Remove-clause-answers
returns-in-Remove-clause-answers g c =
    let K = g.K.Keeper in
    for_task K.tells g.D.Disk.faults (service_of K.rows K.faults c.args.desk.now c.args.keeper.now) (service_of K.rows K.faults c.remove_either.new.desk c.remove_either.new.keeper) c.args.now c.remove_either.result c.args.task (tasks.Remove c.in-Remove.id) c.in-Remove.is c.remove_either.ensures.answers

pub returns-in-Page-clause-answers : goal.returns-in-Page-clause-answers
returns-in-Page-clause-answers g c =
    let K = g.K.Keeper in
    let here = service_of K.rows K.faults c.args.desk.now c.args.keeper.now in
    for_task K.tells g.D.Disk.faults here here c.args.now c.show_page.result c.args.task (tasks.Page c.in-Page.window) c.in-Page.is
    (task_listed K.tells g.D.Disk.faults here here c.args.now c.show_page.result (tasks.Page c.in-Page.window) refl refl refl
    (only_told g.D.Disk.faults c.args.desk.now (page_by c.args.desk.now.items.items c.in-Page.window) c.show_page.result c.show_page.ensures))

pub returns-in-Page-clause-steps : goal.returns-in-Page-clause-steps
returns-in-Page-clause-steps g c = steps_same g.D.Disk.tells g.D.Disk.history g.D.Disk.faults g.D.Disk.far (λ o. said_of (g.O.Origin.says o)) c.args.desk.now

pub returns-in-Archive-clause-answers : goal.returns-in-Archive-clause-answers
returns-in-Archive-clause-answers g c =
    let K = g.K.Keeper in
    for_task K.tells g.D.Disk.faults (service_of K.rows K.faults c.args.desk.now c.args.keeper.now) (service_of K.rows K.faults c.archive.new.desk c.archive.new.keeper) c.args.now c.archive.result c.args.task tasks.Archive c.in-Archive.is (c.archive.ensures.answers c.args.now)

pub returns-in-History-clause-answers : goal.returns-in-History-clause-answers
returns-in-History-clause-answers g c =
    let K = g.K.Keeper in
    for_task K.tells g.D.Disk.faults (service_of K.rows K.faults c.args.desk.now c.args.keeper.now) (service_of K.rows K.faults c.args.desk.now c.show_rows.new.keeper) c.args.now c.show_rows.result c.args.task (tasks.History c.in-History.window) c.in-History.is (c.show_rows.ensures.answers c.args.now)

pub returns-in-History-clause-steps : goal.returns-in-History-clause-steps
returns-in-History-clause-steps g c = steps_same g.D.Disk.tells g.D.Disk.history g.D.Disk.faults g.D.Disk.far (λ o. said_of (g.O.Origin.says o)) c.args.desk.now

pub returns-in-Report-clause-answers : goal.returns-in-Report-clause-answers
returns-in-Report-clause-answers g c =
    let K = g.K.Keeper in
    let here = service_of K.rows K.faults c.args.desk.now c.args.keeper.now in
    for_task K.tells g.D.Disk.faults here here c.args.now c.show_report.result c.args.task tasks.Report c.in-Report.is
    (task_listed K.tells g.D.Disk.faults here here c.args.now c.show_report.result tasks.Report refl refl refl (only_told g.D.Disk.faults c.args.desk.now (report_by c.args.desk.now.items.items) c.show_report.result c.show_report.ensures))

pub returns-in-Report-clause-steps : goal.returns-in-Report-clause-steps
returns-in-Report-clause-steps g c = steps_same g.D.Disk.tells g.D.Disk.history g.D.Disk.faults g.D.Disk.far (λ o. said_of (g.O.Origin.says o)) c.args.desk.now

pub returns-in-Stop-clause-answers : goal.returns-in-Stop-clause-answers
returns-in-Stop-clause-answers g c =
    let K = g.K.Keeper in
    let here = service_of K.rows K.faults c.args.desk.now c.args.keeper.now in
    for_task K.tells g.D.Disk.faults here here c.args.now c.stop_reply.result c.args.task tasks.Stop c.in-Stop.is
    (task_listed K.tells g.D.Disk.faults here here c.args.now c.stop_reply.result tasks.Stop refl refl refl (only_told g.D.Disk.faults c.args.desk.now stop_by c.stop_reply.result c.stop_reply.ensures))

pub returns-in-Stop-clause-steps : goal.returns-in-Stop-clause-steps
returns-in-Stop-clause-steps g c = steps_same g.D.Disk.tells g.D.Disk.history g.D.Disk.faults g.D.Disk.far (λ o. said_of (g.O.Origin.says o)) c.args.desk.now

pub returns-in-Job-clause-shows : goal.returns-in-Job-clause-shows
returns-in-Job-clause-shows g c =
    let K = g.K.Keeper in
    rests_task g.D.Disk.tells K.tells g.D.Disk.history (λ o. said_of (g.O.Origin.says o)) (service_of K.rows K.faults c.args.desk.now c.args.keeper.now) (service_of K.rows K.faults c.do_job.new.desk c.args.keeper.now) c.args.task (tasks.Job c.in-Job.job) c.in-Job.is (λ entries. refl) c.requires.desk c.requires.rows
    c.do_job.ensures.steps.moved c.do_job.ensures.steps.keeps (λ drops knows. refl)

pub returns-in-Add-clause-shows : goal.returns-in-Add-clause-shows
returns-in-Add-clause-shows g c =
    let K = g.K.Keeper in
    rests_task g.D.Disk.tells K.tells g.D.Disk.history (λ o. said_of (g.O.Origin.says o)) (service_of K.rows K.faults c.args.desk.now c.args.keeper.now) (service_of K.rows K.faults c.add_free.new.desk c.add_free.new.keeper) c.args.task (tasks.Add c.in-Add.order) c.in-Add.is (λ entries. refl) c.requires.desk c.requires.rows
    c.add_free.ensures.steps.moved c.add_free.ensures.steps.keeps (λ drops knows. c.add_free.ensures.rows knows)

pub returns-in-Remove-clause-shows : goal.returns-in-Remove-clause-shows
returns-in-Remove-clause-shows g c =
    let K = g.K.Keeper in
    rests_task g.D.Disk.tells K.tells g.D.Disk.history (λ o. said_of (g.O.Origin.says o)) (service_of K.rows K.faults c.args.desk.now c.args.keeper.now) (service_of K.rows K.faults c.remove_either.new.desk c.remove_either.new.keeper) c.args.task (tasks.Remove c.in-Remove.id) c.in-Remove.is (λ entries. refl) c.requires.desk c.requires.rows
    c.remove_either.ensures.steps.moved c.remove_either.ensures.steps.keeps (λ drops knows. c.remove_either.ensures.rows drops)

pub returns-in-Archive-clause-shows : goal.returns-in-Archive-clause-shows
returns-in-Archive-clause-shows g c =
    let K = g.K.Keeper in
    archive_task g.D.Disk.tells K.tells g.D.Disk.history (λ o. said_of (g.O.Origin.says o)) (service_of K.rows K.faults c.args.desk.now c.args.keeper.now) (service_of K.rows K.faults c.archive.new.desk c.archive.new.keeper) c.args.task c.in-Archive.is c.archive.ensures.shows

pub returns-in-History-clause-shows : goal.returns-in-History-clause-shows
returns-in-History-clause-shows g c =
    let K = g.K.Keeper in
    rests_task g.D.Disk.tells K.tells g.D.Disk.history (λ o. said_of (g.O.Origin.says o)) (service_of K.rows K.faults c.args.desk.now c.args.keeper.now) (service_of K.rows K.faults c.args.desk.now c.show_rows.new.keeper) c.args.task (tasks.History c.in-History.window) c.in-History.is (λ entries. refl) c.requires.desk c.requires.rows
    (same refl) (keeps_same g.D.Disk.tells g.D.Disk.history (λ o. said_of (g.O.Origin.says o)) c.args.desk.now c.args.desk.now refl) (λ drops knows. c.show_rows.ensures.rows knows)

pub returns-in-Page-clause-shows : goal.returns-in-Page-clause-shows
returns-in-Page-clause-shows g c =
    let K = g.K.Keeper in
    none_task g.D.Disk.tells K.tells g.D.Disk.history (λ o. said_of (g.O.Origin.says o)) (service_of K.rows K.faults c.args.desk.now c.args.keeper.now) (service_of K.rows K.faults c.args.desk.now c.args.keeper.now) c.args.task c.requires.desk c.requires.rows refl

pub returns-in-Report-clause-shows : goal.returns-in-Report-clause-shows
returns-in-Report-clause-shows g c =
    let K = g.K.Keeper in
    none_task g.D.Disk.tells K.tells g.D.Disk.history (λ o. said_of (g.O.Origin.says o)) (service_of K.rows K.faults c.args.desk.now c.args.keeper.now) (service_of K.rows K.faults c.args.desk.now c.args.keeper.now) c.args.task c.requires.desk c.requires.rows refl

pub returns-in-Stop-clause-shows : goal.returns-in-Stop-clause-shows
returns-in-Stop-clause-shows g c =
    let K = g.K.Keeper in
    none_task g.D.Disk.tells K.tells g.D.Disk.history (λ o. said_of (g.O.Origin.says o)) (service_of K.rows K.faults c.args.desk.now c.args.keeper.now) (service_of K.rows K.faults c.args.desk.now c.args.keeper.now) c.args.task c.requires.desk c.requires.rows refl
