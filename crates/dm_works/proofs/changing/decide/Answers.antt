use Rattle.std.proofs.Common.{Ok}
use Rattle.dm_report.specs.declared.verdict.Verdict.TheVariants as verdicts
use Rattle.dm_does.specs.declared.course.Course.TheVariants.{Ends}
use Rattle.dm_does.specs.declared.course.Show.TheVariants.{Lines}
use Rattle.dm_store.specs.Origin.{said_of}
use Rattle.dm_does.specs.declared.job.Job.TheVariants as jobs
use Rattle.dm_does.specs.Doing.{does}
use Rattle.dm_does.proofs.Decisions.{given_of}
use Rattle.dm_works.proofs.Settling.{for_now, list_now, look_now}
use Rattle.dm_works.proofs.Stepping.{steps_same}
use Rattle.dm_works.proofs.changing.decide.Goals as goal

pub returns-in-List-clause-decides : goal.returns-in-List-clause-decides
returns-in-List-clause-decides g c =
    for_now g.D.Disk.faults c.args.desk.now c.args.desk.now c.args.at c.args.job jobs.List (Ok (Ends verdicts.Done Lines)) c.in-List.is (look_now g.D.Disk.faults (does jobs.List (given_of c.args.desk.now c.args.at)) c.args.desk.now (Ends verdicts.Done Lines) (list_now g.D.Disk.faults c.args.desk.now c.args.at))

pub returns-in-List-clause-steps : goal.returns-in-List-clause-steps
returns-in-List-clause-steps g c = steps_same g.D.Disk.tells g.D.Disk.history g.D.Disk.faults g.D.Disk.far (λ o. said_of (g.O.Origin.says o)) c.args.desk.now

pub returns-in-Show-clause-steps : goal.returns-in-Show-clause-steps
returns-in-Show-clause-steps g c = steps_same g.D.Disk.tells g.D.Disk.history g.D.Disk.faults g.D.Disk.far (λ o. said_of (g.O.Origin.says o)) c.args.desk.now

pub returns-in-Show-clause-decides : goal.returns-in-Show-clause-decides
returns-in-Show-clause-decides g c =
    for_now g.D.Disk.faults c.args.desk.now c.args.desk.now c.args.at c.args.job (jobs.Show c.in-Show.id) (Ok c.show.result) c.in-Show.is
    (look_now g.D.Disk.faults (does (jobs.Show c.in-Show.id) (given_of c.args.desk.now c.args.at)) c.args.desk.now c.show.result (c.show.ensures c.args.at))

pub returns-in-Add-clause-decides : goal.returns-in-Add-clause-decides
returns-in-Add-clause-decides g c = for_now g.D.Disk.faults c.args.desk.now c.add.new.desk c.args.at c.args.job (jobs.Add c.in-Add.order) c.add.result c.in-Add.is c.add.ensures.decides

pub returns-in-Pause-clause-decides : goal.returns-in-Pause-clause-decides
returns-in-Pause-clause-decides g c = for_now g.D.Disk.faults c.args.desk.now c.pause.new.desk c.args.at c.args.job (jobs.Pause c.in-Pause.id) c.pause.result c.in-Pause.is (c.pause.ensures.decides c.args.at)

pub returns-in-Resume-clause-decides : goal.returns-in-Resume-clause-decides
returns-in-Resume-clause-decides g c = for_now g.D.Disk.faults c.args.desk.now c.resume.new.desk c.args.at c.args.job (jobs.Resume c.in-Resume.id c.in-Resume.slices) c.resume.result c.in-Resume.is (c.resume.ensures.decides c.args.at)

pub returns-in-Cancel-clause-decides : goal.returns-in-Cancel-clause-decides
returns-in-Cancel-clause-decides g c = for_now g.D.Disk.faults c.args.desk.now c.cancel.new.desk c.args.at c.args.job (jobs.Cancel c.in-Cancel.id) c.cancel.result c.in-Cancel.is (c.cancel.ensures.decides c.args.at)

pub returns-in-Remove-clause-decides : goal.returns-in-Remove-clause-decides
returns-in-Remove-clause-decides g c = for_now g.D.Disk.faults c.args.desk.now c.remove.new.desk c.args.at c.args.job (jobs.Remove c.in-Remove.id) c.remove.result c.in-Remove.is (c.remove.ensures.decides c.args.at)
