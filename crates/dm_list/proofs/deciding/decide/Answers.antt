use Rattle.dm_store.specs.Origin.{said_of}
use Rattle.dm_does.specs.declared.job.Job.TheVariants as jobs
use Rattle.dm_list.proofs.Courses.{for_job, goes_same, list_decided, export_decided, report_decided}
use Rattle.dm_list.proofs.deciding.decide.Goals as goal

pub returns-in-List-clause-decides : goal.returns-in-List-clause-decides
returns-in-List-clause-decides g c = for_job c.args.desk.now c.args.desk.now c.args.at c.args.job jobs.List _ c.in-List.is (list_decided c.args.desk.now c.args.at)

pub returns-in-List-clause-goes : goal.returns-in-List-clause-goes
returns-in-List-clause-goes g c = goes_same g.D.Disk.tells g.D.Disk.history g.D.Disk.faults g.D.Disk.far (λ o. said_of (g.O.Origin.says o)) c.args.desk.now

pub returns-in-Report-clause-decides : goal.returns-in-Report-clause-decides
returns-in-Report-clause-decides g c = for_job c.args.desk.now c.args.desk.now c.args.at c.args.job jobs.Report _ c.in-Report.is (report_decided c.args.desk.now c.args.at)

pub returns-in-Report-clause-goes : goal.returns-in-Report-clause-goes
returns-in-Report-clause-goes g c = goes_same g.D.Disk.tells g.D.Disk.history g.D.Disk.faults g.D.Disk.far (λ o. said_of (g.O.Origin.says o)) c.args.desk.now

pub returns-in-Export-clause-decides : goal.returns-in-Export-clause-decides
returns-in-Export-clause-decides g c = for_job c.args.desk.now c.args.desk.now c.args.at c.args.job jobs.Export _ c.in-Export.is (export_decided c.args.desk.now c.args.at)

pub returns-in-Export-clause-goes : goal.returns-in-Export-clause-goes
returns-in-Export-clause-goes g c = goes_same g.D.Disk.tells g.D.Disk.history g.D.Disk.faults g.D.Disk.far (λ o. said_of (g.O.Origin.says o)) c.args.desk.now

pub returns-in-Show-clause-goes : goal.returns-in-Show-clause-goes
returns-in-Show-clause-goes g c = goes_same g.D.Disk.tells g.D.Disk.history g.D.Disk.faults g.D.Disk.far (λ o. said_of (g.O.Origin.says o)) c.args.desk.now

pub returns-in-Show-clause-decides : goal.returns-in-Show-clause-decides
returns-in-Show-clause-decides g c = for_job c.args.desk.now c.args.desk.now c.args.at c.args.job (jobs.Show c.in-Show.id) c.show.result c.in-Show.is (c.show.ensures.decides c.args.at)

pub returns-in-Pause-clause-decides : goal.returns-in-Pause-clause-decides
returns-in-Pause-clause-decides g c = for_job c.args.desk.now c.pause.new.desk c.args.at c.args.job (jobs.Pause c.in-Pause.id) c.pause.result c.in-Pause.is (c.pause.ensures.decides c.args.at)

pub returns-in-Cancel-clause-decides : goal.returns-in-Cancel-clause-decides
returns-in-Cancel-clause-decides g c = for_job c.args.desk.now c.cancel.new.desk c.args.at c.args.job (jobs.Cancel c.in-Cancel.id) c.cancel.result c.in-Cancel.is (c.cancel.ensures.decides c.args.at)

pub returns-in-Remove-clause-decides : goal.returns-in-Remove-clause-decides
returns-in-Remove-clause-decides g c = for_job c.args.desk.now c.remove.new.desk c.args.at c.args.job (jobs.Remove c.in-Remove.id) c.remove.result c.in-Remove.is (c.remove.ensures.decides c.args.at)

pub returns-in-Resume-clause-decides : goal.returns-in-Resume-clause-decides
returns-in-Resume-clause-decides g c = for_job c.args.desk.now c.resume.new.desk c.args.at c.args.job (jobs.Resume c.in-Resume.id c.in-Resume.slices) c.resume.result c.in-Resume.is (c.resume.ensures.decides c.args.at)
