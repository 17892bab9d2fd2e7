use Rattle.dm_store.specs.Origin.{said_of}
use Rattle.dm_list.proofs.Runs.{job_runs, refused_fixed, words_run}
use Rattle.dm_list.proofs.run.run_at.Goals as goal

pub fixed-requires : goal.fixed-requires
fixed-requires g c = refused_fixed c.args.words.now c.in-Err.verdict c.in-Err.ensures.refused

pub returns-in-Ok : goal.returns-in-Ok
returns-in-Ok g c =
    job_runs g.D.Disk.tells g.D.Disk.history g.D.Disk.faults g.D.Disk.far (λ o. said_of (g.N.O.Origin.says o)) g.N.Net.tells (g.N.Net.origin_of c.args.net.now) c.args.words.now c.args.at c.args.disk
    (g.N.Net.closed c.args.net.now) (g.N.Net.faults c.args.net.now) c.run_job.result.ending c.in-Ok.job c.in-Ok.ensures.ok c.run_job.result.disk (g.N.Net.closed c.run_job.new.net) (g.N.Net.faults c.run_job.new.net) c.run_job.ensures

pub returns-in-Err : goal.returns-in-Err
returns-in-Err g c =
    words_run g.D.Disk.tells g.D.Disk.history g.D.Disk.faults g.D.Disk.far (λ o. said_of (g.N.O.Origin.says o)) g.N.Net.tells (g.N.Net.origin_of c.args.net.now) c.args.words.now c.args.at c.args.disk (g.N.Net.closed c.args.net.now)
    (g.N.Net.faults c.args.net.now) c.fixed.result c.in-Err.verdict c.in-Err.ensures.refused c.fixed.ensures
