use Rattle.std.proofs.Common.{inl, inr, Err, refl, sym, ◌∙◌}
use Rattle.dm_store.specs.Origin.{said_of}
use Rattle.dm_list.proofs.Ended.{job_at, job_refused}
use Rattle.dm_list.proofs.Quiet.{no_life, none_runs}
use Rattle.dm_list.proofs.running.run_job.Goals as goal

pub work-ending-requires-clause-idle : goal.work-ending-requires-clause-idle
work-ending-requires-clause-idle g c =
    let opened = c.in-Ok.ensures.answers.1 in
    no_life g.D.Disk.tells g.D.Disk.history c.in-Ok.desk c.in-Ok.ensures.kept opened.whole
    (none_runs g.D.Disk.tells (g.D.Disk.history c.args.disk) (g.D.Disk.history c.in-Ok.desk.disk) c.args.at opened.found c.in-Ok.desk.list _ c.in-Ok.desk.items opened.tried opened.items)

pub work-ending-requires-clause-origin : goal.work-ending-requires-clause-origin
work-ending-requires-clause-origin g c = sym (c.in-Ok.ensures.answers.0.origin_is ∙ c.origin.ensures)

pub returns-in-Ok : goal.returns-in-Ok
returns-in-Ok g c =
    let N = g.N.Net in
    job_at g.D.Disk.tells g.D.Disk.history g.D.Disk.faults g.D.Disk.far (λ o. said_of (g.N.O.Origin.says o)) N.tells c.origin.result (N.origin_of c.args.net.now) c.args.job c.args.at c.args.disk c.into_disk.result (N.closed c.args.net.now)
    (N.closed c.work-ending.new.net) (N.faults c.args.net.now) (N.faults c.work-ending.new.net) c.work-ending.result c.origin.ensures
    (inl (record {
      opened = c.in-Ok.desk;
      ended = c.work-ending.new.desk;
      end_is = c.into_disk.ensures;
      origin_is = c.in-Ok.ensures.answers.0.origin_is;
      limit = c.in-Ok.ensures.answers.0.limit;
      limits = c.in-Ok.ensures.answers.0.limits_are;
      is = c.in-Ok.ensures.answers.1;
      beside = c.in-Ok.ensures.beside;
      on = λ told. c.in-Ok.ensures.on told c.in-Ok.ensures.answers.1.found (c.in-Ok.ensures.answers.1.tried.reads told);
      later = c.in-Ok.ensures.cause.later;
      worked = c.work-ending.ensures;
    }))

pub returns-in-Err : goal.returns-in-Err
returns-in-Err g c =
    let N = g.N.Net in
    job_at g.D.Disk.tells g.D.Disk.history g.D.Disk.faults g.D.Disk.far (λ o. said_of (g.N.O.Origin.says o)) N.tells c.origin.result (N.origin_of c.args.net.now) c.args.job c.args.at c.args.disk c.refuse.result.disk (N.closed c.args.net.now)
    (N.closed c.args.net.now) (N.faults c.args.net.now) (N.faults c.args.net.now) c.refuse.result.ending c.origin.ensures
    (inr (
      job_refused g.D.Disk.tells g.D.Disk.history g.D.Disk.faults g.D.Disk.far (said_of (g.N.O.Origin.says c.origin.result)) c.args.at c.args.disk c.refuse.result.disk c.refuse.result.ending c.in-Err.fault (Err c.in-Err.fault) refl
          c.refuse.ensures.disk c.refuse.ensures.says c.in-Err.ensures.refused c.in-Err.ensures.beside c.in-Err.ensures.cause,
      refl,
      refl,
    ))
