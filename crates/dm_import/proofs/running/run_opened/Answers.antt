use Rattle.std.proofs.Common.{inl, inr, Err, refl, ap}
use Rattle.dm_types.specs.declared.item.Limits.{Limits}
use Rattle.dm_store.specs.Origin.{said_of}
use Rattle.dm_list.proofs.Ended.{job_refused}
use Rattle.dm_import.proofs.running.run_opened.Goals as goal

pub returns-in-Ok : goal.returns-in-Ok
returns-in-Ok g c = inl (record {
  opened = c.in-Ok.desk;
  ended = c.work-ending.new.desk;
  end_is = c.into_disk.ensures;
  origin_is = c.in-Ok.ensures.answers.0.origin_is;
  limit = c.in-Ok.ensures.answers.0.limit;
  limits = ap (λ (l : Limits). l.items) c.in-Ok.ensures.answers.0.limits_are;
  is = c.in-Ok.ensures.answers.1;
  beside = c.in-Ok.ensures.beside;
  on = λ sees. c.in-Ok.ensures.on sees c.in-Ok.ensures.answers.1.found (c.in-Ok.ensures.answers.1.tried.reads sees);
  later = c.in-Ok.ensures.cause.later;
  worked = c.work-ending.ensures.worked;
  goes = c.work-ending.ensures.goes;
  rest = c.work-ending.ensures.rest;
})

pub returns-in-Err : goal.returns-in-Err
returns-in-Err g c =
    inr (
      job_refused g.D.Disk.tells g.D.Disk.history g.D.Disk.faults g.D.Disk.far (said_of (g.O.Origin.says c.args.origin)) c.args.at c.args.disk c.refuse.result.disk c.refuse.result.ending c.in-Err.fault (Err c.in-Err.fault) refl
          c.refuse.ensures.disk c.refuse.ensures.says c.in-Err.ensures.refused c.in-Err.ensures.beside c.in-Err.ensures.cause,
      refl,
    )
