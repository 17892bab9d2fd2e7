use Rattle.dm_store.specs.Origin.{said_of}
use Rattle.dm_attempt.specs.Trace.{with_saves}
use Rattle.dm_attempt.proofs.Closes.{ends_later, ends_refused}
use Rattle.dm_attempt.proofs.ending.end_by.Goals as goal

pub returns-in-Ok : goal.returns-in-Ok
returns-in-Ok g c = record {
  goes = λ scene trace came live. let D = g.S.D.Disk in
      let saved = c.in-Ok.ensures.goes scene trace live in
      ends_later D.tells D.history (λ o. said_of (g.S.O.Origin.says o)) D.far D.faults scene c.args.pass.now came (g.S.Desk.view c.interrupt.new.desk) trace saved.0 c.args.cause.now c.interrupt.result
      (c.interrupt.ensures.goes scene (with_saves trace saved.0) came saved.1);
}

pub returns-in-Err : goal.returns-in-Err
returns-in-Err g c = record {
  goes = λ scene trace came live. let D = g.S.D.Disk in
      let refused = c.in-Err.ensures.goes scene trace live in
      ends_refused D.tells D.history (λ o. said_of (g.S.O.Origin.says o)) D.far D.faults scene c.args.pass.now came (g.S.Desk.view c.save.new.desk) (g.S.Desk.view c.end_refused.new.desk) trace c.args.cause.now c.in-Err.stop c.end_refused.result refused
      (c.end_refused.ensures.goes scene trace came refused);
}
