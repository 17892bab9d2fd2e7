use Rattle.std.proofs.Common.{sym, subst}
use Rattle.dm_store.specs.Origin.{said_of}
use Rattle.dm_attempt.specs.declared.ended.Ended.TheVariants as ended
use Rattle.dm_attempt.specs.declared.stop.Stop.{Stop}
use Rattle.dm_attempt.specs.Ending.{EndsBy, IsCauseOf}
use Rattle.dm_attempt.proofs.Closes.{fault_ends, recorded_ends}
use Rattle.dm_attempt.proofs.ending.end.Goals as goal

pub returns-in-Fault : goal.returns-in-Fault
returns-in-Fault g c = record {
  goes = λ scene trace came holds. let D = g.S.D.Disk in
      let leaves = rw c.in-Fault.is at holds in
      fault_ends D.tells D.history (λ o. said_of (g.S.O.Origin.says o)) D.far D.faults scene c.args.pass.now came came (λ t. t) (g.S.Desk.view c.args.desk.now) trace
      (λ cause. IsCauseOf came D.tells D.history (λ o. said_of (g.S.O.Origin.says o)) D.far D.faults scene c.args.pass.now trace c.args.stop cause) c.in-Fault.fault leaves;
}

pub returns-in-Recorded : goal.returns-in-Recorded
returns-in-Recorded g c = record {
  goes = λ scene trace came holds. let D = g.S.D.Disk in
      let found = rw c.in-Recorded.is at holds in
      subst (λ (s : Stop). EndsBy came D.tells D.history (λ o. said_of (g.S.O.Origin.says o)) D.far D.faults scene c.args.pass.now (g.S.Desk.view c.args.desk.now) trace s (ended.Stopped c.in-Recorded.reason)) (sym c.in-Recorded.is)
      (recorded_ends D.tells D.history (λ o. said_of (g.S.O.Origin.says o)) D.far D.faults scene c.args.pass.now came (g.S.Desk.view c.args.desk.now) trace c.in-Recorded.reason found);
}

pub returns-in-Broke : goal.returns-in-Broke
returns-in-Broke g c = record {
  goes = λ scene trace came holds. let D = g.S.D.Disk in
      let live = rw c.in-Broke.is at holds in
      subst (λ (s : Stop). EndsBy came D.tells D.history (λ o. said_of (g.S.O.Origin.says o)) D.far D.faults scene c.args.pass.now (g.S.Desk.view c.end_by.new.desk) trace s c.end_by.result) (sym c.in-Broke.is)
      (c.end_by.ensures.goes scene trace came live);
}

pub returns-in-NoMemory : goal.returns-in-NoMemory
returns-in-NoMemory g c = record {
  goes = λ scene trace came holds. let D = g.S.D.Disk in
      let live = rw c.in-NoMemory.is at holds in
      subst (λ (s : Stop). EndsBy came D.tells D.history (λ o. said_of (g.S.O.Origin.says o)) D.far D.faults scene c.args.pass.now (g.S.Desk.view c.wanting.new.desk) trace s c.wanting.result) (sym c.in-NoMemory.is)
      (c.wanting.ensures.goes scene trace came live);
}
