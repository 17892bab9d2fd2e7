use Rattle.std.proofs.Common.{subst, sym, false}
use Rattle.std.proofs.lemmas.Bool.{false≢true}
use Rattle.dm_attempt.specs.declared.stop.Stop.{Stop}
use Rattle.dm_store.specs.Origin.{said_of}
use Rattle.dm_attempt.specs.Ending.{EndsBy, IsCauseOf}
use Rattle.dm_attempt.proofs.Closes.{fault_ends}
use Rattle.dm_attempt.proofs.ending.end_refused.Goals as goal

pub returns-in-Fault : goal.returns-in-Fault
returns-in-Fault g c = record {
  goes = λ scene trace came refused. let D = g.S.D.Disk in
      let leaves = rw c.in-Fault.is at refused in
      fault_ends D.tells D.history (λ o. said_of (g.S.O.Origin.says o)) D.far D.faults scene c.args.pass.now false came (λ never. absurd (false≢true never)) (g.S.Desk.view c.args.desk.now) trace
      (λ cause. IsCauseOf came D.tells D.history (λ o. said_of (g.S.O.Origin.says o)) D.far D.faults scene c.args.pass.now trace c.args.stop cause) c.in-Fault.fault leaves;
}

pub returns-in-Recorded : goal.returns-in-Recorded
returns-in-Recorded g c = record { goes = λ scene trace came refused. let none = rw c.in-Recorded.is at refused in absurd none }

pub returns-in-Broke : goal.returns-in-Broke
returns-in-Broke g c = record { goes = λ scene trace came refused. let none = rw c.in-Broke.is at refused in absurd none }

pub returns-in-NoMemory : goal.returns-in-NoMemory
returns-in-NoMemory g c = record {
  goes = λ scene trace came refused. let D = g.S.D.Disk in
      let live = rw c.in-NoMemory.is at refused in
      subst (λ (s : Stop). EndsBy came D.tells D.history (λ o. said_of (g.S.O.Origin.says o)) D.far D.faults scene c.args.pass.now (g.S.Desk.view c.wanting.new.desk) trace s c.wanting.result) (sym c.in-NoMemory.is)
      (c.wanting.ensures.goes scene trace came live);
}
