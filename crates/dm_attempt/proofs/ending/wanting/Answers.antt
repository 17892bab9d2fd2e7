use Rattle.std.proofs.Common.{inl, refl}
use Rattle.dm_store.specs.Origin.{said_of}
use Rattle.dm_types.specs.Name.{IsPart}
use Rattle.dm_disk_model.proofs.Beside.{besides_same}
use Rattle.dm_policy.specs.declared.cause.Cause.TheVariants as causes
use Rattle.dm_attempt.specs.Shows.{NoCause}
use Rattle.dm_attempt.proofs.Closes.{broke_fault, broke_over}
use Rattle.dm_attempt.proofs.ending.wanting.Goals as goal

pub returns-in-Ok : goal.returns-in-Ok
returns-in-Ok g c = record {
  goes = λ scene trace came live. let D = g.S.D.Disk in
      let view = g.S.Desk.view in
      let old = view c.args.desk.now in
      let new = view c.broke.new.self in
      (trace.saves, broke_over D.tells D.history (λ o. said_of (g.S.O.Origin.says o)) D.far D.faults scene c.args.pass.now old new (record { keeps = c.broke.ensures.keeps; near = c.broke.ensures.far; later = c.broke.ensures.cause.later; beside = λ t. besides_same IsPart (D.history old.disk) (D.history new.disk) (c.broke.ensures.beside t) }) trace live causes.Memory c.in-Ok.ensures.answers);
}

pub returns-in-Err : goal.returns-in-Err
returns-in-Err g c = record {
  goes = λ scene trace came live. let D = g.S.D.Disk in
      let view = g.S.Desk.view in
      let old = view c.args.desk.now in
      let new = view c.broke.new.self in
      broke_fault D.tells D.history (λ o. said_of (g.S.O.Origin.says o)) D.far D.faults scene c.args.pass.now old new (record { keeps = c.broke.ensures.keeps; near = c.broke.ensures.far; later = c.broke.ensures.cause.later; beside = λ t. besides_same IsPart (D.history old.disk) (D.history new.disk) (c.broke.ensures.beside t) }) trace live causes.Memory came NoCause (inl refl) c.in-Err.fault c.in-Err.ensures.answers c.in-Err.ensures.cause.cause;
}
