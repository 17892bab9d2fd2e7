use Rattle.std.proofs.Common.{◌≡◌, inl, inr, refl}
use Rattle.dm_store.specs.Origin.{said_of}
use Rattle.dm_types.specs.Name.{IsPart}
use Rattle.dm_disk_model.proofs.Beside.{besides_same}
use Rattle.dm_attempt.proofs.Closes.{all_saved, broke_fault, broke_over}
use Rattle.dm_attempt.proofs.ending.interrupt.Goals as goal

pub returns-in-Ok : goal.returns-in-Ok
returns-in-Ok g c = record {
  goes = λ scene trace came live. let D = g.S.D.Disk in
      let view = g.S.Desk.view in
      let old = view c.args.desk.now in
      let new = view c.broke.new.self in
      record {
        cause = c.args.cause.now;
        reason_is = c.reason_of.ensures;
        of = refl;
        saves = trace.saves;
        saved = all_saved D.tells D.history (λ o. said_of (g.S.O.Origin.says o)) D.far D.faults scene c.args.pass.now old new (record { keeps = c.broke.ensures.keeps; near = c.broke.ensures.far; later = c.broke.ensures.cause.later; beside = λ t. besides_same IsPart (D.history old.disk) (D.history new.disk) (c.broke.ensures.beside t) }) trace live c.args.cause.now c.broke.ensures.was c.requires.none;
        over = broke_over D.tells D.history (λ o. said_of (g.S.O.Origin.says o)) D.far D.faults scene c.args.pass.now old new (record { keeps = c.broke.ensures.keeps; near = c.broke.ensures.far; later = c.broke.ensures.cause.later; beside = λ t. besides_same IsPart (D.history old.disk) (D.history new.disk) (c.broke.ensures.beside t) }) trace live c.args.cause.now c.in-Ok.ensures.answers;
      };
}

pub returns-in-Err : goal.returns-in-Err
returns-in-Err g c = record {
  goes = λ scene trace came live. let D = g.S.D.Disk in
      let view = g.S.Desk.view in
      let old = view c.args.desk.now in
      let new = view c.broke.new.self in
      broke_fault D.tells D.history (λ o. said_of (g.S.O.Origin.says o)) D.far D.faults scene c.args.pass.now old new (record { keeps = c.broke.ensures.keeps; near = c.broke.ensures.far; later = c.broke.ensures.cause.later; beside = λ t. besides_same IsPart (D.history old.disk) (D.history new.disk) (c.broke.ensures.beside t) }) trace live c.args.cause.now came (λ cause. cause ≡ c.args.cause.now) (inr (inl refl)) c.in-Err.fault c.in-Err.ensures.answers c.in-Err.ensures.cause.cause;
}
