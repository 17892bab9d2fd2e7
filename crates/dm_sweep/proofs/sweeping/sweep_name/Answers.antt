use Rattle.std.proofs.Common.{List, ℕ, refl, subst}
use Rattle.dm_disk_model.specs.Disk.{now}
use Rattle.dm_store.specs.Origin.{said_of}
use Rattle.dm_store.specs.Store.{view_of}
use Rattle.dm_store.proofs.Keeping.{keeps_same}
use Rattle.dm_answers.specs.Sweep.{IsLeftover}
use Rattle.dm_sweep.proofs.Swept.{names_beside, swept_beside, swept_desk, swept_keeps}
use Rattle.dm_sweep.proofs.sweeping.sweep_name.Goals as goal

pub returns-in-Ok-clause-keeps : goal.returns-in-Ok-clause-keeps
returns-in-Ok-clause-keeps g c =
    let left = subst (IsLeftover c.args.store.now.items) c.bytes.ensures (c.is_leftover.ensures.0 c.if-is_leftover.true) in
    swept_keeps g.D.Disk.tells g.D.Disk.history (λ o. said_of (g.O.Origin.says o)) (view_of c.args.store.now) c.discard.new.disk c.requires.store.desk c.requires.whole c.args.name left c.discard.result c.discard.ensures.done

pub returns-in-Ok-clause-store : goal.returns-in-Ok-clause-store
returns-in-Ok-clause-store g c =
    let left = subst (IsLeftover c.args.store.now.items) c.bytes.ensures (c.is_leftover.ensures.0 c.if-is_leftover.true) in
    record {
      desk = swept_desk g.D.Disk.tells g.D.Disk.history (λ o. said_of (g.O.Origin.says o)) (view_of c.args.store.now) c.discard.new.disk c.requires.store.desk c.requires.whole c.args.name left c.discard.result c.discard.ensures.done;
      room = c.requires.store.room;
    }

pub returns-in-Ok-clause-others : goal.returns-in-Ok-clause-others
returns-in-Ok-clause-others g c told =
    names_beside c.args.name c.discard.result (now (g.D.Disk.history c.args.store.now.disk)) (now (g.D.Disk.history c.discard.new.disk)) (c.discard.ensures.done told).stepped

pub returns-in-Ok-clause-beside : goal.returns-in-Ok-clause-beside
returns-in-Ok-clause-beside g c told =
    let left = subst (IsLeftover c.args.store.now.items) c.bytes.ensures (c.is_leftover.ensures.0 c.if-is_leftover.true) in
    swept_beside g.D.Disk.tells g.D.Disk.history (λ o. said_of (g.O.Origin.says o)) (view_of c.args.store.now) c.discard.new.disk c.requires.store.desk c.requires.whole c.args.name left c.discard.result c.discard.ensures.done
    (λ tells. g.met.D.Disk.sound tells c.args.store.now.disk (g.D.Disk.history c.args.store.now.disk).moment) told

pub returns-then-is_leftover-clause-keeps : goal.returns-then-is_leftover-clause-keeps
returns-then-is_leftover-clause-keeps g c =
    let left = subst (IsLeftover c.args.store.now.items) c.bytes.ensures (c.is_leftover.ensures.0 c.if-is_leftover.true) in
    swept_keeps g.D.Disk.tells g.D.Disk.history (λ o. said_of (g.O.Origin.says o)) (view_of c.args.store.now) c.discard.new.disk c.requires.store.desk c.requires.whole c.args.name left c.discard.result c.discard.ensures.done

pub returns-then-is_leftover-clause-store : goal.returns-then-is_leftover-clause-store
returns-then-is_leftover-clause-store g c =
    let left = subst (IsLeftover c.args.store.now.items) c.bytes.ensures (c.is_leftover.ensures.0 c.if-is_leftover.true) in
    record {
      desk = swept_desk g.D.Disk.tells g.D.Disk.history (λ o. said_of (g.O.Origin.says o)) (view_of c.args.store.now) c.discard.new.disk c.requires.store.desk c.requires.whole c.args.name left c.discard.result c.discard.ensures.done;
      room = c.requires.store.room;
    }

pub returns-then-is_leftover-clause-others : goal.returns-then-is_leftover-clause-others
returns-then-is_leftover-clause-others g c told =
    names_beside c.args.name c.discard.result (now (g.D.Disk.history c.args.store.now.disk)) (now (g.D.Disk.history c.discard.new.disk)) (c.discard.ensures.done told).stepped

pub returns-then-is_leftover-clause-beside : goal.returns-then-is_leftover-clause-beside
returns-then-is_leftover-clause-beside g c told =
    let left = subst (IsLeftover c.args.store.now.items) c.bytes.ensures (c.is_leftover.ensures.0 c.if-is_leftover.true) in
    swept_beside g.D.Disk.tells g.D.Disk.history (λ o. said_of (g.O.Origin.says o)) (view_of c.args.store.now) c.discard.new.disk c.requires.store.desk c.requires.whole c.args.name left c.discard.result c.discard.ensures.done
    (λ tells. g.met.D.Disk.sound tells c.args.store.now.disk (g.D.Disk.history c.args.store.now.disk).moment) told

pub returns-clause-keeps : goal.returns-clause-keeps
returns-clause-keeps g c = keeps_same g.D.Disk.tells g.D.Disk.history (λ o. said_of (g.O.Origin.says o)) (view_of c.args.store.now) (view_of c.args.store.now) refl
