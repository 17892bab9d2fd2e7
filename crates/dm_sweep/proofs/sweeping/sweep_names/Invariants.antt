use Rattle.std.proofs.Common.{◌≡◌, vec_len}
use Rattle.dm_types.specs.Faults.{NoneFell}
use Rattle.dm_disk_model.specs.Beside.{Besides}
use Rattle.dm_disk_model.specs.Disk.{now}
use Rattle.dm_store.specs.Keeps.{Keeps}
use Rattle.dm_store.specs.Origin.{said_of}
use Rattle.dm_store.specs.Store.{IsStore, view_of}
use Rattle.dm_answers.specs.Sweep.{IsLeftover}
use Rattle.dm_sweep.proofs.Listed.{AreLeft}
use Rattle.dm_sweep.proofs.sweeping.sweep_names.Given as goal

-- so far nothing but the disk changed, and the leftover parts that still stand are among the names that are left
abbrev pub invariant-loop-name : goal.invariant-loop-name
invariant-loop-name g l =
    let D = g.D.Disk in
    record {
      store : IsStore D.tells D.history l.store;
      same : view_of l.store ≡ record (view_of l.initial.store) { disk = l.store.disk };
      keeps : Keeps D.tells D.history (λ o. said_of (g.O.Origin.says o)) (view_of l.initial.store) (view_of l.store);
      beside : D.tells → Besides (IsLeftover l.initial.store.items) (D.history l.initial.store.disk) (D.history l.store.disk);
      left : D.tells → AreLeft l.initial.store.items (now (D.history l.store.disk)).files l.left.items;
      far : D.far l.store.disk ≡ D.far l.initial.store.disk;
      later : NoneFell (D.faults l.initial.store.disk) (D.faults l.store.disk);
    }

abbrev pub decreases-loop-name : goal.decreases-loop-name
decreases-loop-name g l = vec_len l.left
