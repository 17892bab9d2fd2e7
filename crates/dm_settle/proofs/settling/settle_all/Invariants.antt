use Rattle.std.proofs.Common.{length}
use Rattle.dm_types.specs.Faults.{NoneFell}
use Rattle.dm_disk_model.specs.Beside.{Besides}
use Rattle.dm_store.specs.Keeps.{StaysNear}
use Rattle.dm_store.specs.Origin.{said_of}
use Rattle.dm_store.specs.Store.{IsStore, view_of}
use Rattle.dm_answers.specs.Settling.{finishing}
use Rattle.dm_settle.specs.Settled.{IsPartOrGiven}
use Rattle.dm_settle.proofs.All.{SoFarSettled}
use Rattle.dm_settle.proofs.settling.settle_all.Given as goal

-- so far each of the first items was settled, and nothing of the others changed
abbrev pub invariant-items : goal.invariant-items
invariant-items g l =
    let D = g.D.Disk in
    record {
      store : IsStore D.tells D.history l.store;
      so_far : SoFarSettled D.tells D.history (λ o. said_of (g.O.Origin.says o)) (view_of l.initial.store) (view_of l.store) l.names l.at;
      beside : D.tells → Besides (IsPartOrGiven D.history (view_of l.initial.store)) (D.history l.initial.store.disk) (D.history l.store.disk);
      later : NoneFell (D.faults l.initial.store.disk) (D.faults l.store.disk);
      near : StaysNear (D.far l.initial.store.disk) (D.far l.store.disk) (view_of l.initial.store) (view_of l.store);
    }

abbrev pub decreases-items : goal.decreases-items
decreases-items g l = length (finishing l.store.items.items)
