use Rattle.std.proofs.Common.{length}
use Rattle.dm_store.specs.Origin.{said_of}
use Rattle.dm_store.specs.Store.{IsStore, view_of}
use Rattle.dm_answers.specs.Shut.{shuts}
use Rattle.dm_land.proofs.Shutdown.{ShutSoFar}
use Rattle.dm_land.proofs.shutting.shut_all.Given as goal

abbrev pub invariant-items : goal.invariant-items
invariant-items g l = record {
  store : IsStore g.D.Disk.tells g.D.Disk.history l.store;
  so_far : ShutSoFar g.D.Disk.tells g.D.Disk.history g.D.Disk.faults g.D.Disk.far (λ o. said_of (g.O.Origin.says o)) (view_of l.initial.store) (view_of l.store);
}

abbrev pub decreases-items : goal.decreases-items
decreases-items g l = length (shuts l.store.items.items)
