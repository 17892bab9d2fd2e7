use Rattle.std.proofs.Common.{length}
use Rattle.dm_store.specs.Keeps.{IsDesk}
use Rattle.dm_store.specs.Origin.{said_of}
use Rattle.dm_archive.specs.Moving.{overs}
use Rattle.dm_archive.proofs.Moves.{SoFar}
use Rattle.dm_archive.proofs.moving.archive_all.Given as goal

abbrev pub invariant-moves : goal.invariant-moves
invariant-moves g l = record {
  kept : IsDesk g.D.Disk.tells g.D.Disk.history l.desk;
  so_far : SoFar g.D.Disk.tells g.K.Keeper.tells g.D.Disk.history g.D.Disk.faults g.D.Disk.far (λ o. said_of (g.O.Origin.says o)) l.initial.desk l.desk (g.K.Keeper.rows l.initial.keeper) (g.K.Keeper.rows l.keeper) (g.K.Keeper.faults l.initial.keeper)
      (g.K.Keeper.faults l.keeper);
}

abbrev pub decreases-moves : goal.decreases-moves
decreases-moves g l = length (overs l.desk.items.items)
