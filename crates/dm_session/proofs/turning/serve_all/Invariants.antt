use Rattle.dm_types.specs.Faults.{NoneFell}
use Rattle.dm_store.specs.Keeps.{IsDesk}
use Rattle.dm_store.specs.Origin.{said_of}
use Rattle.dm_does.specs.Printing.{SameCounts}
use Rattle.dm_works.specs.Moving.{Steps}
use Rattle.dm_works.specs.Serving.{service_of}
use Rattle.dm_session.specs.Serving.{AnswersAt, IsTold}
use Rattle.dm_session.proofs.Turned.{SoFar}
use Rattle.dm_session.proofs.turning.serve_all.Given as goal

abbrev pub invariant-turns : goal.invariant-turns
invariant-turns g l = record {
  kept : IsDesk g.D.Disk.tells g.D.Disk.history l.desk;
  so_far : SoFar g.X.Conns.tells (AnswersAt (IsTold g.C.Clock.tells g.C.Clock.next) g.D.Disk.tells g.K.Keeper.tells g.D.Disk.history g.D.Disk.faults (λ o. said_of (g.O.Origin.says o))) (service_of g.K.Keeper.rows g.K.Keeper.faults l.initial.desk l.initial.keeper) (service_of g.K.Keeper.rows g.K.Keeper.faults l.desk l.keeper) (g.X.Conns.over l.initial.conns) (g.X.Conns.over l.conns) (g.X.Conns.served l.initial.conns) (g.X.Conns.served l.conns) l.requests l.left;
  steps : Steps g.D.Disk.tells g.D.Disk.history g.D.Disk.faults g.D.Disk.far (λ o. said_of (g.O.Origin.says o)) l.initial.desk l.desk;
  later : NoneFell (g.X.Conns.faults l.initial.conns) (g.X.Conns.faults l.conns);
  accepts : SameCounts (g.X.Conns.faults l.initial.conns) (g.X.Conns.faults l.conns);
}

abbrev pub decreases-turns : goal.decreases-turns
decreases-turns g l = l.left
