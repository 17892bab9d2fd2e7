use Rattle.dm_store.specs.Origin.{said_of}
use Rattle.dm_list.proofs.Courses.{goes_same}
use Rattle.dm_list.proofs.Going.{went_none}
use Rattle.dm_list.proofs.working.sweep_if.Goals as goal

pub returns-else-sweeps-clause-went : goal.returns-else-sweeps-clause-went
returns-else-sweeps-clause-went g c whole = went_none c.args.desk.now c.args.desk.now.disk whole (c.requires.desk.failed whole)

pub returns-else-sweeps-clause-goes : goal.returns-else-sweeps-clause-goes
returns-else-sweeps-clause-goes g c = goes_same g.D.Disk.tells g.D.Disk.history g.D.Disk.faults g.D.Disk.far (λ o. said_of (g.O.Origin.says o)) c.args.desk.now
