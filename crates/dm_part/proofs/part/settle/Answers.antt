use Rattle.dm_disk_model.specs.Disk.{now}
use Rattle.dm_part.proofs.Publication.{stands_synced}
use Rattle.dm_part.proofs.part.settle.Goals as goal

pub returns-clause-stands : goal.returns-clause-stands
returns-clause-stands g c tells = stands_synced c.args.part.now c.sync.result (now (g.D.Disk.history c.args.disk.now)) (now (g.D.Disk.history c.sync.new.self)) (c.sync.ensures.done tells).stepped
