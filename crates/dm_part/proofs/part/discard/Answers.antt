use Rattle.dm_disk_model.specs.Disk.{now}
use Rattle.dm_disk_model.proofs.Keeping.{keeps_remove}
use Rattle.dm_part.proofs.Publication.{reads_removed}
use Rattle.dm_part.proofs.part.discard.Goals as goal

pub returns-clause-gone : goal.returns-clause-gone
returns-clause-gone g c tells = reads_removed c.args.part.now c.remove.result (now (g.D.Disk.history c.args.disk.now)) (now (g.D.Disk.history c.remove.new.self)) (c.remove.ensures.done tells).stepped

pub returns-clause-keeps : goal.returns-clause-keeps
returns-clause-keeps g c tells = keeps_remove c.args.part.now c.remove.result (g.D.Disk.history c.args.disk.now) (g.D.Disk.history c.remove.new.self) (c.remove.ensures.done tells)
