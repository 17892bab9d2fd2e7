use Rattle.dm_disk_model.specs.Disk.{now}
use Rattle.dm_disk_model.proofs.Keeping.{keeps_write}
use Rattle.dm_part.proofs.Publication.{stands_written}
use Rattle.dm_part.proofs.part.put.Goals as goal

pub returns-clause-stands : goal.returns-clause-stands
returns-clause-stands g c tells = stands_written c.args.part.now c.args.at c.args.piece.now c.write_at.result (now (g.D.Disk.history c.args.disk.now)) (now (g.D.Disk.history c.write_at.new.self)) (c.write_at.ensures.done tells).stepped

pub returns-clause-keeps : goal.returns-clause-keeps
returns-clause-keeps g c tells =
    let history = g.D.Disk.history in
    keeps_write c.args.part.now c.write_at.result (history c.args.disk.now) (history c.write_at.new.self) c.args.at c.args.piece.now
    (g.met.D.Disk.sound tells c.args.disk.now (history c.args.disk.now).moment) (c.write_at.ensures.done tells)
