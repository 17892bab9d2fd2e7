use Rattle.dm_disk_model.specs.Disk.{now}
use Rattle.dm_part.proofs.Publication.{reads_made}
use Rattle.dm_part.proofs.making.create.Goals as goal

pub returns-in-Ok-clause-made : goal.returns-in-Ok-clause-made
returns-in-Ok-clause-made g c tells =
    let history = g.D.Disk.history in
    reads_made c.args.part.now c.sync_names.result (now (history c.args.disk.now)) (now (history c.create.new.self)) (now (history c.sync_names.new.self))
    (c.in-Ok.ensures.done tells).stepped (c.sync_names.ensures.done tells).stepped
