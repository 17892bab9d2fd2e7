use Rattle.dm_disk_model.proofs.Images.{as_read}
use Rattle.dm_disk_model.specs.Disk.{now}
use Rattle.dm_disk.proofs.laws.reads_as_an_image.Goals as goal

pub returns : goal.returns
returns g c = λ told.
    let history = g.D.Disk.history c.args.disk.now in
    as_read (now history) (g.met.D.Disk.sound told c.args.disk.now history.moment)
