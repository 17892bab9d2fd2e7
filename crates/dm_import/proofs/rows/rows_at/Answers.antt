use Rattle.dm_disk_model.specs.Disk.{now}
use Rattle.dm_import.proofs.Fronts.{refused_found}
use Rattle.dm_import.proofs.rows.rows_at.Goals as goal

pub returns-in-Ok-clause-refused : goal.returns-in-Ok-clause-refused
returns-in-Ok-clause-refused g c =
    refused_found g.D.Disk.tells (now (g.D.Disk.history c.args.disk.now)) c.args.place.now (g.D.Disk.faults c.args.disk.now) (g.D.Disk.faults c.read_found.new.disk) c.in-Ok.found c.rows_in.result c.in-Ok.ensures.found c.in-Ok.ensures.few c.rows_in.ensures.refused
