use Rattle.std.proofs.Common.{refl, sym, ◌∙◌}
use Rattle.dm_disk.specs.Memory.{held_in}
use Rattle.dm_disk_model.specs.Disk.{bytes_at}
use Rattle.dm_rehearse_run.proofs.Read.{long_of}
use Rattle.dm_rehearse_run.proofs.reading.is_long.Goals as goal

pub returns-in-Ok-Some-clause-long : goal.returns-in-Ok-Some-clause-long
returns-in-Ok-Some-clause-long c same =
    long_of (held_in c.args.disk.now) c.args.place.now (bytes_at (held_in c.args.disk.now) c.args.place.now) c.in-Ok-Some.length c.args.size refl (sym c.in-Ok-Some.field-0-is ∙ c.in-Ok-Some.ensures.length) same
