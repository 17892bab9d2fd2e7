use Rattle.std.proofs.Common.{sym, subst}
use Rattle.dm_disk.specs.declared.memory.MemoryDisk.{MemoryDisk}
use Rattle.dm_disk.specs.Memory.{held_in}
use Rattle.dm_rehearse_run.specs.Kept.{IsKeptFor}
use Rattle.dm_rehearse_run.proofs.Keeping.{disk_kept}
use Rattle.dm_rehearse_run.proofs.session.closed.Goals as goal

pub returns-clause-kept : goal.returns-clause-kept
returns-clause-kept c = subst (λ (disk : MemoryDisk). IsKeptFor c.args.desk.origin.seed (held_in disk)) (sym c.into_disk.ensures) (disk_kept c.args.desk c.requires)
