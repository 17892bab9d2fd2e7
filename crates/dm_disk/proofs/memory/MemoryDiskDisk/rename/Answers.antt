use Rattle.dm_disk.proofs.Steps.{renamed}
use Rattle.dm_disk.proofs.memory.MemoryDiskDisk.rename.Goals as goal

pub returns-in-Ok-clause-done : goal.returns-in-Ok-clause-done
returns-in-Ok-clause-done c = renamed c.args.self.now.log.calls.items c.rename.new.self.calls.items c.args.from.now c.args.to.now c.in-Ok.ensures.ok
