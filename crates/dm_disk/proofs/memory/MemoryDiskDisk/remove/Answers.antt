use Rattle.dm_disk.proofs.Steps.{removed}
use Rattle.dm_disk.proofs.memory.MemoryDiskDisk.remove.Goals as goal

pub returns-in-Ok-clause-done : goal.returns-in-Ok-clause-done
returns-in-Ok-clause-done c = removed c.args.self.now.log.calls.items c.remove.new.self.calls.items c.args.place.now c.in-Ok.ensures.ok
