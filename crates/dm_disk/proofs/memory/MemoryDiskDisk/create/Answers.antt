use Rattle.dm_disk.proofs.Steps.{created}
use Rattle.dm_disk.proofs.memory.MemoryDiskDisk.create.Goals as goal

pub returns-in-Ok-clause-done : goal.returns-in-Ok-clause-done
returns-in-Ok-clause-done c = created c.args.self.now.log.calls.items c.create.new.self.calls.items c.args.place.now c.in-Ok.ensures.ok
