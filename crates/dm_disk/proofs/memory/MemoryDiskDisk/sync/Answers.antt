use Rattle.dm_disk.proofs.Steps.{synced}
use Rattle.dm_disk.proofs.memory.MemoryDiskDisk.sync.Goals as goal

pub returns-in-Ok-clause-done : goal.returns-in-Ok-clause-done
returns-in-Ok-clause-done c = synced c.args.self.now.log.calls.items c.sync.new.self.calls.items c.args.place.now c.file_at-file.result c.file_at-file.ensures c.in-Ok.ensures.ok
