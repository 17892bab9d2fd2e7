use Rattle.dm_disk.proofs.Steps.{names_synced}
use Rattle.dm_disk.proofs.memory.MemoryDiskDisk.sync_names.Goals as goal

pub returns-in-Ok-clause-done : goal.returns-in-Ok-clause-done
returns-in-Ok-clause-done c = names_synced c.args.self.now.log.calls.items c.sync_names.new.self.calls.items c.args.area c.in-Ok.ensures.ok
