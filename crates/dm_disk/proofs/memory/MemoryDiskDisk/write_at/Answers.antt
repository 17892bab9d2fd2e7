use Rattle.dm_disk.proofs.Steps.{wrote}
use Rattle.dm_disk.proofs.memory.MemoryDiskDisk.write_at.Goals as goal

pub returns-in-Ok-clause-done : goal.returns-in-Ok-clause-done
returns-in-Ok-clause-done c = wrote c.args.self.now.log.calls.items c.write.new.self.calls.items c.args.place.now c.file_at-file.result c.args.at c.args.bytes.now c.file_at-file.ensures c.in-Ok.ensures.ok
