use Rattle.std.proofs.Common.{take}
use Rattle.dm_disk.specs.Calls.{disk_after}
use Rattle.dm_disk.specs.Look.{file_in, Shows}
use Rattle.dm_disk.proofs.content.show.Given as goal

abbrev pub invariant-loop-number : goal.invariant-loop-number
invariant-loop-number l = Shows (file_in l.area l.file (disk_after (take l.number l.calls))).bytes l.from l.window
