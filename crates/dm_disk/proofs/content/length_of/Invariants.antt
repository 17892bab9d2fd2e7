use Rattle.std.proofs.Common.{◌≡◌, ◌<◌, ◌^◌, length, take}
use Rattle.dm_disk.specs.Calls.{disk_after}
use Rattle.dm_disk.specs.Look.{file_in}
use Rattle.dm_disk.proofs.content.length_of.Given as goal

abbrev pub invariant-loop-number : goal.invariant-loop-number
invariant-loop-number l = record {
  is : l.so_far ≡ length (file_in l.area l.file (disk_after (take l.number l.calls))).bytes;
  near : l.so_far < 2 ^ 63;
}
