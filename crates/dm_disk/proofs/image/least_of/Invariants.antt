use Rattle.std.proofs.Common.{◌<◌, ◌≤◌, ◌-◌, ◌^◌, length, take}
use Rattle.dm_disk.specs.Calls.{disk_after}
use Rattle.dm_disk.specs.Look.{file_in}
use Rattle.dm_disk.specs.Image.{IsLeastOf}
use Rattle.dm_disk.proofs.image.least_of.Given as goal

abbrev pub invariant-loop-next : goal.invariant-loop-next
invariant-loop-next l = record {
  within : l.next ≤ length l.calls;
  least : IsLeastOf (file_in l.area l.file (disk_after (take l.next l.calls))) l.bytes.items;
  near : length l.bytes.items < 2 ^ 63;
}

abbrev pub decreases-loop-next : goal.decreases-loop-next
decreases-loop-next l = length l.calls - l.next
