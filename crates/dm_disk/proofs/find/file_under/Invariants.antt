use Rattle.std.proofs.Common.{◌≡◌, ◌≤◌, length, take}
use Rattle.dm_disk_model.specs.Disk.{folder_in}
use Rattle.dm_disk_model.specs.Folder.{names_of}
use Rattle.dm_disk.specs.Calls.{disk_after}
use Rattle.dm_disk.proofs.find.file_under.Given as goal

abbrev pub invariant-loop-left : goal.invariant-loop-left
invariant-loop-left l = record {
  within : l.left ≤ length l.calls;
  same : names_of (folder_in l.area (disk_after l.calls)) l.fn.name ≡ names_of (folder_in l.area (disk_after (take l.left l.calls))) l.name;
}

abbrev pub decreases-loop-left : goal.decreases-loop-left
decreases-loop-left l = l.left
