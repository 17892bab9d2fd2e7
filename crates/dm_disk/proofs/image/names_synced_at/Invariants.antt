use Rattle.std.proofs.Common.{◌≡◌, ◌≤◌, take}
use Rattle.dm_disk_model.specs.Folder.{names_of}
use Rattle.dm_disk_model.specs.Disk.{folder_in}
use Rattle.dm_disk.specs.Calls.{disk_after}
use Rattle.dm_disk.proofs.image.names_synced_at.Given as goal

abbrev pub invariant-loop-number : goal.invariant-loop-number
invariant-loop-number l = record {
  within : l.count ≤ l.number;
  names : names_of (folder_in l.area (disk_after (take l.count l.calls))) ≡ (folder_in l.area (disk_after (take l.number l.calls))).synced;
}
