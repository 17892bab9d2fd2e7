use Rattle.dm_disk_model.specs.Disk.{folder_in}
use Rattle.dm_disk.specs.Calls.{disk_after}
use Rattle.dm_disk.proofs.Taking.{IsTaking}
use Rattle.dm_disk.proofs.image.take_folder.Given as goal

abbrev pub invariant-loop-name : goal.invariant-loop-name
invariant-loop-name l =
    IsTaking l.pick (folder_in l.area (disk_after l.calls)) l.area l.name-items l.name-index (disk_after l.fn.log.calls.items) (disk_after l.log.calls.items)
