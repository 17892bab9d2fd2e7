-- What the making of a folder that failed comes to.
use Rattle.std.specs.IoError.{error_kind}
use Rattle.dm_disk_model.specs.declared.place.NamesFault.{NamesFault}
use Rattle.dm_disk_model.specs.declared.place.NamesFault.TheVariants as answers
use Rattle.dm_disk_real.specs.declared.fault.FolderFault.{FolderFault}
use Rattle.dm_disk_real.specs.declared.fault.FolderFault.TheVariants as folders
use Rattle.dm_disk_real.specs.Counts.{kind_of}

abbrev pub names_fault : FolderFault → NamesFault
names_fault (folders.System error) = answers.Disk (kind_of (error_kind error))
names_fault folders.NoMemory = answers.NoMemory
