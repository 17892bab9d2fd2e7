-- What a disk over real folders tells: how often its calls failed, and nothing of content.
use Rattle.std.specs.Prelude.{◌≡◌, [], Result, Ok, Err}
use Rattle.std.specs.declared.io.Error.{Error}
use Rattle.std.specs.IoError.{error_kind}
use Rattle.std.specs.declared.io.ErrorKind.{ErrorKind}
use Rattle.std.specs.declared.io.ErrorKind.TheVariants as system
use Rattle.dm_types.specs.declared.kinds.DiskKind.{DiskKind}
use Rattle.dm_types.specs.declared.kinds.DiskKind.TheVariants as kinds
use Rattle.dm_disk_model.specs.declared.counts.KindCounts.{KindCounts}
use Rattle.dm_disk_model.specs.declared.place.DiskFault.{DiskFault}
use Rattle.dm_disk_model.specs.Counts.{counted, no_faults}
use Rattle.dm_disk_model.specs.Disk.{DiskState, History}
use Rattle.dm_disk_model.specs.File.{empty_file}
use Rattle.dm_disk_model.specs.Folder.{Folder, no_names}
use Rattle.dm_disk_real.specs.declared.counts.Counts.{Counts}

-- the kind of a failed call, by the system's
abbrev pub kind_of : ErrorKind → DiskKind
kind_of system.StorageFull = kinds.NoSpace
kind_of system.PermissionDenied = kinds.Denied
kind_of system.InvalidFilename = kinds.NameTooLong
kind_of _ = kinds.Failed

-- The system's answer is handed on, and an error is counted under its kind.
abbrev pub Answers : {T : Type 0} → Result T Error → KindCounts → KindCounts → Result T DiskFault → Type 0
Answers (Ok value) before now result = (result ≡ Ok value) × (now ≡ before)
Answers (Err error) before now result =
    (result ≡ Err (record { 0 = kind_of (error_kind error) })) × (now ≡ counted (kind_of (error_kind error)) before)

-- nothing has failed
abbrev pub none_failed : Counts
none_failed = record { kinds = no_faults; far = 0 }

abbrev pub blank_folder : Folder
blank_folder = record { file = λ _. empty_file; synced = no_names; changes = [] }

abbrev pub blank_disk : DiskState
blank_disk = record { state = blank_folder; files = blank_folder }

-- the history that stands for one that isn't told
abbrev pub untold : History
untold = record { moment = 0; at = λ _. blank_disk }
