-- The calls that changed a disk in memory, and what the disk is after them.
use Rattle.std.specs.Prelude.{ℕ, ◌+◌, ◌==◌, if◌then◌else◌, List, [], ◌∷◌, ◌++◌, length, take, max}
use Rattle.dm_disk_model.specs.File.{File, empty_file, synced_file, overwrite}
use Rattle.dm_disk_model.specs.Folder.{Folder, Created, Renamed, Removed, no_names, names_of}
use Rattle.dm_disk_model.specs.Disk.{DiskState, History}
use Rattle.dm_disk_model.specs.declared.place.Area.{Area}
use Rattle.dm_disk_model.specs.declared.place.Area.TheVariants.{State, Files}
use Rattle.dm_disk.specs.declared.call.Call.{Call}
use Rattle.dm_disk.specs.declared.call.Act.{Act}
use Rattle.dm_disk.specs.declared.call.Act.TheVariants.{Create, Write, Sync, Rename, Remove, SyncNames}

-- the files with one of them set
abbrev pub with_file : (ℕ → File) → ℕ → File → ℕ → File
with_file files number file other = if other == number then file else files other

-- the file after a write at a place
abbrev pub written_file : ℕ → List ℕ → File → File
written_file at piece file = record { bytes = overwrite file.bytes at piece; synced = file.synced; touched = (at, at + length piece) ∷ file.touched }

-- the folder after a call, which had this number
abbrev pub folder_after : ℕ → Act → Folder → Folder
folder_after number (Create name) folder = record {
  file = with_file folder.file number empty_file;
  synced = folder.synced;
  changes = folder.changes ++ Created name number ∷ [];
}
folder_after number (Write file at bytes) folder = record {
  file = with_file folder.file file (written_file at bytes (folder.file file));
  synced = folder.synced;
  changes = folder.changes;
}
folder_after number (Sync file) folder = record {
  file = with_file folder.file file (synced_file (folder.file file));
  synced = folder.synced;
  changes = folder.changes;
}
folder_after number (Rename from to) folder = record {
  file = folder.file;
  synced = folder.synced;
  changes = folder.changes ++ Renamed from to ∷ [];
}
folder_after number (Remove name) folder = record {
  file = folder.file;
  synced = folder.synced;
  changes = folder.changes ++ Removed name ∷ [];
}
folder_after number SyncNames folder = record { file = folder.file; synced = names_of folder; changes = [] }

-- the disk with one folder changed
abbrev pub in_folder : Area → (Folder → Folder) → DiskState → DiskState
in_folder State step disk = record { state = step disk.state; files = disk.files }
in_folder Files step disk = record { state = disk.state; files = step disk.files }

-- the disk after these calls, of which the first had this number
abbrev pub disk_from : ℕ → List Call → DiskState → DiskState
disk_from number [] disk = disk
disk_from number (call ∷ later) disk = disk_from (number + 1) later (in_folder call.area (folder_after number call.act) disk)

abbrev pub empty_folder : Folder
empty_folder = record { file = λ number. empty_file; synced = no_names; changes = [] }

abbrev pub empty_disk : DiskState
empty_disk = record { state = empty_folder; files = empty_folder }

-- the disk after these calls and no others
abbrev pub disk_after : List Call → DiskState
disk_after calls = disk_from 0 calls empty_disk

-- each call is one moment
abbrev pub history_of : List Call → History
history_of calls = record { moment = length calls; at = λ t. disk_after (take t calls) }

-- where a write ends
abbrev pub end_of : Act → ℕ
end_of (Write file at bytes) = at + length bytes
end_of _ = 0

-- where the furthest write ends
abbrev pub most_end : List Call → ℕ
most_end [] = 0
most_end (call ∷ later) = max (end_of call.act) (most_end later)
