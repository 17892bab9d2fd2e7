-- Where the file of a name was before a call.
use Rattle.std.specs.Prelude.{◌≡◌, ℕ, ◌+◌, ◌<◌, List, length, slice_index, Option, Some, None}
use Rattle.dm_disk_model.specs.File.{File}
use Rattle.dm_disk_model.specs.Folder.{Names, Folder, names_of}
use Rattle.dm_disk_model.specs.Disk.{DiskState, folder_in}
use Rattle.dm_disk_model.specs.declared.place.Area.{Area}
use Rattle.dm_disk.specs.declared.call.Call.{Call}
use Rattle.dm_disk.specs.declared.call.Act.{Act}
use Rattle.dm_disk.specs.declared.find.Back.{Back}
use Rattle.dm_disk.specs.declared.find.Back.TheVariants.{Under, Made, Nowhere}
use Rattle.dm_disk.specs.Calls.{folder_after, in_folder}

-- the file's number, by the names before the call and the call's number
abbrev pub file_at : Back → ℕ → Names → Option ℕ
file_at (Under name) number names = names name.now
file_at Made number names = Some number
file_at Nowhere number names = None

-- in every folder the name's file after the call is the one that is told
abbrev pub LooksPast : Act → List ℕ → Back → Type 0
LooksPast act name back = (number : ℕ) (folder : Folder) → names_of (folder_after number act folder) name ≡ file_at back number (names_of folder)

-- the same for a call, on every disk
abbrev pub LooksBack : Call → Area → List ℕ → Back → Type 0
LooksBack call area name back = (number : ℕ) (disk : DiskState)
    → names_of (folder_in area (in_folder call.area (folder_after number call.act) disk)) name ≡ file_at back number (names_of (folder_in area disk))

-- one file of one folder
abbrev pub file_in : Area → ℕ → DiskState → File
file_in area file disk = (folder_in area disk).file file

-- in every folder the file's length after the call is the one that is told
abbrev pub Grows : Act → ℕ → ℕ → ℕ → ℕ → Type 0
Grows act number file before now = (folder : Folder) → length (folder.file file).bytes ≡ before → length ((folder_after number act folder).file file).bytes ≡ now

abbrev pub GrowsIn : Call → ℕ → Area → ℕ → ℕ → ℕ → Type 0
GrowsIn call number area file before now = (disk : DiskState) → length (file_in area file disk).bytes ≡ before
    → length (file_in area file (in_folder call.area (folder_after number call.act) disk)).bytes ≡ now

-- the window has the file's bytes from a place on, and zeros past the end
abbrev pub Shows : List ℕ → ℕ → List ℕ → Type 0
Shows bytes from window = (k : ℕ) → k < length window → slice_index window k ≡ slice_index bytes (from + k)

-- in every folder, if the window showed the file before the call, it does so after it
abbrev pub Lays : Act → ℕ → ℕ → ℕ → List ℕ → List ℕ → Type 0
Lays act number file from old new = (folder : Folder) → Shows (folder.file file).bytes from old → Shows ((folder_after number act folder).file file).bytes from new

abbrev pub LaysIn : Call → ℕ → Area → ℕ → ℕ → List ℕ → List ℕ → Type 0
LaysIn call number area file from old new = (disk : DiskState) → Shows (file_in area file disk).bytes from old
    → Shows (file_in area file (in_folder call.area (folder_after number call.act) disk)).bytes from new
