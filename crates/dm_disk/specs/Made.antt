-- What holds of a folder after so many calls.
use Rattle.std.specs.Prelude.{◌≡◌, ℕ, ◌<◌, ◌≤◌, List, length, Some}
use Rattle.dm_disk_model.specs.File.{File}
use Rattle.dm_disk_model.specs.Folder.{Names, Folder, AreApart, EachPrefix}
use Rattle.dm_disk_model.specs.Disk.{DiskState}

-- the files that have names were made by calls before this number
abbrev pub AreBelow : ℕ → Names → Type 0
AreBelow bound names = (name : List ℕ) (number : ℕ) → names name ≡ Some number → number < bound

-- no file was synced longer than it is
abbrev pub IsWithin : File → Type 0
IsWithin file = file.synced ≤ length file.bytes

-- what holds of a folder before the call with this number
pub record IsMade (bound : ℕ) (folder : Folder) : Type 0 where
  pub below : EachPrefix folder (AreBelow bound)
  pub apart : EachPrefix folder AreApart
  pub within : (number : ℕ) → IsWithin (folder.file number)

pub record IsMadeDisk (bound : ℕ) (disk : DiskState) : Type 0 where
  pub state : IsMade bound disk.state
  pub files : IsMade bound disk.files
