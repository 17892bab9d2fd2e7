-- What a crash may leave under one name that is given once.
use Rattle.std.specs.Prelude.{◌≡◌, ◌⊎◌, ℕ, List, Some, None}
use Rattle.dm_disk_model.specs.declared.place.Place.{Place}
use Rattle.dm_disk_model.specs.File.{settled_file}
use Rattle.dm_disk_model.specs.Folder.{Folder, names_of, EachPrefix}
use Rattle.dm_disk_model.specs.Firm.{IsAbsent}
use Rattle.dm_disk_model.specs.Disk.{DiskState, Image, folder_in, image_at, MayLeave}

-- nothing stands at the place, and no crash puts something there
abbrev pub NeverStands : Place → DiskState → Type 0
NeverStands place disk = IsAbsent place.name (folder_in place.area disk)

-- the file at the place holds these bytes, all of them clean
pub record IsSettled (place : Place) (bytes : List ℕ) (disk : DiskState) : Type 0 where
  pub number : ℕ
  pub stands : names_of (folder_in place.area disk) place.name ≡ Some number
  pub settled : (folder_in place.area disk).file number ≡ settled_file bytes

-- whichever changes of names survive, the name has no file or the one that holds these bytes, all of them clean
pub record IsGiven (name : List ℕ) (content : List ℕ) (folder : Folder) : Type 0 where
  pub number : ℕ
  pub names : EachPrefix folder (λ names. (names name ≡ None) ⊎ (names name ≡ Some number))
  pub settled : folder.file number ≡ settled_file content

-- a crash now leaves the place with nothing, or with exactly these bytes
abbrev pub LeavesNothingOr : Place → List ℕ → DiskState → Type 0
LeavesNothingOr place bytes disk = (image : Image) → MayLeave disk image → (image_at image place ≡ None) ⊎ (image_at image place ≡ Some bytes)

-- a crash now leaves the place with exactly these bytes
abbrev pub LeavesJust : Place → List ℕ → DiskState → Type 0
LeavesJust place bytes disk = (image : Image) → MayLeave disk image → image_at image place ≡ Some bytes

-- a crash now leaves the place with nothing
abbrev pub LeavesNothing : Place → DiskState → Type 0
LeavesNothing place disk = (image : Image) → MayLeave disk image → image_at image place ≡ None
