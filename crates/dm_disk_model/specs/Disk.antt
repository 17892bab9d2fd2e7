-- Both folders, the images that a crash may leave of them, and the disk's clock.
use Rattle.std.specs.Prelude.{◌≡◌, ◌≢◌, ◌⊎◌, ℕ, ◌<◌, ◌≤◌, List, length, take, drop, Option, None, IsSome, Result, Ok, Err}
use Rattle.dm_disk_model.specs.declared.place.Area.{Area}
use Rattle.dm_disk_model.specs.declared.place.Area.TheVariants.{State, Files}
use Rattle.dm_disk_model.specs.declared.place.Place.{Place}
use Rattle.dm_disk_model.specs.declared.place.DiskFault.{DiskFault}
use Rattle.dm_disk_model.specs.File.{IsWritten, IsTorn, IsSynced}
use Rattle.dm_disk_model.specs.Folder.{Folder, Contents, FolderLeaves, IsSoundFolder, Renamed, Removed, names_of, contents_of, FileSteps, Creates, Changes, SyncsNames}

pub record DiskState : Type 0 where
  pub state : Folder
  pub files : Folder

-- what a crash left, or what is read: bytes by name in both folders
pub record Image : Type 0 where
  pub state : Contents
  pub files : Contents

abbrev pub folder_in : Area → DiskState → Folder
folder_in State disk = disk.state
folder_in Files disk = disk.files

abbrev pub folder_of_image : Area → Image → Contents
folder_of_image State image = image.state
folder_of_image Files image = image.files

-- what an image has at a place
abbrev pub image_at : Image → Place → Option (List ℕ)
image_at image place = folder_of_image place.area image place.name

-- a crash now may leave this image: each folder's part is independent of the other's
pub record MayLeave (disk : DiskState) (image : Image) : Type 0 where
  pub state : FolderLeaves disk.state image.state
  pub files : FolderLeaves disk.files image.files

-- the disk as it reads
abbrev pub reading : DiskState → Image
reading disk = record { state = contents_of disk.state; files = contents_of disk.files }

pub record IsSoundDisk (disk : DiskState) : Type 0 where
  pub state : IsSoundFolder disk.state
  pub files : IsSoundFolder disk.files

-- the clock: what the disk was at each moment so far, up to the present one
pub record History : Type 0 where
  pub moment : ℕ
  pub at : ℕ → DiskState

abbrev pub now : History → DiskState
now history = history.at history.moment

-- Moments from the old history's present on, up to the new one's, are before the step or after it. Earlier ones stay.
pub record Next (old new : History) (step : DiskState → DiskState → Type 0) : Type 0 where
  pub later : old.moment ≤ new.moment
  pub kept : (t : ℕ) → t ≤ old.moment → new.at t ≡ old.at t
  pub between : (t : ℕ) → old.moment ≤ t → t ≤ new.moment → (new.at t ≡ now old) ⊎ (new.at t ≡ now new)
  pub stepped : step (now old) (now new)

-- a crash at some moment since that one might have left this image
abbrev pub MayHaveLeft : History → ℕ → Image → Type 0
MayHaveLeft history since image = (t : ℕ) × (since ≤ t) × (t ≤ history.moment) × MayLeave (history.at t) image

-- the step is taken in one folder, and the other stays
abbrev pub InArea : Area → (Folder → Folder → Type 0) → DiskState → DiskState → Type 0
InArea State step old new = step old.state new.state × (new.files ≡ old.files)
InArea Files step old new = step old.files new.files × (new.state ≡ old.state)

-- a file stands under the place's name
abbrev pub Stands : DiskState → Place → Type 0
Stands disk place = IsSome (names_of (folder_in place.area disk) place.name)

abbrev pub StandsNot : DiskState → Place → Type 0
StandsNot disk place = names_of (folder_in place.area disk) place.name ≡ None

-- what is read at a place, where something stands
abbrev pub bytes_at : DiskState → Place → Option (List ℕ)
bytes_at disk place = contents_of (folder_in place.area disk) place.name

-- every other place reads as before
abbrev pub ChangesOnly : Place → DiskState → DiskState → Type 0
ChangesOnly place old new = (other : Place) → other ≢ place → bytes_at new other ≡ bytes_at old other

-- What a call does, by its answer. A call that fails may have been begun, or has changed nothing.
abbrev pub Done : (DiskState → DiskState → Type 0) → (DiskState → DiskState → Type 0) → Result (Unit {0}) DiskFault → DiskState → DiskState → Type 0
Done step begun (Ok done) old new = step old new
Done step begun (Err fault) old new = begun old new ⊎ (new ≡ old)

-- the same of a call that changes nothing where it fails
abbrev pub DoneWhole : (DiskState → DiskState → Type 0) → Result (Unit {0}) DiskFault → DiskState → DiskState → Type 0
DoneWhole step (Ok done) old new = step old new
DoneWhole step (Err fault) old new = new ≡ old

abbrev pub CreateStep : Place → Result (Unit {0}) DiskFault → DiskState → DiskState → Type 0
CreateStep place = Done (InArea place.area (Creates place.name)) (InArea place.area (Creates place.name))

abbrev pub WriteStep : Place → ℕ → List ℕ → Result (Unit {0}) DiskFault → DiskState → DiskState → Type 0
WriteStep place at bytes =
    Done (InArea place.area (FileSteps place.name (IsWritten at bytes))) (InArea place.area (FileSteps place.name (IsTorn at (length bytes))))

-- a sync that fails makes nothing clean
abbrev pub SyncStep : Place → Result (Unit {0}) DiskFault → DiskState → DiskState → Type 0
SyncStep place = DoneWhole (InArea place.area (FileSteps place.name IsSynced))

abbrev pub RenameStep : Place → Place → Result (Unit {0}) DiskFault → DiskState → DiskState → Type 0
RenameStep from to = Done (InArea from.area (Changes (Renamed from.name to.name))) (InArea from.area (Changes (Renamed from.name to.name)))

abbrev pub RemoveStep : Place → Result (Unit {0}) DiskFault → DiskState → DiskState → Type 0
RemoveStep place = Done (InArea place.area (Changes (Removed place.name))) (InArea place.area (Changes (Removed place.name)))

abbrev pub SyncNamesStep : Area → Result (Unit {0}) DiskFault → DiskState → DiskState → Type 0
SyncNamesStep area = DoneWhole (InArea area SyncsNames)

-- n bytes were read from the place on: none only at or past the end, or of an empty buffer
pub record Reads (file : List ℕ) (at n : ℕ) (buffer : List ℕ) : Type 0 where
  pub bytes : take n buffer ≡ take n (drop at file)
  pub some : 0 < length buffer → at < length file → 0 < n
