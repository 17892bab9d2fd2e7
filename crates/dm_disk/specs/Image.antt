-- The picked image of a disk, and a disk that holds it alone.
use Rattle.std.specs.Prelude.{◌≡◌, ◌≢◌, ℕ, ◌<◌, Bool, true, false, ◌&&◌, List, [], length, slice_index, slice_get, Option, Some, None}
use Rattle.dm_disk_model.specs.File.{File, IsClean}
use Rattle.dm_disk_model.specs.Folder.{Names, Folder, AreSettled, names_of, contents_of}
use Rattle.dm_disk_model.specs.Disk.{DiskState, Image, folder_in}
use Rattle.dm_disk_model.specs.Laws.{other_area}
use Rattle.dm_disk_model.specs.declared.place.Area.{Area}
use Rattle.dm_disk_model.specs.declared.place.Area.TheVariants.{State, Files}
use Rattle.dm_disk.specs.declared.call.Call.{Call}
use Rattle.dm_disk.specs.declared.call.Act.{Act}
use Rattle.dm_disk.specs.declared.call.Act.TheVariants.{Create, Write, Sync, Rename, Remove, SyncNames}
use Rattle.dm_disk.specs.declared.image.Pick.{Pick}
use Rattle.dm_disk.specs.declared.image.Pick.TheVariants.{Least, Present}
use Rattle.dm_disk.specs.Calls.{folder_after}
use Rattle.dm_disk.specs.Look.{file_in}

-- the names of the image
abbrev pub picked_names : Pick → Folder → Names
picked_names Present folder = names_of folder
picked_names Least folder = folder.synced

-- As long as at the last sync. A clean position has its byte, every other the byte 0.
pub record IsLeastOf (file : File) (bytes : List ℕ) : Type 0 where
  pub long : length bytes ≡ file.synced
  pub clean : (i : ℕ) → IsClean file i → slice_index bytes i ≡ slice_index file.bytes i
  pub zeros : (i : ℕ) → i < file.synced → (IsClean file i → ⊥) → slice_index bytes i ≡ 0

-- the content of a file of the image
abbrev pub IsPicked : Pick → File → List ℕ → Type 0
IsPicked Present file bytes = bytes ≡ file.bytes
IsPicked Least file bytes = IsLeastOf file bytes

-- what the image has under a name
abbrev pub NamePicked : Pick → (ℕ → File) → Option ℕ → Option (List ℕ) → Type 0
NamePicked pick files None None = Unit {0}
NamePicked pick files (Some number) (Some bytes) = IsPicked pick (files number) bytes
NamePicked pick files None (Some bytes) = ⊥
NamePicked pick files (Some number) None = ⊥

-- the folder reads as the picked image of the old one, and all of it is durable
pub record FolderPicked (pick : Pick) (old new : Folder) : Type 0 where
  pub each : (name : List ℕ) → NamePicked pick old.file (picked_names pick old name) (contents_of new name)
  pub settled : AreSettled new
  pub named : new.changes ≡ []

pub record HoldsPicked (pick : Pick) (old new : DiskState) : Type 0 where
  pub state : FolderPicked pick old.state new.state
  pub files : FolderPicked pick old.files new.files

-- the same bytes under each name
pub record HasSame (image other : Image) : Type 0 where
  pub state : (name : List ℕ) → image.state name ≡ other.state name
  pub files : (name : List ℕ) → image.files name ≡ other.files name

-- one folder was taken, if nothing stood in it before; the other is as before
pub record IsTaken (pick : Pick) (area : Area) (from old new : DiskState) : Type 0 where
  pub here : ((name : List ℕ) → names_of (folder_in area old) name ≡ None) → FolderPicked pick (folder_in area from) (folder_in area new)
  pub beside : folder_in (other_area area) new ≡ folder_in (other_area area) old

-- a durable file of these bytes stands under the name
pub record Puts (area : Area) (name bytes : List ℕ) (old new : DiskState) : Type 0 where
  pub here : contents_of (folder_in area new) name ≡ Some bytes
  pub others : (other : List ℕ) → other ≢ name → contents_of (folder_in area new) other ≡ contents_of (folder_in area old) other
  pub settled : AreSettled (folder_in area old) → AreSettled (folder_in area new)
  pub beside : folder_in (other_area area) new ≡ folder_in (other_area area) old

-- the name's file was put, with what is picked of it
pub record NameIsTaken (pick : Pick) (area : Area) (name : List ℕ) (names : Names) (from old new : DiskState) : Type 0 where
  pub number : ℕ
  pub named : names name ≡ Some number
  pub bytes : List ℕ
  pub picked : IsPicked pick (file_in area number from) bytes
  pub puts : Puts area name bytes old new

-- the two are one folder
abbrev pub same_area : Area → Area → Bool
same_area State State = true
same_area Files Files = true
same_area State Files = false
same_area Files State = false

-- the call syncs names
abbrev pub syncs : Act → Bool
syncs SyncNames = true
syncs (Create name) = false
syncs (Write file at bytes) = false
syncs (Sync file) = false
syncs (Rename from to) = false
syncs (Remove name) = false

-- the call synced the names of the folder
abbrev pub syncs_names : Area → Call → Bool
syncs_names area call = same_area area call.area && syncs call.act

-- the call at this place synced the file
abbrev pub IsSyncAt : List Call → Area → ℕ → ℕ → Type 0
IsSyncAt calls area file place = slice_get calls place ≡ Some (record { area = area; act = Sync file })

-- in every folder, if these were the file's least bytes before the call, those are after it
abbrev pub LeastGoesOn : Act → ℕ → ℕ → List ℕ → List ℕ → Type 0
LeastGoesOn act number file old new = (folder : Folder) → IsLeastOf (folder.file file) old → IsLeastOf ((folder_after number act folder).file file) new
