-- What the index of a disk in memory has: the file of each name that stands.
use Rattle.std.specs.Prelude.{◌≡◌, ◌≢◌, ℕ, ◌==◌, max, bytes_eq, Bool, ◌&&◌, not, if◌then◌else◌, List, [], ◌∷◌, length, Option, Some, None}
use Rattle.std.specs.Option.{option_map}
use Rattle.std.specs.List.{AllPairs, filter}
use Rattle.dm_disk_model.specs.Folder.{Folder, names_of}
use Rattle.dm_disk_model.specs.Disk.{DiskState, folder_in}
use Rattle.dm_disk_model.specs.declared.place.Area.{Area}
use Rattle.dm_disk.specs.declared.call.Act.{Act}
use Rattle.dm_disk.specs.declared.index.Named.{Named}
use Rattle.dm_disk.specs.declared.index.Standing.{Standing}
use Rattle.dm_disk.specs.Calls.{folder_after, in_folder}
use Rattle.dm_disk.specs.Image.{same_area}
use Rattle.dm_disk.specs.Made.{IsMadeDisk}

-- the entry is for this name
abbrev pub is_for : Area → List ℕ → Named → Bool
is_for area name one = same_area area one.area && bytes_eq one.name name

-- what the index has under a name, by the first entry for it
abbrev pub look : Area → List ℕ → List Named → Option Standing
look area name [] = None
look area name (one ∷ later) = if is_for area name one then Some one.standing else look area name later

-- the entries for other names
abbrev pub others_than : Area → List ℕ → List Named → List Named
others_than area name entries = filter (λ one. not (is_for area name one)) entries

-- the names that the index has of a folder
abbrev pub names_listed : Area → List Named → List (List ℕ)
names_listed area [] = []
names_listed area (one ∷ later) = if same_area area one.area then one.name ∷ names_listed area later else names_listed area later

-- the file with this number, as it is in the folder
abbrev pub standing_at : Folder → ℕ → Standing
standing_at folder number = record { file = number; size = length (folder.file number).bytes }

-- what stands under a name of the folder
abbrev pub standing_of : Folder → List ℕ → Option Standing
standing_of folder name = option_map (standing_at folder) (names_of folder name)

-- the same of the disk
abbrev pub standing_in : Area → List ℕ → DiskState → Option Standing
standing_in area name disk = standing_of (folder_in area disk) name

-- two entries are for different names
abbrev pub AreForTwo : Named → Named → Type 0
AreForTwo one other = one.area ≡ other.area → one.name ≡ other.name → ⊥

-- The index has what stands under each name, and no name twice.
pub record IsIndexOf (disk : DiskState) (entries : List Named) : Type 0 where
  pub each : (area : Area) (name : List ℕ) → look area name entries ≡ standing_in area name disk
  pub once : AllPairs AreForTwo entries

-- The index has this under the name, and under every other what it had.
pub record Sets (area : Area) (name : List ℕ) (found : Option Standing) (old new : List Named) : Type 0 where
  pub here : look area name new ≡ found
  pub others : (a : Area) (other : List ℕ) → (a ≡ area → other ≡ name → ⊥) → look a other new ≡ look a other old
  pub once : AllPairs AreForTwo old → AllPairs AreForTwo new

-- The index has under the one name what it had under the other, which has nothing any more.
pub record Moves (area : Area) (from to : List ℕ) (old new : List Named) : Type 0 where
  pub here : look area to new ≡ look area from old
  pub gone : from ≢ to → look area from new ≡ None
  pub others : (a : Area) (other : List ℕ) → (a ≡ area → other ≡ to → ⊥) → (a ≡ area → other ≡ from → ⊥) → look a other new ≡ look a other old
  pub once : AllPairs AreForTwo old → AllPairs AreForTwo new

-- a file after a write that ends here, if it is the one with this number
abbrev pub grown : ℕ → ℕ → Standing → Standing
grown file end standing = if standing.file == file then record { file = standing.file; size = max standing.size end } else standing

-- the same in one folder, seen from another
abbrev pub grown_in : Area → ℕ → ℕ → Area → Standing → Standing
grown_in area file end here standing = if same_area area here then grown file end standing else standing

-- the entry after that write
abbrev pub entry_grown : Area → ℕ → ℕ → Named → Named
entry_grown area file end one = record { area = one.area; name = one.name; standing = grown_in area file end one.area one.standing }

-- If the index told of a disk before the call with this number, it tells of it after the call.
abbrev pub Follows : ℕ → Area → Act → List Named → List Named → Type 0
Follows number area act old new = (disk : DiskState) → IsMadeDisk number disk → IsIndexOf disk old → IsIndexOf (in_folder area (folder_after number act) disk) new
