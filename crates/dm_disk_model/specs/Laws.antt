-- What a step of one folder leaves of the rest.
use Rattle.std.specs.Prelude.{◌≡◌, ◌≢◌, ◌↔◌, ℕ, List, Option, Some}
use Rattle.dm_disk_model.specs.Folder.{Folder, NameLeaves, names_of, names_after}
use Rattle.dm_disk_model.specs.Disk.{DiskState, folder_in}
use Rattle.dm_disk_model.specs.declared.place.Area.{Area}
use Rattle.dm_disk_model.specs.declared.place.Area.TheVariants.{State, Files}

abbrev pub other_area : Area → Area
other_area State = Files
other_area Files = State

-- the other folder is as it was, and so is what it may leave
abbrev pub OtherStays : Area → DiskState → DiskState → Type 0
OtherStays area old new = folder_in (other_area area) new ≡ folder_in (other_area area) old

-- Whatever survives, under each name but the one that the file survives under the same may be left.
pub record OthersLeaveSame (name : List ℕ) (old new : Folder) : Type 0 where
  pub number : ℕ
  pub stands : names_of old name ≡ Some number
  pub others : (survive : ℕ) (other : List ℕ) (found : Option (List ℕ)) → names_after old survive other ≢ Some number
      → NameLeaves new.file (names_after new survive other) found ↔ NameLeaves old.file (names_after old survive other) found
