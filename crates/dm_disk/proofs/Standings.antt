-- What stands under each name after a call.
use Rattle.std.proofs.Common.{◌≡◌, ◌≢◌, ℕ, ◌+◌, max, Bool, true, false, cond, eqb, List, length, Option, Some, None, refl, sym, ◌∙◌, ap, arith}
use Rattle.std.specs.Option.{option_map}
use Rattle.dm_disk_model.specs.File.{File, empty_file}
use Rattle.dm_disk_model.specs.Folder.{Folder, names_of}
use Rattle.dm_disk_model.specs.Disk.{DiskState, folder_in}
use Rattle.dm_disk_model.specs.declared.place.Area.{Area}
use Rattle.dm_disk_model.specs.declared.place.Area.TheVariants.{State, Files}
use Rattle.dm_disk_model.proofs.FileBytes.{length-overwrite}
use Rattle.dm_disk_model.proofs.PendingNames.{each_now}
use Rattle.dm_disk.specs.declared.call.Act.TheVariants.{Create, Write, Rename, Remove}
use Rattle.dm_disk.specs.declared.index.Standing.{Standing}
use Rattle.dm_disk.specs.Calls.{folder_after, in_folder, written_file}
use Rattle.dm_disk.specs.Made.{AreBelow, IsMade}
use Rattle.dm_disk.specs.Index.{standing_at, standing_of, standing_in, grown, grown_in}
use Rattle.dm_disk.proofs.Looks.{created_here, created_other, renamed_to, renamed_from, renamed_other, removed_here, removed_other}
use Rattle.dm_disk.proofs.Replay.{with_file_same, with_file_other, file_after_act}

-- the name has the file that the other had, as long as it was
pub same_standing : (old new : Folder) (from name : List ℕ) → names_of new name ≡ names_of old from
    → ((number : ℕ) → names_of old from ≡ Some number → length (new.file number).bytes ≡ length (old.file number).bytes) → standing_of new name ≡ standing_of old from
same_standing old new from name names files = ap (option_map (standing_at new)) names ∙ by (names_of old from) refl
  where
    by : (number : Option ℕ) → names_of old from ≡ number → option_map (standing_at new) number ≡ option_map (standing_at old) number
    by None is = refl
    by (Some number) is = ap (λ (size : ℕ). Some (record { file = number; size = size })) (files number is)

-- a file was created under a name
pub standing_created : (number : ℕ) (name : List ℕ) (folder : Folder) → standing_of (folder_after number (Create name) folder) name ≡ Some (record { file = number; size = 0 })
standing_created number name folder =
    ap (option_map (standing_at (folder_after number (Create name) folder))) (created_here (Create name) name name refl refl number folder)
    ∙ ap (λ (file : File). Some (record { file = number; size = length file.bytes })) (with_file_same folder.file number empty_file)

pub standing_beside_created : (number : ℕ) (name : List ℕ) (folder : Folder) → IsMade number folder → (other : List ℕ) → other ≢ name
    → standing_of (folder_after number (Create name) folder) other ≡ standing_of folder other
standing_beside_created number name folder made other apart =
    same_standing folder (folder_after number (Create name) folder) other other (created_other (Create name) name other refl (λ e. apart (sym e)) number folder)
    (λ file has.
    let low = each_now folder (AreBelow number) made.below other file has in
    let older : file ≢ number = omega (arith, low) in
    ap (λ (f : File). length f.bytes) (with_file_other folder.file number empty_file file older))

-- a file was written
abbrev size_of : ℕ → File → Standing
size_of number file = record { file = number; size = length file.bytes }

size_written : (file end at : ℕ) (bytes : List ℕ) (was : File) (other : ℕ) → end ≡ at + length bytes
    → size_of other (cond (eqb other file) (written_file at bytes was) was) ≡ grown file end (size_of other was)
size_written file end at bytes was other is = by (eqb other file)
  where
    by : (test : Bool) → size_of other (cond test (written_file at bytes was) was) ≡ cond test (record { file = other; size = max (length was.bytes) end }) (size_of other was)
    by true = ap (λ (size : ℕ). record { file = other; size = size }) (length-overwrite was.bytes at bytes ∙ ap (max (length was.bytes)) (sym is))
    by false = refl

pub standing_written : (number file at : ℕ) (bytes : List ℕ) (folder : Folder) (name : List ℕ)
    → standing_of (folder_after number (Write file at bytes) folder) name ≡ option_map (grown file (at + length bytes)) (standing_of folder name)
standing_written number file at bytes folder name = by (names_of folder name)
  where
    new : Folder
    new = folder_after number (Write file at bytes) folder

    by : (found : Option ℕ) → option_map (standing_at new) found ≡ option_map (grown file (at + length bytes)) (option_map (standing_at folder) found)
    by None = refl
    by (Some other) =
        ap (λ (f : File). Some (record { file = other; size = length f.bytes })) (file_after_act number (Write file at bytes) folder other)
        ∙ ap Some (size_written file (at + length bytes) at bytes (folder.file other) other refl)

-- a name was given to another's file
pub standing_renamed : (number : ℕ) (from to : List ℕ) (folder : Folder) → standing_of (folder_after number (Rename from to) folder) to ≡ standing_of folder from
standing_renamed number from to folder =
    same_standing folder (folder_after number (Rename from to) folder) from to (renamed_to (Rename from to) from to to refl refl number folder) (λ file has. refl)

pub standing_renamed_away : (number : ℕ) (from to : List ℕ) (folder : Folder) → from ≢ to → standing_of (folder_after number (Rename from to) folder) from ≡ None
standing_renamed_away number from to folder apart =
    ap (option_map (standing_at (folder_after number (Rename from to) folder))) (renamed_from (Rename from to) from to from refl (λ e. apart (sym e)) refl number folder)

pub standing_beside_renamed : (number : ℕ) (from to : List ℕ) (folder : Folder) (other : List ℕ) → other ≢ to → other ≢ from
    → standing_of (folder_after number (Rename from to) folder) other ≡ standing_of folder other
standing_beside_renamed number from to folder other not_to not_from =
    same_standing folder (folder_after number (Rename from to) folder) other other
    (renamed_other (Rename from to) from to other refl (λ e. not_to (sym e)) (λ e. not_from (sym e)) number folder) (λ file has. refl)

-- a name was removed
pub standing_removed : (number : ℕ) (name : List ℕ) (folder : Folder) → standing_of (folder_after number (Remove name) folder) name ≡ None
standing_removed number name folder =
    ap (option_map (standing_at (folder_after number (Remove name) folder))) (removed_here (Remove name) name name refl refl number folder)

pub standing_beside_removed : (number : ℕ) (name : List ℕ) (folder : Folder) (other : List ℕ) → other ≢ name
    → standing_of (folder_after number (Remove name) folder) other ≡ standing_of folder other
standing_beside_removed number name folder other apart =
    same_standing folder (folder_after number (Remove name) folder) other other (removed_other (Remove name) name other refl (λ e. apart (sym e)) number folder) (λ file has. refl)

-- the same in a folder of the disk
pub standing_here : (area : Area) (step : Folder → Folder) (disk : DiskState) (name : List ℕ) → standing_in area name (in_folder area step disk) ≡ standing_of (step (folder_in area disk)) name
standing_here State step disk name = refl
standing_here Files step disk name = refl

-- under every other name of the disk stands what stood there
pub others_stay : (area : Area) (step : Folder → Folder) (disk : DiskState) (Other : List ℕ → Type 0) → ((other : List ℕ) → Other other → standing_of (step (folder_in area disk)) other ≡ standing_of (folder_in area disk) other)
    → (a : Area) (other : List ℕ) → (a ≡ area → Other other) → standing_in a other (in_folder area step disk) ≡ standing_in a other disk
others_stay State step disk Other stay State other apart = stay other (apart refl)
others_stay State step disk Other stay Files other apart = refl
others_stay Files step disk Other stay State other apart = refl
others_stay Files step disk Other stay Files other apart = stay other (apart refl)

-- what a write leaves under each name of both folders
pub written_in_both : (number : ℕ) (area : Area) (file at : ℕ) (bytes : List ℕ) (disk : DiskState) (a : Area) (name : List ℕ)
    → standing_in a name (in_folder area (folder_after number (Write file at bytes)) disk) ≡ option_map (grown_in area file (at + length bytes) a) (standing_in a name disk)
written_in_both number State file at bytes disk State name = standing_written number file at bytes disk.state name
written_in_both number Files file at bytes disk Files name = standing_written number file at bytes disk.files name
written_in_both number State file at bytes disk Files name = unchanged (standing_of disk.files name)
  where
    unchanged : (found : Option Standing) → found ≡ option_map (λ (s : Standing). s) found
    unchanged None = refl
    unchanged (Some standing) = refl
written_in_both number Files file at bytes disk State name = unchanged (standing_of disk.state name)
  where
    unchanged : (found : Option Standing) → found ≡ option_map (λ (s : Standing). s) found
    unchanged None = refl
    unchanged (Some standing) = refl
