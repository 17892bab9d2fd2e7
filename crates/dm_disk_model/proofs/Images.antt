-- The images of a disk: the disk as it reads is one, each is made of one for each folder, and what a step leaves of them.
use Rattle.std.proofs.Common.{◌≡◌, ◌≢◌, ◌↔◌, ℕ, ◌≤◌, inl, inr, List, length, take, Option, Some, None, Result, Ok, Err, refl, sym, ap, subst, arith}
use Rattle.std.specs.Option.{option_map}
use Rattle.std.proofs.lemmas.List.{take_all}
use Rattle.std.proofs.lemmas.Grind.{same_number_lists}
use Rattle.dm_disk_model.specs.File.{File, FileLeaves, settled_file}
use Rattle.dm_disk_model.specs.Folder.{Names, Folder, FolderLeaves, NameLeaves, FileSteps, Changes, Change, IsSoundFolder, names_of, names_after, contents_of, after_changes}
use Rattle.dm_disk_model.specs.Disk.{DiskState, Image, MayLeave, IsSoundDisk, InArea, Done, DoneWhole, reading, folder_in}
use Rattle.dm_disk_model.specs.Laws.{OtherStays, OthersLeaveSame, other_area}
use Rattle.dm_disk_model.specs.declared.place.DiskFault.{DiskFault}
use Rattle.dm_disk_model.specs.declared.place.Area.{Area}
use Rattle.dm_disk_model.specs.declared.place.Area.TheVariants.{State, Files}

-- a file as it reads
pub file_as_read : (file : File) → file.synced ≤ length file.bytes → FileLeaves file file.bytes
file_as_read file within = record { clean = λ i clean. refl; no_shorter = within; no_longer = omega arith }

-- what a crash leaves of a settled file is what it holds
pub settled_leaves : (bytes left : List ℕ) → FileLeaves (settled_file bytes) left → left ≡ bytes
settled_leaves bytes left leaves =
    same_number_lists left bytes (omega (arith, leaves.no_shorter, leaves.no_longer)) (λ k below. leaves.clean k (record { below = omega (arith, leaves.no_longer); untouched = tt }))

-- what is found under a name, as it reads
pub name_as_read : (files : ℕ → File) (found : Option ℕ) → ((number : ℕ) → (files number).synced ≤ length (files number).bytes) → NameLeaves files found (option_map (λ number. (files number).bytes) found)
name_as_read files (Some number) within = file_as_read (files number) (within number)
name_as_read files None within = tt

pub folder_as_read : (folder : Folder) → IsSoundFolder folder → FolderLeaves folder (contents_of folder)
folder_as_read folder sound =
    let all : take (length folder.changes) folder.changes ≡ folder.changes = take_all (length folder.changes) folder.changes (omega arith) in
    record {
      survive = length folder.changes;
      each = λ name.
          subst (λ (changes : List Change). NameLeaves folder.file (after_changes folder.synced changes name) (contents_of folder name)) (sym all)
          (name_as_read folder.file (names_of folder name) sound.within);
    }

-- the disk as it reads is one of its images
pub as_read : (disk : DiskState) → IsSoundDisk disk → MayLeave disk (reading disk)
as_read disk sound = record { state = folder_as_read disk.state sound.state; files = folder_as_read disk.files sound.files }

-- each image is made of what each folder may leave
pub made_of_both : (disk : DiskState) (image : Image) → MayLeave disk image ↔ (FolderLeaves disk.state image.state × FolderLeaves disk.files image.files)
made_of_both disk image = (λ left. (left.state, left.files), λ parts. record { state = parts.0; files = parts.1 })

-- a step in one folder leaves what the other may leave
pub other_area_stays : (area : Area) (step : Folder → Folder → Type 0) (old new : DiskState) → InArea area step old new → OtherStays area old new
other_area_stays State step old new stepped = stepped.1
other_area_stays Files step old new stepped = stepped.1

-- the same of a call, whatever it answers
pub other_stays : (area : Area) (step begun : Folder → Folder → Type 0) (result : Result (Unit {0}) DiskFault) (old new : DiskState) → Done (InArea area step) (InArea area begun) result old new → OtherStays area old new
other_stays area step begun (Ok done) old new stepped = other_area_stays area step old new stepped
other_stays area step begun (Err fault) old new (inl stepped) = other_area_stays area begun old new stepped
other_stays area step begun (Err fault) old new (inr same) = ap (folder_in (other_area area)) same

-- the same of a call that changes nothing where it fails
pub other_stays_whole : (area : Area) (step : Folder → Folder → Type 0) (result : Result (Unit {0}) DiskFault) (old new : DiskState) → DoneWhole (InArea area step) result old new → OtherStays area old new
other_stays_whole area step (Ok done) old new stepped = other_area_stays area step old new stepped
other_stays_whole area step (Err fault) old new same = ap (folder_in (other_area area)) same

-- A step of one file changes no other file, under whichever name that survives.
other_files : (old new : Folder) (name : List ℕ) (step : File → File → Type 0) → (taken : FileSteps name step old new) → (survive : ℕ) (other : List ℕ) (found : Option (List ℕ))
    → names_after old survive other ≢ Some taken.number
    → NameLeaves new.file (names_after new survive other) found ↔ NameLeaves old.file (names_after old survive other) found
other_files old new name step taken survive other found apart =
    let same : names_after new survive ≡ names_after old survive = cc in
    let here : names_after new survive other ≡ names_after old survive other = ap (λ (names : Names). names other) same in
    subst (λ (number : Option ℕ). NameLeaves new.file number found ↔ NameLeaves old.file (names_after old survive other) found) (sym here)
    (by (names_after old survive other) apart)
  where
    by : (number : Option ℕ) → number ≢ Some taken.number → NameLeaves new.file number found ↔ NameLeaves old.file number found
    by None apart_here = nothing found
      where
        nothing : (f : Option (List ℕ)) → NameLeaves new.file None f ↔ NameLeaves old.file None f
        nothing None = (λ left. left, λ left. left)
        nothing (Some bytes) = (λ left. left, λ left. left)
    by (Some number) apart_here = some found
      where
        is : new.file number ≡ old.file number
        is = taken.others number (λ (e : number ≡ taken.number). apart_here (ap Some e))

        some : (f : Option (List ℕ)) → NameLeaves new.file (Some number) f ↔ NameLeaves old.file (Some number) f
        some None = (λ left. left, λ left. left)
        some (Some bytes) = (subst (λ (file : File). FileLeaves file bytes) is, subst (λ (file : File). FileLeaves file bytes) (sym is))

pub others_leave_same : (old new : Folder) (name : List ℕ) (step : File → File → Type 0) → FileSteps name step old new → OthersLeaveSame name old new
others_leave_same old new name step taken = record { number = taken.number; stands = taken.stands; others = λ survive other found apart. other_files old new name step taken survive other found apart }

-- A change of names leaves the bytes of every file.
pub files_stay : (old new : Folder) (change : Change) → Changes change old new → (number : ℕ) → new.file number ≡ old.file number
files_stay old new change taken number = ap (λ (files : ℕ → File). files number) taken.files
