-- What the calls of a disk do to the places as they read.
use Rattle.std.proofs.Common.{◌≡◌, ℕ, List, [], length, Option, Some, None, IsSome, Result, Ok, Err, ◌⊎◌, inl, inr, refl, sym, ◌∙◌, ap, subst}
use Rattle.std.specs.Prelude.{◌≢◌}
use Rattle.std.specs.Option.{option_map}
use Rattle.dm_disk_model.specs.declared.place.Area.{Area}
use Rattle.dm_disk_model.specs.declared.place.Area.TheVariants.{State, Files}
use Rattle.dm_disk_model.specs.declared.place.Place.{Place}
use Rattle.dm_disk_model.specs.declared.place.DiskFault.{DiskFault}
use Rattle.dm_disk_model.specs.File.{File, IsWritten, IsTorn, IsSynced, overwrite}
use Rattle.dm_disk_model.specs.Folder.{Folder, names_of, contents_of, Renamed, Removed, FileSteps, Creates, Changes, IsSoundFolder}
use Rattle.dm_disk_model.specs.Disk.{DiskState, folder_in, InArea, Done, DoneWhole, Stands, StandsNot, bytes_at, ChangesOnly, IsSoundDisk, CreateStep, WriteStep, SyncStep, RenameStep, RemoveStep, SyncNamesStep}
use Rattle.dm_disk_model.proofs.Reading.{created_reads, created_others, renamed_to, renamed_from, renamed_others, removed_reads, removed_others, names_synced_reads, stepped_others, stepped_reads, stepped_read, apart_now}

abbrev place_at : Area → List ℕ → Place
place_at area name = record { area = area; name = name }

-- a step in one folder, seen from a place of it
pub in_folder : (area : Area) (step : Folder → Folder → Type 0) (old new : DiskState) → InArea area step old new → step (folder_in area old) (folder_in area new)
in_folder State step old new taken = taken.0
in_folder Files step old new taken = taken.0

-- what holds of the user's files, over a step in one folder
among_files : (P : Folder → Type 0) (area : Area) (step : Folder → Folder → Type 0) (old new : DiskState) → ((folder : Folder) → step old.files folder → P folder) → P old.files → InArea area step old new → P new.files
among_files P Files step old new keeps before taken = keeps new.files taken.0
among_files P State step old new keeps before taken = subst P (sym taken.1) before

-- A call: what holds of the user's files stays where the step keeps it, done or begun.
pub after_done : (P : Folder → Type 0) (area : Area) (step begun : Folder → Folder → Type 0) (result : Result (Unit {0}) DiskFault) (old new : DiskState) → ((folder : Folder) → step old.files folder → P folder)
    → ((folder : Folder) → begun old.files folder → P folder) → P old.files → Done (InArea area step) (InArea area begun) result old new → P new.files
after_done P area step begun (Ok done) old new keeps keeps_begun before taken = among_files P area step old new keeps before taken
after_done P area step begun (Err fault) old new keeps keeps_begun before (inl taken) = among_files P area begun old new keeps_begun before taken
after_done P area step begun (Err fault) old new keeps keeps_begun before (inr same) = subst (λ (disk : DiskState). P disk.files) (sym same) before

-- the same of a call that changes nothing where it fails
pub after_whole : (P : Folder → Type 0) (area : Area) (step : Folder → Folder → Type 0) (result : Result (Unit {0}) DiskFault) (old new : DiskState) → ((folder : Folder) → step old.files folder → P folder)
    → P old.files → DoneWhole (InArea area step) result old new → P new.files
after_whole P area step (Ok done) old new keeps before taken = among_files P area step old new keeps before taken
after_whole P area step (Err fault) old new keeps before same = subst (λ (disk : DiskState). P disk.files) (sym same) before

-- A step that leaves all other names of its folder leaves all other places.
pub others_in_area : (place : Place) (step : Folder → Folder → Type 0) (old new : DiskState) → InArea place.area step old new
    → ((name : List ℕ) → name ≢ place.name → contents_of (folder_in place.area new) name ≡ contents_of (folder_in place.area old) name)
    → ChangesOnly place old new
others_in_area place step old new taken same other differ = by_area place.area other.area place.name other.name taken same (λ e. differ e) where
  by_area : (a b : Area) (m n : List ℕ) → InArea a step old new
      → ((name : List ℕ) → name ≢ m → contents_of (folder_in a new) name ≡ contents_of (folder_in a old) name)
      → place_at b n ≢ place_at a m → contents_of (folder_in b new) n ≡ contents_of (folder_in b old) n
  by_area State State m n t h d = h n (λ e. d (ap (place_at State) e))
  by_area Files Files m n t h d = h n (λ e. d (ap (place_at Files) e))
  by_area State Files m n t h d = ap (λ (f : Folder). contents_of f n) t.1
  by_area Files State m n t h d = ap (λ (f : Folder). contents_of f n) t.1

-- where something reads, something stands
pub stands_from : (disk : DiskState) (place : Place) (bytes : List ℕ) → bytes_at disk place ≡ Some bytes → Stands disk place
stands_from disk place bytes reads = by_number (names_of (folder_in place.area disk) place.name) reads where
  by_number : (number : Option ℕ) → option_map (λ k. ((folder_in place.area disk).file k).bytes) number ≡ Some bytes → IsSome number
  by_number None e = cc
  by_number (Some k) e = refl

-- where nothing reads, nothing stands
pub stands_not_from : (disk : DiskState) (place : Place) → bytes_at disk place ≡ None → StandsNot disk place
stands_not_from disk place reads = by_number (names_of (folder_in place.area disk) place.name) reads where
  by_number : (number : Option ℕ) → option_map (λ k. ((folder_in place.area disk).file k).bytes) number ≡ None → number ≡ None
  by_number None e = refl
  by_number (Some k) e = cc

sound_in : (area : Area) (disk : DiskState) → IsSoundDisk disk → IsSoundFolder (folder_in area disk)
sound_in State disk sound = sound.state
sound_in Files disk sound = sound.files

pub create_others : (place : Place) (result : Result (Unit {0}) DiskFault) (old new : DiskState) → CreateStep place result old new → ChangesOnly place old new
create_others place (Ok done) old new step = others_in_area place (Creates place.name) old new step (created_others place.name _ _ (in_folder place.area (Creates place.name) old new step))
create_others place (Err fault) old new (inl step) = others_in_area place (Creates place.name) old new step (created_others place.name _ _ (in_folder place.area (Creates place.name) old new step))
create_others place (Err fault) old new (inr same) = λ other differ. ap (λ (d : DiskState). bytes_at d other) same

pub create_reads : (place : Place) (old new : DiskState) → CreateStep place (Ok tt) old new → bytes_at new place ≡ Some []
create_reads place old new step = created_reads place.name _ _ (in_folder place.area (Creates place.name) old new step)

module _ (place : Place) (old new : DiskState) (sound : IsSoundDisk old) where
  -- a step of one file leaves every other place
  file_others : (step : File → File → Type 0) → InArea place.area (FileSteps place.name step) old new → ChangesOnly place old new
  file_others step taken =
      others_in_area place (FileSteps place.name step) old new taken
      (stepped_others place.name step _ _ (in_folder place.area (FileSteps place.name step) old new taken) (apart_now _ (sound_in place.area old sound)))

  pub write_others : (at : ℕ) (bytes : List ℕ) (result : Result (Unit {0}) DiskFault) → WriteStep place at bytes result old new → ChangesOnly place old new
  write_others at bytes (Ok done) step = file_others (IsWritten at bytes) step
  write_others at bytes (Err fault) (inl step) = file_others (IsTorn at (length bytes)) step
  write_others at bytes (Err fault) (inr same) = λ other differ. ap (λ (d : DiskState). bytes_at d other) same

  pub sync_others : (result : Result (Unit {0}) DiskFault) → SyncStep place result old new → ChangesOnly place old new
  sync_others (Ok done) step = file_others IsSynced step
  sync_others (Err fault) same = λ other differ. ap (λ (d : DiskState). bytes_at d other) same

-- what was written reads over what was there
pub write_reads : (place : Place) (at : ℕ) (bytes file : List ℕ) (old new : DiskState) → bytes_at old place ≡ Some file → WriteStep place at bytes (Ok tt) old new → bytes_at new place ≡ Some (overwrite file at bytes)
write_reads place at bytes file old new reads step =
    let taken = in_folder place.area (FileSteps place.name (IsWritten at bytes)) old new step in
    let was : Some (((folder_in place.area old).file taken.number).bytes) ≡ Some file = sym (stepped_read place.name (IsWritten at bytes) _ _ taken) ∙ reads in
    let held : ((folder_in place.area old).file taken.number).bytes ≡ file = cc in
    stepped_reads place.name (IsWritten at bytes) _ _ taken ∙ ap Some (taken.stepped.bytes ∙ ap (λ (f : List ℕ). overwrite f at bytes) held)

pub sync_reads : (place : Place) (old new : DiskState) → SyncStep place (Ok tt) old new → bytes_at new place ≡ bytes_at old place
sync_reads place old new step =
    let taken = in_folder place.area (FileSteps place.name IsSynced) old new step in
    stepped_reads place.name IsSynced _ _ taken ∙ ap (λ (f : File). Some f.bytes) taken.stepped ∙ sym (stepped_read place.name IsSynced _ _ taken)

pub remove_others : (place : Place) (result : Result (Unit {0}) DiskFault) (old new : DiskState) → RemoveStep place result old new → ChangesOnly place old new
remove_others place (Ok done) old new step = others_in_area place (Changes (Removed place.name)) old new step (removed_others place.name _ _ (in_folder place.area (Changes (Removed place.name)) old new step))
remove_others place (Err fault) old new (inl step) = others_in_area place (Changes (Removed place.name)) old new step (removed_others place.name _ _ (in_folder place.area (Changes (Removed place.name)) old new step))
remove_others place (Err fault) old new (inr same) = λ other differ. ap (λ (d : DiskState). bytes_at d other) same

pub remove_reads : (place : Place) (old new : DiskState) → RemoveStep place (Ok tt) old new → bytes_at new place ≡ None
remove_reads place old new step = removed_reads place.name _ _ (in_folder place.area (Changes (Removed place.name)) old new step)

-- a sync of names changes nothing that reads
pub names_reads : (area : Area) (result : Result (Unit {0}) DiskFault) (old new : DiskState) → SyncNamesStep area result old new → (place : Place) → bytes_at new place ≡ bytes_at old place
names_reads State (Ok done) old new step place = by_area place.area place.name where
  by_area : (a : Area) (n : List ℕ) → contents_of (folder_in a new) n ≡ contents_of (folder_in a old) n
  by_area State n = names_synced_reads _ _ step.0 n
  by_area Files n = ap (λ (f : Folder). contents_of f n) step.1
names_reads Files (Ok done) old new step place = by_area place.area place.name where
  by_area : (a : Area) (n : List ℕ) → contents_of (folder_in a new) n ≡ contents_of (folder_in a old) n
  by_area State n = ap (λ (f : Folder). contents_of f n) step.1
  by_area Files n = names_synced_reads _ _ step.0 n
names_reads area (Err fault) old new same place = ap (λ (d : DiskState). bytes_at d place) same

-- a rename is seen at its two places alone
module _ (from to : Place) (one_area : to.area ≡ from.area) (old new : DiskState) where
  moved : Changes (Renamed from.name to.name) (folder_in from.area old) (folder_in from.area new) → from.name ≢ to.name
      → (bytes_at new to ≡ bytes_at old from) × (bytes_at new from ≡ None)
  moved step differ = (
    ap (λ (a : Area). contents_of (folder_in a new) to.name) one_area ∙ renamed_to from.name to.name _ _ step,
    renamed_from from.name to.name _ _ differ step,
  )

  pub rename_reads : from.name ≢ to.name → RenameStep from to (Ok tt) old new → (bytes_at new to ≡ bytes_at old from) × (bytes_at new from ≡ None)
  rename_reads differ step = moved (in_folder from.area (Changes (Renamed from.name to.name)) old new step) differ

  other_places : InArea from.area (Changes (Renamed from.name to.name)) old new → (other : Place) → other ≢ from → other ≢ to → bytes_at new other ≡ bytes_at old other
  other_places taken other not_from not_to = by_area from.area other.area other.name to.area one_area taken (λ e. not_from e) (λ e. not_to e) where
    by_area : (a b : Area) (n : List ℕ) (c : Area) → c ≡ a → InArea a (Changes (Renamed from.name to.name)) old new
        → place_at b n ≢ place_at a from.name → place_at b n ≢ place_at c to.name → contents_of (folder_in b new) n ≡ contents_of (folder_in b old) n
    by_area State State n c e t h k = renamed_others from.name to.name _ _ t.0 n (λ q. h (ap (place_at State) q)) (λ q. k (ap (place_at State) q ∙ ap (λ (x : Area). place_at x to.name) (sym e)))
    by_area Files Files n c e t h k = renamed_others from.name to.name _ _ t.0 n (λ q. h (ap (place_at Files) q)) (λ q. k (ap (place_at Files) q ∙ ap (λ (x : Area). place_at x to.name) (sym e)))
    by_area State Files n c e t h k = ap (λ (f : Folder). contents_of f n) t.1
    by_area Files State n c e t h k = ap (λ (f : Folder). contents_of f n) t.1

  pub rename_others : (result : Result (Unit {0}) DiskFault) → RenameStep from to result old new → (other : Place) → other ≢ from → other ≢ to → bytes_at new other ≡ bytes_at old other
  rename_others (Ok done) step = other_places step
  rename_others (Err fault) (inl step) = other_places step
  rename_others (Err fault) (inr same) = λ other not_from not_to. ap (λ (d : DiskState). bytes_at d other) same

  -- a rename that fails has been done, or has not
  pub rename_may : (fault : DiskFault) → from.name ≢ to.name → RenameStep from to (Err fault) old new → (bytes_at new to ≡ bytes_at old from) ⊎ (bytes_at new to ≡ bytes_at old to)
  rename_may fault differ (inl step) = inl (moved (in_folder from.area (Changes (Renamed from.name to.name)) old new step) differ).0
  rename_may fault differ (inr same) = inr (ap (λ (d : DiskState). bytes_at d to) same)
