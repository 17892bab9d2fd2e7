-- A sync takes images away, and never adds one.
use Rattle.std.proofs.Common.{◌≡◌, ⊎_elim, ℕ, ◌≤◌, List, [], length, take, Option, Some, None, Result, Ok, Err, refl, sym, ◌∙◌, ap, subst, arith}
use Rattle.std.proofs.lemmas.Bool.{cases_eq}
use Rattle.std.proofs.lemmas.List.{take_all}
use Rattle.std.proofs.lemmas.Grind.{same_number_lists}
use Rattle.std.specs.Option.{option_map}
use Rattle.dm_disk_model.specs.declared.place.Area.{Area}
use Rattle.dm_disk_model.specs.declared.place.Area.TheVariants.{State, Files}
use Rattle.dm_disk_model.specs.declared.place.Place.{Place}
use Rattle.dm_disk_model.specs.declared.place.DiskFault.{DiskFault}
use Rattle.dm_disk_model.specs.File.{File, FileLeaves, IsSynced, synced_file}
use Rattle.dm_disk_model.specs.Folder.{Folder, Names, Change, FolderLeaves, NameLeaves, FileSteps, SyncsNames, IsSoundFolder, after_changes, names_of, names_after, contents_of}
use Rattle.dm_disk_model.specs.Disk.{DiskState, History, Image, Next, MayLeave, IsSoundDisk, SyncStep, SyncNamesStep, bytes_at, folder_in, now}
use Rattle.dm_disk_model.proofs.Images.{file_as_read}
use Rattle.dm_disk_model.proofs.Places.{names_reads}
use Rattle.dm_disk_model.proofs.Reaching.{at_start, over_call, joined, weaker, at_end}
use Rattle.dm_journal.specs.AtRest.{journal_name, journal_place}
use Rattle.dm_journal.specs.Reading.{SyncsOnly}
use Rattle.dm_journal.proofs.Calls.{keeps_then}

-- what a crash leaves of a synced file are its bytes, which it may leave of the file before
synced_left : (old : File) (bytes : List ℕ) → old.synced ≤ length old.bytes → FileLeaves (synced_file old) bytes → FileLeaves old bytes
synced_left old bytes within left =
    let same : bytes ≡ old.bytes =
    same_number_lists bytes old.bytes (omega (arith, left.no_shorter, left.no_longer)) (λ k below. left.clean k (record { below = omega (arith, left.no_longer); untouched = tt })) in
    subst (FileLeaves old) (sym same) (file_as_read old within)

-- so of the folder, when one of its files is synced
sync_fewer : (old new : Folder) (name : List ℕ) (image : List ℕ → Option (List ℕ)) → IsSoundFolder old → FileSteps name IsSynced old new → FolderLeaves new image → FolderLeaves old image
sync_fewer old new name image sound taken left = record {
  survive = left.survive;
  each = λ other.
      let same : names_after new left.survive ≡ names_after old left.survive = cc in
      by (names_after old left.survive other) (image other) (subst (λ (names : Names). NameLeaves new.file (names other) (image other)) same (left.each other));
}
  where
    by_file : (number : ℕ) (bytes : List ℕ) → FileLeaves (new.file number) bytes → FileLeaves (old.file number) bytes
    by_file number bytes leaves =
        ⊎_elim
        (λ (here : number ≡ taken.number).
        subst (λ (n : ℕ). FileLeaves (old.file n) bytes) (sym here)
        (synced_left (old.file taken.number) bytes (sound.within taken.number)
        (subst (λ (f : File). FileLeaves f bytes) taken.stepped (subst (λ (n : ℕ). FileLeaves (new.file n) bytes) here leaves))))
        (λ (beside : number ≡ taken.number → ⊥). subst (λ (f : File). FileLeaves f bytes) (taken.others number beside) leaves)
        (cases_eq number taken.number)

    by : (number : Option ℕ) (found : Option (List ℕ)) → NameLeaves new.file number found → NameLeaves old.file number found
    by None None leaves = leaves
    by None (Some bytes) leaves = leaves
    by (Some number) None leaves = leaves
    by (Some number) (Some bytes) leaves = by_file number bytes leaves

-- and when its names are synced
names_fewer : (old new : Folder) (image : List ℕ → Option (List ℕ)) → SyncsNames old new → FolderLeaves new image → FolderLeaves old image
names_fewer old new image taken left = record {
  survive = length old.changes;
  each = λ other.
      let none : take left.survive new.changes ≡ [] = ap (take left.survive) taken.changes ∙ take_all {A = Change} left.survive [] (omega arith) in
      let after : names_after new left.survive ≡ names_of old = ap (after_changes new.synced) none ∙ taken.synced in
      let all : names_after old (length old.changes) ≡ names_of old = ap (after_changes old.synced) (take_all (length old.changes) old.changes (omega arith)) in
      subst (λ (files : ℕ → File). NameLeaves files (names_after old (length old.changes) other) (image other)) taken.files
      (subst (λ (names : Names). NameLeaves new.file (names other) (image other)) (after ∙ sym all) (left.each other));
}

-- the same of the disk, whatever the call answers
sync_images : (result : Result (Unit {0}) DiskFault) (old new : DiskState) → IsSoundDisk old → SyncStep journal_place result old new → (image : Image) → MayLeave new image → MayLeave old image
sync_images (Ok done) old new sound step image left =
    record { state = sync_fewer old.state new.state journal_name image.state sound.state step.0 left.state; files = subst (λ (f : Folder). FolderLeaves f image.files) step.1 left.files }
sync_images (Err fault) old new sound same image left = subst (λ (d : DiskState). MayLeave d image) same left

names_images : (result : Result (Unit {0}) DiskFault) (old new : DiskState) → SyncNamesStep State result old new → (image : Image) → MayLeave new image → MayLeave old image
names_images (Ok done) old new step image left =
    record { state = names_fewer old.state new.state image.state step.0 left.state; files = subst (λ (f : Folder). FolderLeaves f image.files) step.1 left.files }
names_images (Err fault) old new same image left = subst (λ (d : DiskState). MayLeave d image) same left

-- all places read as before
sync_contents : (old new : Folder) (name : List ℕ) → FileSteps name IsSynced old new → (other : List ℕ) → contents_of new other ≡ contents_of old other
sync_contents old new name taken other =
    let same : names_of new ≡ names_of old = ap (λ (s : Names). after_changes s new.changes) taken.synced ∙ ap (after_changes old.synced) taken.changes in
    ap (λ (names : Names). option_map (λ number. (new.file number).bytes) (names other)) same ∙ by (names_of old other)
  where
    bytes : (number : ℕ) → (new.file number).bytes ≡ (old.file number).bytes
    bytes number =
        ⊎_elim
        (λ (here : number ≡ taken.number). subst (λ (n : ℕ). (new.file n).bytes ≡ (old.file n).bytes) (sym here) (ap (λ (f : File). f.bytes) taken.stepped))
        (λ (beside : number ≡ taken.number → ⊥). ap (λ (f : File). f.bytes) (taken.others number beside))
        (cases_eq number taken.number)

    by : (number : Option ℕ) → option_map (λ k. (new.file k).bytes) number ≡ option_map (λ k. (old.file k).bytes) number
    by None = refl
    by (Some k) = ap Some (bytes k)

sync_places : (result : Result (Unit {0}) DiskFault) (old new : DiskState) → SyncStep journal_place result old new → (place : Place) → bytes_at new place ≡ bytes_at old place
sync_places (Ok done) old new step place = by_area place.area place.name
  where
    by_area : (area : Area) (name : List ℕ) → contents_of (folder_in area new) name ≡ contents_of (folder_in area old) name
    by_area State name = sync_contents old.state new.state journal_name step.0 name
    by_area Files name = ap (λ (f : Folder). contents_of f name) step.1
sync_places (Err fault) old new same place = ap (λ (d : DiskState). bytes_at d place) same

-- the user's files stay
sync_files : (result : Result (Unit {0}) DiskFault) (old new : DiskState) → SyncStep journal_place result old new → new.files ≡ old.files
sync_files (Ok done) old new step = step.1
sync_files (Err fault) old new same = ap (λ (d : DiskState). d.files) same

names_files : (result : Result (Unit {0}) DiskFault) (old new : DiskState) → SyncNamesStep State result old new → new.files ≡ old.files
names_files (Ok done) old new step = step.1
names_files (Err fault) old new same = ap (λ (d : DiskState). d.files) same

-- a call that is a sync
syncs_step : (old new : History) (step : DiskState → DiskState → Type 0) → Next old new step → ((image : Image) → MayLeave (now new) image → MayLeave (now old) image)
    → ((place : Place) → bytes_at (now new) place ≡ bytes_at (now old) place) → (now new).files ≡ (now old).files → SyncsOnly old new
syncs_step old new step next images places files = record {
  images = over_call old new (λ disk. (image : Image) → MayLeave disk image → MayLeave (now old) image) step next (λ image left. left) images;
  reads = places;
  files = over_call old new (λ disk. disk.files ≡ (now old).files) step next refl files;
}

pub names_only : (result : Result (Unit {0}) DiskFault) (old new : History) → Next old new (SyncNamesStep State result) → SyncsOnly old new
names_only result old new next =
    syncs_step old new (SyncNamesStep State result) next (names_images result (now old) (now new) next.stepped) (names_reads State result (now old) (now new) next.stepped) (names_files result (now old) (now new) next.stepped)

pub sync_only : (result : Result (Unit {0}) DiskFault) (old new : History) → IsSoundDisk (now old) → Next old new (SyncStep journal_place result) → SyncsOnly old new
sync_only result old new sound next =
    syncs_step old new (SyncStep journal_place result) next (sync_images result (now old) (now new) sound next.stepped) (sync_places result (now old) (now new) next.stepped) (sync_files result (now old) (now new) next.stepped)

-- one after another
pub syncs_then : (first middle last : History) → SyncsOnly first middle → SyncsOnly middle last → SyncsOnly first last
syncs_then first middle last before after = record {
  images = joined first middle last (λ disk. (image : Image) → MayLeave disk image → MayLeave (now first) image) before.images
      (weaker middle last (λ disk. (image : Image) → MayLeave disk image → MayLeave (now middle) image) (λ disk. (image : Image) → MayLeave disk image → MayLeave (now first) image)
      (λ disk leaves image left. at_end first middle (λ d. (i : Image) → MayLeave d i → MayLeave (now first) i) before.images image (leaves image left)) after.images);
  reads = λ place. after.reads place ∙ before.reads place;
  files = keeps_then first middle last before.files after.files;
}

-- nothing was done
pub syncs_same : (old new : History) → new ≡ old → SyncsOnly old new
syncs_same old new same =
    subst (SyncsOnly old) (sym same)
    (record { images = at_start old (λ disk. (image : Image) → MayLeave disk image → MayLeave (now old) image) (λ image left. left); reads = λ place. refl; files = at_start old (λ disk. disk.files ≡ (now old).files) refl })
