-- A name that is given once, by one rename of a settled file, over the steps of a disk.
use Rattle.std.proofs.Common.{◌≡◌, ℕ, List, length, Option, Some, None, Result, Ok, Err, ◌⊎◌, inl, inr, sym, ◌∙◌, ap, subst}
use Rattle.std.specs.Prelude.{◌≢◌}
use Rattle.dm_disk_model.specs.declared.place.Area.{Area}
use Rattle.dm_disk_model.specs.declared.place.Area.TheVariants.{State, Files}
use Rattle.dm_disk_model.specs.declared.place.Place.{Place}
use Rattle.dm_disk_model.specs.declared.place.DiskFault.{DiskFault}
use Rattle.dm_disk_model.specs.File.{File, IsWritten, IsTorn, IsSynced, settled_file}
use Rattle.dm_disk_model.specs.Folder.{Folder, Names, names_of, EachPrefix, Change, Created, Renamed, Removed, after_changes, with_name, FileSteps, Creates, Changes, SyncsNames, NameLeaves, FolderLeaves}
use Rattle.dm_disk_model.specs.Disk.{DiskState, Image, folder_in, folder_of_image, image_at, InArea, MayLeave, bytes_at, CreateStep, WriteStep, SyncStep, RemoveStep, SyncNamesStep}
use Rattle.dm_disk_model.specs.Firm.{IsAbsent, HasFile, LeftOf}
use Rattle.dm_disk_model.specs.Names.{NeverStands, IsSettled, IsGiven, LeavesNothingOr, LeavesNothing, LeavesJust}
use Rattle.dm_disk_model.proofs.PendingNames.{with_name_same, with_name_other, names_more, each_now, each_more, each_synced}
use Rattle.dm_disk_model.proofs.Images.{settled_leaves}
use Rattle.dm_disk_model.proofs.FirmNames.{each_same, left_by, nothing_left, none_left, has_left, has_after_sync}
use Rattle.dm_disk_model.proofs.Reading.{stepped_read}
use Rattle.dm_disk_model.proofs.Places.{in_folder}

-- a property of the names after each prefix, over a sync of the names
each_prefix_synced : (old new : Folder) (P : Names → Type 0) → SyncsNames old new → EachPrefix old P → EachPrefix new P
each_prefix_synced old new P step before = each_synced new P step.changes (subst P (sym step.synced) (each_now old P before))

-- a name that never stands stays so where another name is created, renamed or removed
module _ (name other : List ℕ) (differ : name ≢ other) (old new : Folder) where
  absent_created : Creates other old new → IsAbsent name old → IsAbsent name new
  absent_created step before =
      each_more old new (Created other step.number) (λ names. names name ≡ None) step.synced step.changes before
      (with_name_other (names_of old) other (Some step.number) name differ ∙ each_now old (λ names. names name ≡ None) before)

  absent_removed : Changes (Removed other) old new → IsAbsent name old → IsAbsent name new
  absent_removed step before =
      each_more old new (Removed other) (λ names. names name ≡ None) step.synced step.changes before
      (with_name_other (names_of old) other None name differ ∙ each_now old (λ names. names name ≡ None) before)

-- a property of a folder, over a step in one area
kept_in_area : (a b : Area) (step : Folder → Folder → Type 0) (P : Folder → Type 0) (old new : DiskState) → InArea a step old new → ((f g : Folder) → step f g → P f → P g) → P (folder_in b old) → P (folder_in b new)
kept_in_area State State step P old new taken keeps before = keeps old.state new.state taken.0 before
kept_in_area Files Files step P old new taken keeps before = keeps old.files new.files taken.0 before
kept_in_area State Files step P old new taken keeps before = subst P (sym taken.1) before
kept_in_area Files State step P old new taken keeps before = subst P (sym taken.1) before

-- a step of a file changes no names
absent_stepped : (name other : List ℕ) (step : File → File → Type 0) (f g : Folder) → FileSteps other step f g → IsAbsent name f → IsAbsent name g
absent_stepped name other step f g steps before = each_same f g (λ names. names name ≡ None) steps.synced steps.changes before

same_state : (P : DiskState → Type 0) (old new : DiskState) → new ≡ old → P old → P new
same_state P old new same before = subst P (sym same) before

-- the place never stands, whatever is done at a place of another name
module _ (target place : Place) (differ : target.name ≢ place.name) (old new : DiskState) (before : NeverStands target old) where
  pub absent_create : (result : Result (Unit {0}) DiskFault) → CreateStep place result old new → NeverStands target new
  absent_create (Ok done) step = kept_in_area place.area target.area (Creates place.name) (IsAbsent target.name) old new step (absent_created target.name place.name differ) before
  absent_create (Err fault) (inl step) = kept_in_area place.area target.area (Creates place.name) (IsAbsent target.name) old new step (absent_created target.name place.name differ) before
  absent_create (Err fault) (inr same) = same_state (NeverStands target) old new same before

  pub absent_write : (at : ℕ) (bytes : List ℕ) (result : Result (Unit {0}) DiskFault) → WriteStep place at bytes result old new → NeverStands target new
  absent_write at bytes (Ok done) step = kept_in_area place.area target.area (FileSteps place.name (IsWritten at bytes)) (IsAbsent target.name) old new step (absent_stepped target.name place.name (IsWritten at bytes)) before
  absent_write at bytes (Err fault) (inl step) = kept_in_area place.area target.area (FileSteps place.name (IsTorn at (length bytes))) (IsAbsent target.name) old new step (absent_stepped target.name place.name (IsTorn at (length bytes))) before
  absent_write at bytes (Err fault) (inr same) = same_state (NeverStands target) old new same before

  pub absent_sync : (result : Result (Unit {0}) DiskFault) → SyncStep place result old new → NeverStands target new
  absent_sync (Ok done) step = kept_in_area place.area target.area (FileSteps place.name IsSynced) (IsAbsent target.name) old new step (absent_stepped target.name place.name IsSynced) before
  absent_sync (Err fault) same = same_state (NeverStands target) old new same before

  pub absent_remove : (result : Result (Unit {0}) DiskFault) → RemoveStep place result old new → NeverStands target new
  absent_remove (Ok done) step = kept_in_area place.area target.area (Changes (Removed place.name)) (IsAbsent target.name) old new step (absent_removed target.name place.name differ) before
  absent_remove (Err fault) (inl step) = kept_in_area place.area target.area (Changes (Removed place.name)) (IsAbsent target.name) old new step (absent_removed target.name place.name differ) before
  absent_remove (Err fault) (inr same) = same_state (NeverStands target) old new same before

-- after a sync that answered Ok the file holds what it did, all of it clean
pub settled_sync : (place : Place) (bytes : List ℕ) (old new : DiskState) → bytes_at old place ≡ Some bytes → SyncStep place (Ok tt) old new → IsSettled place bytes new
settled_sync place bytes old new reads step =
    let taken = in_folder place.area (FileSteps place.name IsSynced) old new step in
    let was : Some (((folder_in place.area old).file taken.number).bytes) ≡ Some bytes = sym (stepped_read place.name IsSynced _ _ taken) ∙ reads in
    let held : ((folder_in place.area old).file taken.number).bytes ≡ bytes = cc in
    record {
      number = taken.number;
      stands = ap (λ (s : Names). after_changes s (folder_in place.area new).changes place.name) taken.synced ∙ ap (λ (cs : List Change). after_changes (folder_in place.area old).synced cs place.name) taken.changes ∙ taken.stands;
      settled = taken.stepped ∙ ap settled_file held;
    }

-- A rename of a settled file gives the new name, whose file is whole in whichever image has it.
given_changed : (from to : List ℕ) (bytes : List ℕ) (old new : Folder) (number : ℕ) → names_of old from ≡ Some number → old.file number ≡ settled_file bytes
    → IsAbsent to old → Changes (Renamed from to) old new → IsGiven to bytes new
given_changed from to bytes old new number stands settled absent step = record {
  number = number;
  names = each_more old new (Renamed from to) (λ names. (names to ≡ None) ⊎ (names to ≡ Some number)) step.synced step.changes (λ count. inl (absent count)) (inr (with_name_same (with_name (names_of old) from None) to (names_of old from) ∙ stands));
  settled = ap (λ (files : ℕ → File). files number) step.files ∙ settled;
}

pub given_rename : (from to : Place) (bytes : List ℕ) (old new : DiskState) → to.area ≡ from.area → IsSettled from bytes old → NeverStands to old
    → InArea from.area (Changes (Renamed from.name to.name)) old new → IsGiven to.name bytes (folder_in to.area new)
given_rename from to bytes old new one_area settled absent taken =
    subst (λ (a : Area). IsGiven to.name bytes (folder_in a new)) (sym one_area)
    (given_changed from.name to.name bytes _ _ settled.number settled.stands settled.settled (subst (λ (a : Area). IsAbsent to.name (folder_in a old)) one_area absent)
    (in_folder from.area (Changes (Renamed from.name to.name)) old new taken))

-- a sync of names keeps it
given_synced : (name bytes : List ℕ) (old new : Folder) → SyncsNames old new → IsGiven name bytes old → IsGiven name bytes new
given_synced name bytes old new step given = record {
  number = given.number;
  names = each_prefix_synced old new (λ names. (names name ≡ None) ⊎ (names name ≡ Some given.number)) step given.names;
  settled = ap (λ (files : ℕ → File). files given.number) step.files ∙ given.settled;
}

pub given_names_synced : (target : Place) (bytes : List ℕ) (area : Area) (result : Result (Unit {0}) DiskFault) (old new : DiskState) → SyncNamesStep area result old new
    → IsGiven target.name bytes (folder_in target.area old) → IsGiven target.name bytes (folder_in target.area new)
given_names_synced target bytes area (Ok done) old new step given = kept_in_area area target.area SyncsNames (IsGiven target.name bytes) old new step (given_synced target.name bytes) given
given_names_synced target bytes area (Err fault) old new same given = subst (λ (d : DiskState). IsGiven target.name bytes (folder_in target.area d)) (sym same) given

absent_synced : (name : List ℕ) (old new : Folder) → SyncsNames old new → IsAbsent name old → IsAbsent name new
absent_synced name old new step before = each_prefix_synced old new (λ names. names name ≡ None) step before

pub absent_names_synced : (target : Place) (area : Area) (result : Result (Unit {0}) DiskFault) (old new : DiskState) → SyncNamesStep area result old new → NeverStands target old → NeverStands target new
absent_names_synced target area (Ok done) old new step before = kept_in_area area target.area SyncsNames (IsAbsent target.name) old new step (absent_synced target.name) before
absent_names_synced target area (Err fault) old new same before = same_state (NeverStands target) old new same before

-- a settled file is left as it is
left_settled : (bytes : List ℕ) (found : Option (List ℕ)) → LeftOf (settled_file bytes) found → found ≡ Some bytes
left_settled bytes found left = left.is ∙ ap Some (settled_leaves bytes left.bytes left.left)

folder_leaves : (area : Area) (disk : DiskState) (image : Image) → MayLeave disk image → FolderLeaves (folder_in area disk) (folder_of_image area image)
folder_leaves State disk image leaves = leaves.state
folder_leaves Files disk image leaves = leaves.files

-- where the name never stands, no image has it
pub absent_leaves : (place : Place) (disk : DiskState) → NeverStands place disk → LeavesNothing place disk
absent_leaves place disk absent image leaves = none_left (folder_in place.area disk) place.name (folder_of_image place.area image) absent (folder_leaves place.area disk image leaves)

-- where the name was given, each image has nothing there, or the whole file
pub given_leaves : (place : Place) (bytes : List ℕ) (disk : DiskState) → IsGiven place.name bytes (folder_in place.area disk) → LeavesNothingOr place bytes disk
given_leaves place bytes disk given image leaves =
    let left = folder_leaves place.area disk image leaves in
    let folder = folder_in place.area disk in
    elim (given.names left.survive) [
      | inl none ↦ inl (nothing_left folder.file (image_at image place) (subst (λ (n : Option ℕ). NameLeaves folder.file n (image_at image place)) none (left.each place.name)))
      | inr some ↦ inr (left_settled bytes (image_at image place) (left_by folder.file given.number (settled_file bytes) (image_at image place) given.settled (subst (λ (n : Option ℕ). NameLeaves folder.file n (image_at image place)) some (left.each place.name))))
    ]

-- A name that has a settled file leaves just that.
just_leaves : (place : Place) (bytes : List ℕ) (disk : DiskState) → HasFile (folder_in place.area disk) place.name (settled_file bytes) → LeavesJust place bytes disk
just_leaves place bytes disk has image leaves =
    left_settled bytes (image_at image place) (has_left (folder_in place.area disk) place.name (settled_file bytes) (folder_of_image place.area image) has (folder_leaves place.area disk image leaves))

-- A settled file that was renamed, with the names synced since, is in each image.
pub just_published : (from to : Place) (bytes : List ℕ) (old mid new : DiskState) → to.area ≡ from.area → IsSettled from bytes old
    → InArea from.area (Changes (Renamed from.name to.name)) old mid → InArea to.area SyncsNames mid new → LeavesJust to bytes new
just_published from to bytes old mid new one_area settled renamed synced =
    let step = in_folder from.area (Changes (Renamed from.name to.name)) old mid renamed in
    let named : names_of (folder_in from.area mid) to.name ≡ Some settled.number =
    ap (λ (ns : Names). ns to.name) (names_more (folder_in from.area old) (folder_in from.area mid) (Renamed from.name to.name) step.synced step.changes) ∙ with_name_same (with_name (names_of (folder_in from.area old)) from.name None) to.name (names_of (folder_in from.area old) from.name) ∙ settled.stands in
    let whole : (folder_in from.area mid).file settled.number ≡ settled_file bytes = ap (λ (files : ℕ → File). files settled.number) step.files ∙ settled.settled in
    let has : HasFile (folder_in to.area new) to.name ((folder_in to.area mid).file settled.number) =
    has_after_sync (folder_in to.area mid) (folder_in to.area new) to.name settled.number
    (subst (λ (a : Area). names_of (folder_in a mid) to.name ≡ Some settled.number) (sym one_area) named) (in_folder to.area SyncsNames mid new synced) in
    just_leaves to bytes new (subst (HasFile (folder_in to.area new) to.name) (subst (λ (a : Area). (folder_in a mid).file settled.number ≡ settled_file bytes) (sym one_area) whole) has)
