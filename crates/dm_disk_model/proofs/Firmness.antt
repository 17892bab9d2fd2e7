-- A firm name stays so through each step of its folder.
use Rattle.std.proofs.Common.{◌≡◌, ◌≢◌, ℕ, List, [], ◌∷◌, ◌++◌, length, Some, None, Result, Ok, refl, sym, ◌∙◌, subst}
use Rattle.dm_disk_model.specs.declared.place.Area.{Area}
use Rattle.dm_disk_model.specs.declared.place.Area.TheVariants.{Files}
use Rattle.dm_disk_model.specs.declared.place.Place.{Place}
use Rattle.dm_disk_model.specs.declared.place.DiskFault.{DiskFault}
use Rattle.dm_disk_model.specs.File.{File, IsWritten, IsTorn, IsSynced}
use Rattle.dm_disk_model.specs.Folder.{Folder, Names, Change, Created, Renamed, Removed, FileSteps, Creates, Changes, SyncsNames, after_change, with_name, names_of}
use Rattle.dm_disk_model.specs.Disk.{DiskState, CreateStep, WriteStep, SyncStep, RenameStep, RemoveStep, SyncNamesStep}
use Rattle.dm_disk_model.specs.Firm.{IsAbsent, HasFile}
use Rattle.dm_disk_model.specs.Beside.{IsFirm, IsFirmBut}
use Rattle.dm_disk_model.proofs.PendingNames.{with_name_other, each_now, each_more, each_synced}
use Rattle.dm_disk_model.proofs.FirmNames.{each_same}
use Rattle.dm_disk_model.proofs.Places.{after_done, after_whole}

-- What is firm.
pub firm_file : (folder : Folder) (name : List ℕ) (file : File) → HasFile folder name file → IsFirm name folder
firm_file folder name file has = record { found = Some has.number; named = has.named }

pub firm_absent : (folder : Folder) (name : List ℕ) → IsAbsent name folder → IsFirm name folder
firm_absent folder name absent = record { found = None; named = absent }

pub firm_settled : (folder : Folder) (name : List ℕ) → folder.changes ≡ [] → IsFirm name folder
firm_settled folder name none = record { found = folder.synced name; named = each_synced folder (λ names. names name ≡ folder.synced name) none refl }

-- A firm name under which a file stands has it.
pub has_firm : (folder : Folder) (name : List ℕ) (number : ℕ) → IsFirm name folder → names_of folder name ≡ Some number → HasFile folder name (folder.file number)
has_firm folder name number firm stands =
    let read = each_now folder (λ names. names name ≡ firm.found) firm.named in
    record { number = number; named = λ count. firm.named count ∙ sym read ∙ stands; is = refl }

-- A firm name under which nothing stands never has a file.
pub absent_firm : (folder : Folder) (name : List ℕ) → IsFirm name folder → names_of folder name ≡ None → IsAbsent name folder
absent_firm folder name firm stands count =
    let read = each_now folder (λ names. names name ≡ firm.found) firm.named in
    firm.named count ∙ sym read ∙ stands

-- The steps of a folder.
module _ (name : List ℕ) (old new : Folder) where
  -- a step of a file, whichever, changes no names
  pub firm_by_step : (other : List ℕ) (step : File → File → Type 0) → FileSteps other step old new → IsFirm name old → IsFirm name new
  firm_by_step other step taken firm = record { found = firm.found; named = each_same old new (λ names. names name ≡ firm.found) taken.synced taken.changes firm.named }

  firm_by_change : (change : Change) → after_change (names_of old) change name ≡ names_of old name → new.synced ≡ old.synced → new.changes ≡ old.changes ++ change ∷ [] → IsFirm name old → IsFirm name new
  firm_by_change change stays synced changes firm =
      let P : Names → Type 0 = λ names. names name ≡ firm.found in
      record { found = firm.found; named = each_more old new change P synced changes firm.named (stays ∙ each_now old P firm.named) }

  pub firm_by_create : (other : List ℕ) → other ≢ name → Creates other old new → IsFirm name old → IsFirm name new
  firm_by_create other apart made =
      firm_by_change (Created other made.number) (with_name_other (names_of old) other (Some made.number) name (λ e. apart (sym e))) made.synced made.changes

  pub firm_by_rename : (from to : List ℕ) → from ≢ name → to ≢ name → Changes (Renamed from to) old new → IsFirm name old → IsFirm name new
  firm_by_rename from to not_from not_to taken =
      firm_by_change (Renamed from to)
      (with_name_other (with_name (names_of old) from None) to (names_of old from) name (λ e. not_to (sym e)) ∙ with_name_other (names_of old) from None name (λ e. not_from (sym e)))
      taken.synced taken.changes

  pub firm_by_remove : (other : List ℕ) → other ≢ name → Changes (Removed other) old new → IsFirm name old → IsFirm name new
  firm_by_remove other apart taken =
      firm_by_change (Removed other) (with_name_other (names_of old) other None name (λ e. apart (sym e))) taken.synced taken.changes

  -- a sync of the names makes each firm
  pub firm_by_names : SyncsNames old new → IsFirm name new
  firm_by_names taken = firm_settled new name taken.changes

-- The calls of a disk, whatever they answer: the user's files stay quiet but under the spared names.
module _ (spared : List ℕ → Type 0) (result : Result (Unit {0}) DiskFault) (old new : DiskState) (quiet : IsFirmBut spared old.files) where
  pub quiet_write : (place : Place) (at : ℕ) (bytes : List ℕ) → WriteStep place at bytes result old new → IsFirmBut spared new.files
  quiet_write place at bytes taken =
      after_done (IsFirmBut spared) place.area (FileSteps place.name (IsWritten at bytes)) (FileSteps place.name (IsTorn at (length bytes))) result old new
      (λ folder step name not. firm_by_step name old.files folder place.name (IsWritten at bytes) step (quiet name not))
      (λ folder step name not. firm_by_step name old.files folder place.name (IsTorn at (length bytes)) step (quiet name not))
      quiet taken

  pub quiet_sync : (place : Place) → SyncStep place result old new → IsFirmBut spared new.files
  quiet_sync place taken =
      after_whole (IsFirmBut spared) place.area (FileSteps place.name IsSynced) result old new
      (λ folder step name not. firm_by_step name old.files folder place.name IsSynced step (quiet name not))
      quiet taken

  pub quiet_create : (place : Place) → spared place.name → CreateStep place result old new → IsFirmBut spared new.files
  quiet_create place here taken =
      let keeps = λ (folder : Folder) (step : Creates place.name old.files folder) (name : List ℕ) (not : spared name → ⊥). firm_by_create name old.files folder place.name (λ e. not (subst spared e here)) step (quiet name not) in
      after_done (IsFirmBut spared) place.area (Creates place.name) (Creates place.name) result old new keeps keeps quiet taken

  pub quiet_rename : (from to : Place) → spared from.name → spared to.name → RenameStep from to result old new → IsFirmBut spared new.files
  quiet_rename from to here there taken =
      let keeps = λ (folder : Folder) (step : Changes (Renamed from.name to.name) old.files folder) (name : List ℕ) (not : spared name → ⊥).
      firm_by_rename name old.files folder from.name to.name (λ e. not (subst spared e here)) (λ e. not (subst spared e there)) step (quiet name not) in
      after_done (IsFirmBut spared) from.area (Changes (Renamed from.name to.name)) (Changes (Renamed from.name to.name)) result old new keeps keeps quiet taken

  pub quiet_remove : (place : Place) → spared place.name → RemoveStep place result old new → IsFirmBut spared new.files
  quiet_remove place here taken =
      let keeps = λ (folder : Folder) (step : Changes (Removed place.name) old.files folder) (name : List ℕ) (not : spared name → ⊥). firm_by_remove name old.files folder place.name (λ e. not (subst spared e here)) step (quiet name not) in
      after_done (IsFirmBut spared) place.area (Changes (Removed place.name)) (Changes (Removed place.name)) result old new keeps keeps quiet taken

  pub quiet_names : (area : Area) → SyncNamesStep area result old new → IsFirmBut spared new.files
  quiet_names area taken = after_whole (IsFirmBut spared) area SyncsNames result old new (λ folder step name not. firm_by_names name old.files folder step) quiet taken

-- After an Ok sync of the user's names each of them is firm.
pub all_firm : (old new : DiskState) → SyncNamesStep Files (Ok tt) old new → (name : List ℕ) → IsFirm name new.files
all_firm old new taken name = firm_by_names name old.files new.files taken.0

-- more names are spared
pub quiet_more : (spared more : List ℕ → Type 0) (folder : Folder) → ((name : List ℕ) → spared name → more name) → IsFirmBut spared folder → IsFirmBut more folder
quiet_more spared more folder wider quiet name not = quiet name (λ (here : spared name). not (wider name here))
