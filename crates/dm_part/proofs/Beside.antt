-- Calls at other names leave a claim and the shortness of a part.
use Rattle.std.proofs.Common.{◌≡◌, ◌≢◌, ℕ, List, length, Option, Result, sym, subst}
use Rattle.dm_disk_model.specs.declared.place.Area.{Area}
use Rattle.dm_disk_model.specs.declared.place.Area.TheVariants.{Files}
use Rattle.dm_disk_model.specs.declared.place.DiskFault.{DiskFault}
use Rattle.dm_disk_model.specs.File.{File, IsWritten, IsTorn, IsSynced}
use Rattle.dm_disk_model.specs.Folder.{Folder, Renamed, Removed, FileSteps, Creates, Changes, SyncsNames, names_of}
use Rattle.dm_disk_model.specs.Firm.{HasFile}
use Rattle.dm_disk_model.specs.Disk.{now, DiskState, IsSoundDisk, CreateStep, WriteStep, SyncStep, RenameStep, RemoveStep, SyncNamesStep}
use Rattle.dm_part.specs.Keeping.{Claim, Held, IsShort}
use Rattle.dm_part.specs.Laws.{files_place, HeldOn, ShortOn, IsOther, LeftByOthers}
use Rattle.dm_part.proofs.Frame.{held_step, held_change, held_create, held_synced, short_step, short_change, short_create, short_synced, removed_beside, renamed_beside}
use Rattle.dm_part.proofs.Turns.{over_one}
use Rattle.dm_disk_model.proofs.Places.{after_done, after_whole}
use Rattle.dm_disk_model.proofs.Reaching.{weaker}

-- where no file of the user's changed
pub files_same : (P : Folder → Type 0) (old new : DiskState) → new.files ≡ old.files → P old.files → P new.files
files_same P old new same before = subst P (sym same) before

module _ (says : ℕ → ℕ → Type 0) (claim : Claim) (result : Result (Unit {0}) DiskFault) (old new : DiskState) (held : Held says old.files claim) where
  claim_on : Folder → Type 0
  claim_on folder = Held says folder claim

  pub write_beside : (other : List ℕ) (file : File) (at : ℕ) (piece : List ℕ) → IsSoundDisk old → HasFile old.files other file → IsOther claim other → WriteStep (files_place other) at piece result old new → Held says new.files claim
  unfolding claim_on
  write_beside other file at piece sound has apart taken =
      after_done claim_on Files (FileSteps other (IsWritten at piece)) (FileSteps other (IsTorn at (length piece))) result old new
      (λ folder step. held_step old.files folder other (IsWritten at piece) file sound.files has step says claim apart.part apart.name held)
      (λ folder step. held_step old.files folder other (IsTorn at (length piece)) file sound.files has step says claim apart.part apart.name held)
      held taken

  pub sync_beside : (other : List ℕ) (file : File) → IsSoundDisk old → HasFile old.files other file → IsOther claim other → SyncStep (files_place other) result old new → Held says new.files claim
  unfolding claim_on
  sync_beside other file sound has apart taken =
      after_whole claim_on Files (FileSteps other IsSynced) result old new
      (λ folder step. held_step old.files folder other IsSynced file sound.files has step says claim apart.part apart.name held)
      held taken

  pub create_beside : (other : List ℕ) → IsOther claim other → CreateStep (files_place other) result old new → Held says new.files claim
  unfolding claim_on
  create_beside other apart taken =
      let keeps = λ (folder : Folder) (step : Creates other old.files folder). held_create old.files folder other step says claim (λ e. apart.part (sym e)) (λ e. apart.name (sym e)) held in
      after_done claim_on Files (Creates other) (Creates other) result old new keeps keeps held taken

  pub rename_beside : (from to : List ℕ) → IsOther claim from → IsOther claim to → RenameStep (files_place from) (files_place to) result old new → Held says new.files claim
  unfolding claim_on
  rename_beside from to not_from not_to taken =
      let names = names_of old.files in
      let keeps = λ (folder : Folder) (step : Changes (Renamed from to) old.files folder). held_change old.files folder (Renamed from to) step says claim
      (renamed_beside names from to claim.part (λ e. not_from.part (sym e)) (λ e. not_to.part (sym e)))
      (renamed_beside names from to claim.name (λ e. not_from.name (sym e)) (λ e. not_to.name (sym e))) held in
      after_done claim_on Files (Changes (Renamed from to)) (Changes (Renamed from to)) result old new keeps keeps held taken

  pub remove_beside : (other : List ℕ) → IsOther claim other → RemoveStep (files_place other) result old new → Held says new.files claim
  unfolding claim_on
  remove_beside other apart taken =
      let names = names_of old.files in
      let keeps = λ (folder : Folder) (step : Changes (Removed other) old.files folder). held_change old.files folder (Removed other) step says claim
      (removed_beside names other claim.part (λ e. apart.part (sym e)))
      (removed_beside names other claim.name (λ e. apart.name (sym e))) held in
      after_done claim_on Files (Changes (Removed other)) (Changes (Removed other)) result old new keeps keeps held taken

  -- a sync of names, of which folder so ever
  pub names_beside : (area : Area) → SyncNamesStep area result old new → Held says new.files claim
  unfolding claim_on
  names_beside area taken = after_whole claim_on area SyncsNames result old new (λ folder step. held_synced old.files folder step says claim held) held taken

-- the same of the shortness of a part
module _ (part : List ℕ) (total : Option ℕ) (result : Result (Unit {0}) DiskFault) (old new : DiskState) (short : IsShort part total old.files) where
  pub write_short : (other : List ℕ) (file : File) (at : ℕ) (piece : List ℕ) → IsSoundDisk old → HasFile old.files other file → other ≢ part → WriteStep (files_place other) at piece result old new → IsShort part total new.files
  write_short other file at piece sound has apart taken =
      after_done (IsShort part total) Files (FileSteps other (IsWritten at piece)) (FileSteps other (IsTorn at (length piece))) result old new
      (λ folder step. short_step old.files folder other (IsWritten at piece) file sound.files has step part total apart short)
      (λ folder step. short_step old.files folder other (IsTorn at (length piece)) file sound.files has step part total apart short)
      short taken

  pub sync_short : (other : List ℕ) (file : File) → IsSoundDisk old → HasFile old.files other file → other ≢ part → SyncStep (files_place other) result old new → IsShort part total new.files
  sync_short other file sound has apart taken =
      after_whole (IsShort part total) Files (FileSteps other IsSynced) result old new
      (λ folder step. short_step old.files folder other IsSynced file sound.files has step part total apart short)
      short taken

  pub create_short : (other : List ℕ) → other ≢ part → CreateStep (files_place other) result old new → IsShort part total new.files
  create_short other apart taken =
      let keeps = λ (folder : Folder) (step : Creates other old.files folder). short_create old.files folder other step part total (λ e. apart (sym e)) short in
      after_done (IsShort part total) Files (Creates other) (Creates other) result old new keeps keeps short taken

  pub rename_short : (from to : List ℕ) → from ≢ part → to ≢ part → RenameStep (files_place from) (files_place to) result old new → IsShort part total new.files
  rename_short from to not_from not_to taken =
      let keeps = λ (folder : Folder) (step : Changes (Renamed from to) old.files folder). short_change old.files folder (Renamed from to) step part total
      (renamed_beside (names_of old.files) from to part (λ e. not_from (sym e)) (λ e. not_to (sym e))) short in
      after_done (IsShort part total) Files (Changes (Renamed from to)) (Changes (Renamed from to)) result old new keeps keeps short taken

  pub remove_short : (other : List ℕ) → other ≢ part → RemoveStep (files_place other) result old new → IsShort part total new.files
  remove_short other apart taken =
      let keeps = λ (folder : Folder) (step : Changes (Removed other) old.files folder). short_change old.files folder (Removed other) step part total
      (removed_beside (names_of old.files) other part (λ e. apart (sym e))) short in
      after_done (IsShort part total) Files (Changes (Removed other)) (Changes (Removed other)) result old new keeps keeps short taken

  pub names_short : (area : Area) → SyncNamesStep area result old new → IsShort part total new.files
  names_short area taken = after_whole (IsShort part total) area SyncsNames result old new (λ folder step. short_synced old.files folder step part total short) short taken

-- at each moment
pub claim_left : (says : ℕ → ℕ → Type 0) (claim : Claim) → LeftByOthers (IsOther claim) (HeldOn says claim)
claim_left says claim =
    let P = HeldOn says claim in
    record {
      write = λ other file at piece result old new apart sound has next held.
          over_one old new P (WriteStep (files_place other) at piece result) next held (λ disk taken. write_beside says claim result (now old) disk held other file at piece sound has apart taken);
      sync = λ other file result old new apart sound has next held.
          over_one old new P (SyncStep (files_place other) result) next held (λ disk taken. sync_beside says claim result (now old) disk held other file sound has apart taken);
      create = λ other result old new apart next held. over_one old new P (CreateStep (files_place other) result) next held (λ disk taken. create_beside says claim result (now old) disk held other apart taken);
      rename = λ from to result old new not_from not_to next held.
          over_one old new P (RenameStep (files_place from) (files_place to) result) next held (λ disk taken. rename_beside says claim result (now old) disk held from to not_from not_to taken);
      remove = λ other result old new apart next held. over_one old new P (RemoveStep (files_place other) result) next held (λ disk taken. remove_beside says claim result (now old) disk held other apart taken);
      names = λ area result old new next held. over_one old new P (SyncNamesStep area result) next held (λ disk taken. names_beside says claim result (now old) disk held area taken);
      files = λ old new keeps held. weaker old new (λ disk. disk.files ≡ (now old).files) P (λ disk same. files_same (λ folder. Held says folder claim) (now old) disk same held) keeps;
    }

pub shortness_left : (part : List ℕ) (total : Option ℕ) → LeftByOthers (λ other. other ≢ part) (ShortOn part total)
shortness_left part total =
    let P = ShortOn part total in
    record {
      write = λ other file at piece result old new apart sound has next short.
          over_one old new P (WriteStep (files_place other) at piece result) next short (λ disk taken. write_short part total result (now old) disk short other file at piece sound has apart taken);
      sync = λ other file result old new apart sound has next short.
          over_one old new P (SyncStep (files_place other) result) next short (λ disk taken. sync_short part total result (now old) disk short other file sound has apart taken);
      create = λ other result old new apart next short. over_one old new P (CreateStep (files_place other) result) next short (λ disk taken. create_short part total result (now old) disk short other apart taken);
      rename = λ from to result old new not_from not_to next short.
          over_one old new P (RenameStep (files_place from) (files_place to) result) next short (λ disk taken. rename_short part total result (now old) disk short from to not_from not_to taken);
      remove = λ other result old new apart next short. over_one old new P (RemoveStep (files_place other) result) next short (λ disk taken. remove_short part total result (now old) disk short other apart taken);
      names = λ area result old new next short. over_one old new P (SyncNamesStep area result) next short (λ disk taken. names_short part total result (now old) disk short area taken);
      files = λ old new keeps short. weaker old new (λ disk. disk.files ≡ (now old).files) P (λ disk same. files_same (IsShort part total) (now old) disk same short) keeps;
    }
