-- A rename of a settled part and a sync of the names, over what reads and over each moment.
use Rattle.std.proofs.Common.{◌≡◌, List, [], ℕ, Some, None, Result, Ok, Err, OnOk, inl, inr, sym, ◌∙◌, subst}
use Rattle.std.specs.Prelude.{◌≢◌}
use Rattle.dm_disk_model.specs.declared.place.Area.{Area}
use Rattle.dm_disk_model.specs.declared.place.Place.{Place}
use Rattle.dm_disk_model.specs.declared.place.DiskFault.{DiskFault}
use Rattle.dm_disk_model.specs.File.{File, IsWritten, IsSynced}
use Rattle.dm_disk_model.specs.Folder.{FileSteps}
use Rattle.dm_disk_model.specs.Disk.{DiskState, History, Next, InArea, Stands, WriteStep, SyncStep, now, bytes_at, CreateStep, RemoveStep, RenameStep, SyncNamesStep}
use Rattle.dm_disk_model.specs.Names.{IsSettled, NeverStands, LeavesNothing, LeavesNothingOr, LeavesJust}
use Rattle.dm_disk_model.specs.Moments.{Throughout}
use Rattle.dm_disk_model.proofs.Reading.{stepped_reads}
use Rattle.dm_disk_model.proofs.Places.{in_folder, stands_from, create_reads, remove_reads, rename_reads, rename_others, rename_may, names_reads}
use Rattle.dm_disk_model.proofs.Naming.{given_rename, given_names_synced, given_leaves, absent_leaves, just_published}
use Rattle.dm_disk_model.proofs.Reaching.{at_start, over_next}
use Rattle.dm_part.specs.Publish.{Moves}

module _ (part target : Place) (one_area : target.area ≡ part.area) (differ : part.name ≢ target.name) where
  pub moves_refused : (fault : DiskFault) (old new : DiskState) → RenameStep part target (Err fault) old new → Moves part target (Err fault) old new
  moves_refused fault old new step = record {
    done = tt;
    failed = rename_may part target one_area old new fault differ step;
    others = rename_others part target one_area old new (Err fault) step;
  }

  after_names : (area : Area) (result : Result (Unit {0}) DiskFault) (old mid new : DiskState) → (bytes_at mid target ≡ bytes_at old part) × (bytes_at mid part ≡ None)
      → ((other : Place) → other ≢ part → other ≢ target → bytes_at mid other ≡ bytes_at old other) → ((place : Place) → bytes_at new place ≡ bytes_at mid place) → Moves part target result old new
  after_names area (Ok done) old mid new reads others same = record { done = (same target ∙ reads.0, same part ∙ reads.1); failed = tt; others = λ other a b. same other ∙ others other a b }
  after_names area (Err fault) old mid new reads others same = record { done = tt; failed = inl (same target ∙ reads.0); others = λ other a b. same other ∙ others other a b }

  pub moves_done : (area : Area) (result : Result (Unit {0}) DiskFault) (old mid new : DiskState) → RenameStep part target (Ok tt) old mid → SyncNamesStep area result mid new → Moves part target result old new
  moves_done area result old mid new renamed synced =
      after_names area result old mid new (rename_reads part target one_area old mid differ renamed) (rename_others part target one_area old mid (Ok tt) renamed) (names_reads area result mid new synced)

module _ (part target : Place) (one_area : target.area ≡ part.area) (file : List ℕ) (old : History) (settled : IsSettled part file (now old)) (absent : NeverStands target (now old)) where
  nothing_or : (disk : DiskState) → LeavesNothing target disk → LeavesNothingOr target file disk
  nothing_or disk nothing image leaves = inl (nothing image leaves)

  nothing_first : Throughout old old (LeavesNothingOr target file)
  nothing_first = at_start old (LeavesNothingOr target file) (nothing_or (now old) (absent_leaves target (now old) absent))

  pub whole_refused : (fault : DiskFault) (new : History) → Next old new (RenameStep part target (Err fault)) → Throughout old new (LeavesNothingOr target file)
  whole_refused fault new next = over_next old old new (LeavesNothingOr target file) (RenameStep part target (Err fault)) nothing_first next (by_step (now new) next.stepped) where
    by_step : (disk : DiskState) → RenameStep part target (Err fault) (now old) disk → LeavesNothingOr target file disk
    by_step disk (inl taken) = given_leaves target file disk (given_rename part target file (now old) disk one_area settled absent taken)
    by_step disk (inr same) = subst (LeavesNothingOr target file) (sym same) (nothing_or (now old) (absent_leaves target (now old) absent))

  pub whole_done : (area : Area) (result : Result (Unit {0}) DiskFault) (mid new : History) → Next old mid (RenameStep part target (Ok tt)) → Next mid new (SyncNamesStep area result) → Throughout old new (LeavesNothingOr target file)
  whole_done area result mid new renamed synced =
      let given = given_rename part target file (now old) (now mid) one_area settled absent renamed.stepped in
      over_next old mid new (LeavesNothingOr target file) (SyncNamesStep area result)
      (over_next old old mid (LeavesNothingOr target file) (RenameStep part target (Ok tt)) nothing_first renamed (given_leaves target file (now mid) given))
      synced (given_leaves target file (now new) (given_names_synced target file area result (now mid) (now new) synced.stepped given))

-- what reads after a call, by its answer
pub reads_removed : (place : Place) (result : Result (Unit {0}) DiskFault) (old new : DiskState) → RemoveStep place result old new → OnOk result (bytes_at new place ≡ None)
reads_removed place (Ok done) old new step = remove_reads place old new step
reads_removed place (Err fault) old new step = tt

-- a part that was created, with the names synced
pub reads_made : (place : Place) (result : Result (Unit {0}) DiskFault) (old mid new : DiskState) → CreateStep place (Ok tt) old mid → SyncNamesStep place.area result mid new → OnOk result (bytes_at new place ≡ Some [])
reads_made place (Ok done) old mid new made synced = names_reads place.area (Ok tt) mid new synced place ∙ create_reads place old mid made
reads_made place (Err fault) old mid new made synced = tt

-- a file that a call wrote or synced stands
step_stands : (place : Place) (step : File → File → Type 0) (old new : DiskState) → InArea place.area (FileSteps place.name step) old new → Stands new place
step_stands place step old new taken = stands_from new place _ (stepped_reads place.name step _ _ (in_folder place.area (FileSteps place.name step) old new taken))

pub stands_written : (place : Place) (at : ℕ) (bytes : List ℕ) (result : Result (Unit {0}) DiskFault) (old new : DiskState) → WriteStep place at bytes result old new → OnOk result (Stands new place)
stands_written place at bytes (Ok done) old new step = step_stands place (IsWritten at bytes) old new step
stands_written place at bytes (Err fault) old new step = tt

pub stands_synced : (place : Place) (result : Result (Unit {0}) DiskFault) (old new : DiskState) → SyncStep place result old new → OnOk result (Stands new place)
stands_synced place (Ok done) old new step = step_stands place IsSynced old new step
stands_synced place (Err fault) old new step = tt

-- after Ok each crash leaves the published file
pub durable_done : (part target : Place) (file : List ℕ) (result : Result (Unit {0}) DiskFault) (old mid new : DiskState) → target.area ≡ part.area → IsSettled part file old
    → RenameStep part target (Ok tt) old mid → SyncNamesStep target.area result mid new → OnOk result (LeavesJust target file new)
durable_done part target file (Ok done) old mid new one_area settled renamed synced = just_published part target file old mid new one_area settled renamed synced
durable_done part target file (Err fault) old mid new one_area settled renamed synced = tt
