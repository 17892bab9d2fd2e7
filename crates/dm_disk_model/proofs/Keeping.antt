-- What is done at one place keeps the others, call by call and call after call.
use Rattle.std.proofs.Common.{ℕ, ◌≡◌, List, Result, refl, sym, ◌∙◌, subst}
use Rattle.std.specs.Prelude.{◌≢◌}
use Rattle.dm_disk_model.specs.declared.place.Area.{Area}
use Rattle.dm_disk_model.specs.declared.place.Place.{Place}
use Rattle.dm_disk_model.specs.declared.place.DiskFault.{DiskFault}
use Rattle.dm_disk_model.specs.Disk.{DiskState, History, Next, now, ChangesOnly, IsSoundDisk, CreateStep, WriteStep, SyncStep, RemoveStep, SyncNamesStep}
use Rattle.dm_disk_model.specs.Names.{NeverStands}
use Rattle.dm_disk_model.specs.Moments.{KeepsOthers}
use Rattle.dm_disk_model.proofs.Places.{create_others, write_others, sync_others, remove_others, names_reads}
use Rattle.dm_disk_model.proofs.Naming.{absent_create, absent_write, absent_sync, absent_remove, absent_names_synced}
use Rattle.dm_disk_model.proofs.Reaching.{at_start, at_end, joined, over_call}

pub keeps_same : (place : Place) (old new : History) → new ≡ old → KeepsOthers place old new
keeps_same place old new same = subst (λ (h : History). KeepsOthers place old h) (sym same)
    (record { others = λ other differ. refl; absent = λ target differ before. at_start old (NeverStands target) before })

pub keeps_then : (place : Place) (a b c : History) → KeepsOthers place a b → KeepsOthers place b c → KeepsOthers place a c
keeps_then place a b c first second = record {
  others = λ other differ. second.others other differ ∙ first.others other differ;
  absent = λ target differ before. let so_far = first.absent target differ before in joined a b c (NeverStands target) so_far (second.absent target differ (at_end a b (NeverStands target) so_far));
}

keeps_next : (place : Place) (old new : History) (step : DiskState → DiskState → Type 0) → Next old new step → ChangesOnly place (now old) (now new)
    → ((target : Place) → target.name ≢ place.name → NeverStands target (now old) → NeverStands target (now new)) → KeepsOthers place old new
keeps_next place old new step next others absent = record {
  others = others;
  absent = λ target differ before. over_call old new (NeverStands target) step next before (absent target differ before);
}

module _ (place : Place) (result : Result (Unit {0}) DiskFault) (old new : History) where
  pub keeps_create : Next old new (CreateStep place result) → KeepsOthers place old new
  keeps_create next = keeps_next place old new (CreateStep place result) next (create_others place result _ _ next.stepped)
      (λ target differ before. absent_create target place differ _ _ before result next.stepped)

  pub keeps_write : (at : ℕ) (bytes : List ℕ) → IsSoundDisk (now old) → Next old new (WriteStep place at bytes result) → KeepsOthers place old new
  keeps_write at bytes sound next = keeps_next place old new (WriteStep place at bytes result) next (write_others place _ _ sound at bytes result next.stepped)
      (λ target differ before. absent_write target place differ _ _ before at bytes result next.stepped)

  pub keeps_sync : IsSoundDisk (now old) → Next old new (SyncStep place result) → KeepsOthers place old new
  keeps_sync sound next = keeps_next place old new (SyncStep place result) next (sync_others place _ _ sound result next.stepped)
      (λ target differ before. absent_sync target place differ _ _ before result next.stepped)

  pub keeps_remove : Next old new (RemoveStep place result) → KeepsOthers place old new
  keeps_remove next = keeps_next place old new (RemoveStep place result) next (remove_others place result _ _ next.stepped)
      (λ target differ before. absent_remove target place differ _ _ before result next.stepped)

  pub keeps_names : (area : Area) → Next old new (SyncNamesStep area result) → KeepsOthers place old new
  keeps_names area next = keeps_next place old new (SyncNamesStep area result) next (λ other differ. names_reads area result _ _ next.stepped other)
      (λ target differ before. absent_names_synced target area result _ _ next.stepped before)
