-- What finishing leaves of an attempt.
use Rattle.std.specs.Prelude.{◌≡◌, ℕ, true, false, List, Option, Some, None, IfSome, Result, Ok, Err, Bool}
use Rattle.dm_types.specs.declared.kinds.DiskKind.{DiskKind}
use Rattle.dm_types.specs.declared.slices.Slice.{Slice}
use Rattle.dm_disk_model.specs.Disk.{History as Clock}
use Rattle.dm_slice.specs.Words.{IsFirstMissing, IsFull}
use Rattle.dm_kept.specs.Files.{Says}
use Rattle.dm_store.specs.declared.pass.Pass.{Pass}
use Rattle.dm_store.specs.View.{View}
use Rattle.dm_answers.specs.Finish.{HasSum}
use Rattle.dm_answers.specs.Running.{part_bytes}
use Rattle.dm_types.specs.declared.reason.Reason.TheVariants as reasons
use Rattle.dm_answers.specs.declared.answer.Finished.{Finished}
use Rattle.dm_answers.specs.declared.answer.Finished.TheVariants as finished
use Rattle.dm_answers.specs.declared.fault.DeskFault.{DeskFault}
use Rattle.dm_answers.specs.declared.fault.DeskFault.TheVariants as faults
use Rattle.dm_attempt.specs.declared.stop.Stop.{Stop}
use Rattle.dm_attempt.specs.declared.stop.Stop.TheVariants as stops
use Rattle.dm_attempt.specs.Ending.{StopHolds}
use Rattle.dm_attempt.specs.Live.{DeskOver, LiveDesk}
use Rattle.dm_attempt.specs.Scene.{Scene, cover_by, told_by}
use Rattle.dm_attempt.specs.Shows.{total_by}
use Rattle.dm_attempt.specs.Stops.{stop_by}
use Rattle.dm_attempt.specs.Trace.{Done, Trace, with_saves}

-- where a place is left that hasn't come, the attempt goes on
abbrev pub finish_stop : DeskFault → Option Stop
finish_stop (faults.NotNext place) = None
finish_stop fault = Some (stop_by fault)

-- an attempt is done, or the desk ended it by one of two causes
abbrev pub finished_by : Finished → Result Bool Stop
finished_by finished.Complete = Ok true
finished_by (finished.Mismatch have wanted) = Err (stops.Recorded reasons.FileHashMismatch)
finished_by (finished.Short have wanted) = Err (stops.Recorded reasons.FileTooShort)

-- Every byte below the total was landed, the part's bytes have this sum as they read, and no other is stated. The attempt is over by that.
pub record IsDone {D O : Type 0} (tells : Type 0) (clock : D → Clock) (says : O → Says) (far : D → ℕ) (counts : D → DiskKind → ℕ) (scene : Scene D O) (old new : View D O) (trace : Trace) : Type 0 where
  pub digest : List ℕ
  pub full : IsFull (total_by scene trace) (cover_by scene trace)
  pub stated : IfSome (told_by scene trace.told).digest (λ d. d ≡ digest)
  pub sum : tells → HasSum (part_bytes clock old.disk (told_by scene trace.told)) (total_by scene trace) digest
  pub saves : List (List Slice)
  pub over : DeskOver tells clock says far counts scene new (with_saves trace saves) (Done (total_by scene trace) digest)

abbrev pub FinishLeaves : {D O : Type 0} → Type 0 → (D → Clock) → (O → Says) → (D → ℕ) → (D → DiskKind → ℕ) → Scene D O → Pass → View D O → View D O → Trace → Result Bool Stop → Type 0
FinishLeaves tells clock says far counts scene pass old new trace (Ok true) = IsDone tells clock says far counts scene old new trace
FinishLeaves tells clock says far counts scene pass old new trace (Ok false) =
    ((place : ℕ) × IsFirstMissing (total_by scene trace) (cover_by scene trace) place) × LiveDesk tells clock says far counts scene pass new trace
FinishLeaves tells clock says far counts scene pass old new trace (Err (stops.Broke cause)) = ⊥
FinishLeaves tells clock says far counts scene pass old new trace (Err stop) = StopHolds true tells clock says far counts scene pass new trace stop
