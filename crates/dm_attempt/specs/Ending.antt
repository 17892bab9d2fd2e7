-- How an attempt ends at the desk.
use Rattle.std.specs.Prelude.{◌≡◌, ◌⊎◌, ℕ, Bool, List, Option, Some, None, Result, IsTrue}
use Rattle.dm_types.specs.Faults.{Rose}
use Rattle.dm_types.specs.declared.item.Item.{Item}
use Rattle.dm_types.specs.declared.kinds.DiskKind.{DiskKind}
use Rattle.dm_types.specs.declared.reason.Reason.{Reason}
use Rattle.dm_types.specs.declared.slices.Slice.{Slice}
use Rattle.dm_disk_model.specs.Disk.{History as Clock}
use Rattle.dm_policy.specs.declared.cause.Cause.{Cause}
use Rattle.dm_policy.specs.declared.cause.Cause.TheVariants as causes
use Rattle.dm_policy.specs.Cause.{reason_of_cause}
use Rattle.dm_slice.specs.Cover.{SamePlaces}
use Rattle.dm_kept.specs.Files.{Says}
use Rattle.dm_store.specs.declared.pass.Pass.{Pass}
use Rattle.dm_store.specs.View.{View}
use Rattle.dm_answers.specs.declared.fault.DeskFault.{DeskFault}
use Rattle.dm_answers.specs.declared.fault.DeskFault.TheVariants as faults
use Rattle.dm_attempt.specs.declared.ended.Ended.{Ended}
use Rattle.dm_attempt.specs.declared.ended.Ended.TheVariants as ended
use Rattle.dm_attempt.specs.declared.stop.Stop.{Stop}
use Rattle.dm_attempt.specs.declared.stop.Stop.TheVariants as stops
use Rattle.dm_attempt.specs.Live.{DeskOver, LiveDesk}
use Rattle.dm_attempt.specs.Scene.{Scene, cover_by, item_by}
use Rattle.dm_attempt.specs.Shows.{BeginMet, DeskFell, DeskMet}
use Rattle.dm_attempt.specs.Stops.{FaultLeaves}
use Rattle.dm_attempt.specs.Trace.{Broken, Trace, with_saves}

-- the kind of the fault of the journal that an answer holds
abbrev pub journal_kind_of : Ended → Option DiskKind
journal_kind_of (ended.Fault (faults.Journal kind)) = Some kind
journal_kind_of _ = None

-- P holds of the cause that is to be recorded
abbrev pub IfBroke : Stop → (Cause → Type 0) → Type 0
IfBroke (stops.Broke cause) P = P cause
IfBroke stops.NoMemory P = Unit {0}
IfBroke (stops.Fault fault) P = Unit {0}
IfBroke (stops.Recorded reason) P = Unit {0}

-- the desk brought it about, and no cause is to be recorded
abbrev pub IsOfDesk : Stop → Type 0
IsOfDesk (stops.Broke cause) = ⊥
IsOfDesk stops.NoMemory = Unit {0}
IsOfDesk (stops.Fault fault) = Unit {0}
IsOfDesk (stops.Recorded reason) = Unit {0}

-- the desk showed the cause, while the attempt ran or as it began
abbrev pub IsDeskCause : {D O : Type 0} → Type 0 → (D → Clock) → (O → Says) → (D → ℕ) → (D → DiskKind → ℕ) → Scene D O → Pass → Trace → Cause → Type 0
IsDeskCause tells clock says far counts scene pass trace cause = DeskMet tells clock says far counts scene pass trace cause ⊎ BeginMet tells clock scene trace cause

-- that all came and has another sum shows only where the desk was asked to finish
abbrev pub ShownBy : Bool → Cause → Type 0
ShownBy came (causes.DigestDiffers have wanted) = IsTrue came
ShownBy came _ = Unit {0}

-- the desk has ended the attempt by a cause with this reason, perhaps while it finished what came
pub record RecordedBy {D O : Type 0} (came : Bool) (tells : Type 0) (clock : D → Clock) (says : O → Says) (far : D → ℕ) (counts : D → DiskKind → ℕ) (scene : Scene D O) (pass : Pass) (present : View D O) (trace : Trace) (reason : Reason) : Type 0 where
  pub cause : Cause
  pub reason_is : reason ≡ reason_of_cause cause
  pub met : IsDeskCause tells clock says far counts scene pass trace cause
  pub asked : ShownBy came cause
  pub saves : List (List Slice)
  pub over : DeskOver tells clock says far counts scene present (with_saves trace saves) (Broken cause)

-- What holds where an attempt stopped, before it is ended, perhaps while it finished what came.
abbrev pub StopHolds : {D O : Type 0} → Bool → Type 0 → (D → Clock) → (O → Says) → (D → ℕ) → (D → DiskKind → ℕ) → Scene D O → Pass → View D O → Trace → Stop → Type 0
StopHolds came tells clock says far counts scene pass present trace (stops.Broke cause) = LiveDesk tells clock says far counts scene pass present trace
StopHolds came tells clock says far counts scene pass present trace stops.NoMemory = LiveDesk tells clock says far counts scene pass present trace
StopHolds came tells clock says far counts scene pass present trace (stops.Fault fault) = FaultLeaves came tells clock says far counts scene present trace fault
StopHolds came tells clock says far counts scene pass present trace (stops.Recorded reason) = RecordedBy came tells clock says far counts scene pass present trace reason

-- a cause that is recorded is the one by which the attempt stopped, or one that the desk met
abbrev pub IsCauseOf : {D O : Type 0} → Bool → Type 0 → (D → Clock) → (O → Says) → (D → ℕ) → (D → DiskKind → ℕ) → Scene D O → Pass → Trace → Stop → Cause → Type 0
IsCauseOf came tells clock says far counts scene pass trace (stops.Broke met) cause = cause ≡ met
IsCauseOf came tells clock says far counts scene pass trace stops.NoMemory cause = ⊥
IsCauseOf came tells clock says far counts scene pass trace (stops.Fault fault) cause = ⊥
IsCauseOf came tells clock says far counts scene pass trace (stops.Recorded reason) cause = IsDeskCause tells clock says far counts scene pass trace cause × ShownBy came cause

-- where the driver records a cause, all that was landed is saved
abbrev pub IsSavedFor : {D O : Type 0} → Scene D O → Trace → List (List Slice) → Stop → Type 0
IsSavedFor scene trace saves (stops.Broke cause) = SamePlaces (cover_by scene trace) (item_by scene (with_saves trace saves)).slices
IsSavedFor scene trace saves stops.NoMemory = Unit {0}
IsSavedFor scene trace saves (stops.Fault fault) = Unit {0}
IsSavedFor scene trace saves (stops.Recorded reason) = Unit {0}

-- The item was interrupted with this reason, perhaps while what came was finished.
pub record StoppedBy {D O : Type 0} (came : Bool) (tells : Type 0) (clock : D → Clock) (says : O → Says) (far : D → ℕ) (counts : D → DiskKind → ℕ) (scene : Scene D O) (pass : Pass) (present : View D O) (trace : Trace) (stop : Stop) (reason : Reason) : Type 0 where
  pub cause : Cause
  pub reason_is : reason ≡ reason_of_cause cause
  pub of : IsCauseOf came tells clock says far counts scene pass trace stop cause
  pub saves : List (List Slice)
  pub saved : IsSavedFor scene trace saves stop
  pub over : DeskOver tells clock says far counts scene present (with_saves trace saves) (Broken cause)

-- memory was wanting and that was recorded, or a fault of the disk ended it, perhaps while a cause with P was recorded or what came was finished
abbrev pub FaultEnds : {D O : Type 0} → Bool → Type 0 → (D → Clock) → (O → Says) → (D → ℕ) → (D → DiskKind → ℕ) → Scene D O → View D O → Trace → (Cause → Type 0) → DeskFault → Type 0
FaultEnds came tells clock says far counts scene present trace P faults.NoMemory = (saves : List (List Slice)) × DeskOver tells clock says far counts scene present (with_saves trace saves) (Broken causes.Memory)
FaultEnds came tells clock says far counts scene present trace P (faults.Journal kind) =
    Rose (counts scene.start.disk kind) (counts present.disk kind) × DeskFell came tells clock says far counts scene present trace P
FaultEnds came tells clock says far counts scene present trace P fault = FaultLeaves came tells clock says far counts scene present trace fault

-- Each answer, by what ended the attempt.
abbrev pub EndsBy : {D O : Type 0} → Bool → Type 0 → (D → Clock) → (O → Says) → (D → ℕ) → (D → DiskKind → ℕ) → Scene D O → Pass → View D O → Trace → Stop → Ended → Type 0
EndsBy came tells clock says far counts scene pass present trace stop ended.Complete = ⊥
EndsBy came tells clock says far counts scene pass present trace stop (ended.Stopped reason) = StoppedBy came tells clock says far counts scene pass present trace stop reason
EndsBy came tells clock says far counts scene pass present trace stop (ended.Fault fault) =
    FaultEnds came tells clock says far counts scene present trace (λ cause. IsCauseOf came tells clock says far counts scene pass trace stop cause) fault
