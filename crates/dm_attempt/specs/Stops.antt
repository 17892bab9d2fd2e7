-- What a step of an attempt leaves, where it went on and where it stopped.
use Rattle.std.specs.Prelude.{◌≡◌, ℕ, Bool, false, List, length, Option, Some, None, Result, Ok, Err}
use Rattle.dm_types.specs.Faults.{Rose}
use Rattle.dm_types.specs.declared.kinds.DiskKind.{DiskKind}
use Rattle.dm_types.specs.declared.reason.Reason.{Reason}
use Rattle.dm_types.specs.declared.slices.Slice.{Slice}
use Rattle.dm_disk_model.specs.Disk.{History as Clock}
use Rattle.dm_policy.specs.declared.cause.Cause.{Cause}
use Rattle.dm_policy.specs.declared.cause.Cause.TheVariants as causes
use Rattle.dm_policy.specs.Cause.{reason_of_cause}
use Rattle.dm_kept.specs.Files.{Says}
use Rattle.dm_store.specs.declared.pass.Pass.{Pass}
use Rattle.dm_store.specs.View.{View}
use Rattle.dm_answers.specs.declared.fault.DeskFault.{DeskFault}
use Rattle.dm_answers.specs.declared.fault.DeskFault.TheVariants as faults
use Rattle.dm_attempt.specs.declared.stop.Stop.{Stop}
use Rattle.dm_attempt.specs.declared.stop.Stop.TheVariants as stops
use Rattle.dm_attempt.specs.Live.{DeskOver, LiveDesk}
use Rattle.dm_attempt.specs.Scene.{Scene}
use Rattle.dm_attempt.specs.Shows.{DeskFell, NoCause}
use Rattle.dm_attempt.specs.Trace.{Broken, Round, Trace, opened, with_piece, with_saves}

-- want of memory is to be recorded, and by any other fault the desk has ended the attempt
abbrev pub stop_by : DeskFault → Stop
stop_by faults.NoMemory = stops.NoMemory
stop_by fault = stops.Fault fault

-- the same, but for the fault that asks for a save
abbrev pub due_by : DeskFault → Option Stop
due_by (faults.CheckpointDue bytes) = None
due_by fault = Some (stop_by fault)

-- the desk has ended the attempt by a fault of the disk whose count rose since its start, perhaps while it finished what came
abbrev pub FaultLeaves : {D O : Type 0} → Bool → Type 0 → (D → Clock) → (O → Says) → (D → ℕ) → (D → DiskKind → ℕ) → Scene D O → View D O → Trace → DeskFault → Type 0
FaultLeaves came tells clock says far counts scene present trace (faults.File kind) =
    Rose (counts scene.start.disk kind) (counts present.disk kind) × ((saves : List (List Slice)) × DeskOver tells clock says far counts scene present (with_saves trace saves) (Broken (causes.File kind)))
FaultLeaves came tells clock says far counts scene present trace (faults.Journal kind) =
    Rose (counts scene.start.disk kind) (counts present.disk kind) × DeskFell came tells clock says far counts scene present trace NoCause
FaultLeaves came tells clock says far counts scene present trace _ = ⊥

-- What a refusal of the desk leaves, that wasn't asked to finish: where memory was wanting the attempt still runs.
abbrev pub Refused : {D O : Type 0} → Type 0 → (D → Clock) → (O → Says) → (D → ℕ) → (D → DiskKind → ℕ) → Scene D O → Pass → View D O → Trace → Stop → Type 0
Refused tells clock says far counts scene pass present trace (stops.Broke cause) = ⊥
Refused tells clock says far counts scene pass present trace stops.NoMemory = LiveDesk tells clock says far counts scene pass present trace
Refused tells clock says far counts scene pass present trace (stops.Fault fault) = FaultLeaves false tells clock says far counts scene present trace fault
Refused tells clock says far counts scene pass present trace (stops.Recorded reason) = ⊥

-- what a save leaves
abbrev pub SaveLeaves : {D O : Type 0} → Type 0 → (D → Clock) → (O → Says) → (D → ℕ) → (D → DiskKind → ℕ) → Scene D O → Pass → View D O → Trace → Result (Unit {0}) Stop → Type 0
SaveLeaves tells clock says far counts scene pass present trace (Ok done) = (saves : List (List Slice)) × LiveDesk tells clock says far counts scene pass present (with_saves trace saves)
SaveLeaves tells clock says far counts scene pass present trace (Err stop) = Refused tells clock says far counts scene pass present trace stop

-- a piece was landed, and more was saved, perhaps
abbrev pub LandLeaves : {D O : Type 0} → Type 0 → (D → Clock) → (O → Says) → (D → ℕ) → (D → DiskKind → ℕ) → Scene D O → Pass → View D O → Trace → Round → ℕ → List ℕ → Result (Unit {0}) Stop → Type 0
LandLeaves tells clock says far counts scene pass present older round k piece (Ok done) =
    (saves : List (List Slice)) × LiveDesk tells clock says far counts scene pass present (opened (with_saves older saves) (with_piece round k piece))
LandLeaves tells clock says far counts scene pass present older round k piece (Err stop) =
    (saves : List (List Slice)) × Refused tells clock says far counts scene pass present (opened (with_saves older saves) round) stop
