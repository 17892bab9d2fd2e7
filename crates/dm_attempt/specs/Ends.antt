-- What the further steps of an attempt leave: the plan of a round, what was told, and the end.
use Rattle.std.specs.Prelude.{◌≡◌, ◌≢◌, ◌⊎◌, ℕ, ◌+◌, ◌<◌, true, false, List, [], length, map, Option, Some, None, IfSome, Result, Ok, Err}
use Rattle.dm_types.specs.declared.address.Address.{Address}
use Rattle.dm_types.specs.declared.kinds.DiskKind.{DiskKind}
use Rattle.dm_types.specs.declared.slices.Slice.{Slice}
use Rattle.dm_disk_model.specs.Disk.{History as Clock}
use Rattle.dm_policy.specs.declared.cause.Cause.{Cause}
use Rattle.dm_policy.specs.declared.cause.Cause.TheVariants as causes
use Rattle.dm_policy.specs.Cause.{reason_of_cause}
use Rattle.dm_name.specs.Forms.{IsFirstFree}
use Rattle.dm_slice.specs.Plan.{parts_by}
use Rattle.dm_slice.specs.declared.plan.Part.{Part}
use Rattle.dm_edge.specs.Wire.{Closed}
use Rattle.dm_reply.specs.declared.head.Head.{Head}
use Rattle.dm_kept.specs.Files.{Says}
use Rattle.dm_store.specs.declared.pass.Pass.{Pass}
use Rattle.dm_store.specs.View.{View}
use Rattle.dm_answers.specs.Describe.{WithNames}
use Rattle.dm_answers.specs.Plan.{last_round, slice_pass}
use Rattle.dm_answers.specs.declared.answer.SlicePass.{SlicePass}
use Rattle.dm_answers.specs.declared.answer.Told.{Told}
use Rattle.dm_answers.specs.declared.fault.DeskFault.{DeskFault}
use Rattle.dm_answers.specs.declared.fault.DeskFault.TheVariants as faults
use Rattle.dm_attempt.specs.declared.stop.Stop.{Stop}
use Rattle.dm_attempt.specs.declared.stop.Stop.TheVariants as stops
use Rattle.dm_attempt.specs.Asking.{Asking}
use Rattle.dm_attempt.specs.Ending.{RecordedBy}
use Rattle.dm_attempt.specs.Live.{LiveDesk}
use Rattle.dm_attempt.specs.Scene.{Scene, cover_by, told_by}
use Rattle.dm_attempt.specs.Shares.{Share}
use Rattle.dm_attempt.specs.Stops.{FaultLeaves, stop_by}
use Rattle.dm_attempt.specs.Trace.{Round, Tale, Trace, opened, told_with, wished}

-- the parts of the next round
abbrev pub next_parts : {D O : Type 0} → Scene D O → Trace → List Part
next_parts scene trace = parts_by (told_by scene trace.told).total trace.count scene.start.limits.min_slice (cover_by scene trace)

-- a part of which nothing was landed
abbrev pub empty_share : Part → Share
empty_share part = record { part = part; bytes = [] }

-- the next round, of which nothing was landed
abbrev pub next_round : {D O : Type 0} → Scene D O → Trace → Asking → Round
next_round scene trace asking = record { asking = asking; cover = cover_by scene trace; shares = map empty_share (next_parts scene trace); wires = [] }

-- where the rounds are used up, the ranges are refused
abbrev pub plan_stop : DeskFault → Stop
plan_stop (faults.WrongState phase) = stops.Broke (causes.RangeRefused 206)
plan_stop fault = stop_by fault

-- a round was planned, or the rounds are used up, or memory was wanting
abbrev pub PlanLeaves : {D O : Type 0} → Type 0 → (D → Clock) → (O → Says) → (D → ℕ) → (D → DiskKind → ℕ) → Scene D O → Pass → View D O → Trace → Asking → Result (List SlicePass) Stop → Type 0
PlanLeaves tells clock says far counts scene pass present trace asking (Ok passes) =
    (length trace.rounds ≢ last_round) × (passes ≡ map (slice_pass pass.id pass.attempt (length trace.rounds + 1)) (next_parts scene trace))
    × LiveDesk tells clock says far counts scene pass present (opened trace (next_round scene trace asking))
PlanLeaves tells clock says far counts scene pass present trace asking (Err (stops.Broke cause)) =
    (cause ≡ causes.RangeRefused 206) × (length trace.rounds ≡ last_round) × LiveDesk tells clock says far counts scene pass present trace
PlanLeaves tells clock says far counts scene pass present trace asking (Err stops.NoMemory) = LiveDesk tells clock says far counts scene pass present trace
PlanLeaves tells clock says far counts scene pass present trace asking (Err _) = ⊥

-- what was told, by this head, with the name that the item got
abbrev pub tale_of : Head → Address → Told → List ℕ → Tale
tale_of head address told name = record { head = head; address = address; key = told.key; total = told.total; name = name; modified = told.modified }

-- the item has the first free form of the wish, and the attempt runs on
pub record IsNamedBy {D O : Type 0} (tells : Type 0) (clock : D → Clock) (says : O → Says) (far : D → ℕ) (counts : D → DiskKind → ℕ) (scene : Scene D O) (pass : Pass) (present : View D O) (led lost : List Closed) (count : ℕ) (head : Head) (told : Told) (address : Address) (taken : List (List ℕ)) : Type 0 where
  pub name : List ℕ
  pub free : IsFirstFree told.wish taken name
  pub live : LiveDesk tells clock says far counts scene pass present (told_with led lost count told.wish (tale_of head address told name))

abbrev pub DescribeLeaves : {D O : Type 0} → Type 0 → (D → Clock) → (O → Says) → (D → ℕ) → (D → DiskKind → ℕ) → Scene D O → Pass → View D O → View D O → List Closed → List Closed → ℕ → Head → Told → Address → Result (Unit {0}) Stop → Type 0
DescribeLeaves tells clock says far counts scene pass old new led lost count head told address (Ok done) = WithNames tells clock old (IsNamedBy tells clock says far counts scene pass new led lost count head told address)
DescribeLeaves tells clock says far counts scene pass old new led lost count head told address (Err (stops.Recorded reason)) =
    (reason ≡ reason_of_cause causes.NamesTaken) × RecordedBy false tells clock says far counts scene pass new (wished led lost count told.wish) reason
DescribeLeaves tells clock says far counts scene pass old new led lost count head told address (Err stops.NoMemory) = LiveDesk tells clock says far counts scene pass new (wished led lost count told.wish)
DescribeLeaves tells clock says far counts scene pass old new led lost count head told address (Err (stops.Fault fault)) = FaultLeaves false tells clock says far counts scene new (wished led lost count told.wish) fault
DescribeLeaves tells clock says far counts scene pass old new led lost count head told address (Err (stops.Broke cause)) = ⊥
