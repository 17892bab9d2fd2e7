-- On a live pass of a desk that isn't broken, and where the call's own condition holds, only the disk and the memory refuse.
use Rattle.std.proofs.Common.{◌≡◌, ◌⊎◌, inl, inr, ℕ, false, List, length, None, Err, refl, sym, ◌∙◌, arith}
use Rattle.dm_types.specs.declared.item.Item.{Item}
use Rattle.dm_types.specs.declared.item.Phase.{Phase}
use Rattle.dm_types.specs.declared.kinds.DiskKind.{DiskKind}
use Rattle.dm_disk_model.specs.Disk.{History as Clock}
use Rattle.dm_policy.specs.declared.cause.Cause.{Cause}
use Rattle.std.proofs.lemmas.Option.{same_Some}
use Rattle.dm_store.specs.declared.life.Life.{Life}
use Rattle.dm_store.specs.declared.pass.Gone.TheVariants as gones
use Rattle.dm_store.specs.declared.pass.Pass.{Pass}
use Rattle.dm_store.specs.View.{View}
use Rattle.dm_answers.specs.declared.answer.SlicePass.{SlicePass}
use Rattle.dm_answers.specs.declared.answer.Told.{Told}
use Rattle.dm_answers.specs.declared.fault.DeskFault.{DeskFault}
use Rattle.dm_answers.specs.declared.fault.DeskFault.TheVariants as faults
use Rattle.dm_answers.specs.Broke.{BrokeAnswers, IsUnderWay}
use Rattle.dm_answers.specs.Checkpoint.{CheckpointAnswers}
use Rattle.dm_answers.specs.Describe.{DescribeAnswers, IsSilent}
use Rattle.dm_answers.specs.Faults.{IsOfJournal, IsOutside}
use Rattle.dm_answers.specs.Finish.{FinishAnswers, HasHole, MayFinish}
use Rattle.dm_answers.specs.Land.{IsDue, IsElsewhere, IsPast, LandAnswers, MayLand}
use Rattle.dm_answers.specs.Plan.{MayNotPlan, MayPlan, PlanAnswers}
use Rattle.dm_answers.specs.Running.{IsTold, IsUntold, RunsWith}
use Rattle.dm_answers.specs.Slices.{HasPart}
use Rattle.dm_answers.proofs.Live.{both, not_broken, not_declined, slice_not_declined, told_untold, weaker}

pub hard_describe : {D O : Type 0} (tells : Type 0) (clock : D → Clock) (counts : D → DiskKind → ℕ) (old new : View D O) (pass : Pass) (told : Told) (fault : DeskFault)
    → old.broken ≡ false → RunsWith old pass.id pass.attempt IsSilent → DescribeAnswers tells clock counts old new pass told (Err fault) → IsOutside fault
hard_describe tells clock counts old new pass told faults.Broken whole runs answer = absurd (not_broken old.broken whole answer.broken)
hard_describe tells clock counts old new pass told (faults.NoItem id) whole runs answer = absurd (not_declined old pass.id pass.attempt IsSilent (gones.NoItem id) runs answer.cause)
hard_describe tells clock counts old new pass told (faults.Stale attempt round) whole runs answer = absurd (not_declined old pass.id pass.attempt IsSilent (gones.Stale attempt round) runs answer.cause)
hard_describe tells clock counts old new pass told (faults.WrongState phase) whole runs answer =
    absurd (both old pass.id pass.attempt IsSilent (IsTold phase) ⊥ runs answer.cause (λ item life silent is. told_untold item is.told silent))
hard_describe tells clock counts old new pass told faults.NoMemory whole runs answer = tt
hard_describe tells clock counts old new pass told (faults.File kind) whole runs answer = tt
hard_describe tells clock counts old new pass told (faults.Journal kind) whole runs answer = tt
hard_describe tells clock counts old new pass told (faults.NotNext place) whole runs answer = absurd answer
hard_describe tells clock counts old new pass told (faults.PastEnd end) whole runs answer = absurd answer
hard_describe tells clock counts old new pass told (faults.CheckpointDue bytes) whole runs answer = absurd answer
hard_describe tells clock counts old new pass told (faults.ItemsFull count) whole runs answer = absurd answer
hard_describe tells clock counts old new pass told (faults.WordTaken id) whole runs answer = absurd answer
hard_describe tells clock counts old new pass told (faults.Damaged place) whole runs answer = absurd answer

may_both : (phase : Phase) (item : Item) (life : Life) → MayPlan item life → (item.key ≡ None) ⊎ (life.round ≡ 4294967295) → ⊥
may_both phase item life may (inl untold) = told_untold item may.told untold
may_both phase item life may (inr last) = may.more last

pub hard_plan : {D O : Type 0} (old new : View D O) (pass : Pass) (n : ℕ) (fault : DeskFault)
    → old.broken ≡ false → RunsWith old pass.id pass.attempt MayPlan → PlanAnswers old new pass n (Err fault) → fault ≡ faults.NoMemory
hard_plan old new pass n faults.Broken whole runs answer = absurd (not_broken old.broken whole answer.broken)
hard_plan old new pass n (faults.NoItem id) whole runs answer = absurd (not_declined old pass.id pass.attempt MayPlan (gones.NoItem id) runs answer.cause)
hard_plan old new pass n (faults.Stale attempt round) whole runs answer = absurd (not_declined old pass.id pass.attempt MayPlan (gones.Stale attempt round) runs answer.cause)
hard_plan old new pass n (faults.WrongState phase) whole runs answer =
    absurd (both old pass.id pass.attempt MayPlan (MayNotPlan phase) ⊥ runs answer.cause (λ item life may not. may_both phase item life may not.why))
hard_plan old new pass n faults.NoMemory whole runs answer = refl
hard_plan old new pass n (faults.File kind) whole runs answer = absurd answer
hard_plan old new pass n (faults.Journal kind) whole runs answer = absurd answer
hard_plan old new pass n (faults.NotNext place) whole runs answer = absurd answer
hard_plan old new pass n (faults.PastEnd end) whole runs answer = absurd answer
hard_plan old new pass n (faults.CheckpointDue bytes) whole runs answer = absurd answer
hard_plan old new pass n (faults.ItemsFull count) whole runs answer = absurd answer
hard_plan old new pass n (faults.WordTaken id) whole runs answer = absurd answer
hard_plan old new pass n (faults.Damaged place) whole runs answer = absurd answer

module _ {D O : Type 0} (counts : D → DiskKind → ℕ) (old new : View D O) (pass : SlicePass) (at : ℕ) (piece : List ℕ) (whole : old.broken ≡ false)
    (runs : RunsWith old pass.id pass.attempt (MayLand pass at (length piece) old.limits.checkpoint)) where
  has_part : RunsWith old pass.id pass.attempt (HasPart pass)
  has_part = weaker old pass.id pass.attempt (MayLand pass at (length piece) old.limits.checkpoint) (HasPart pass) (λ item life may. may.fits.next.has) runs

  elsewhere : (place : ℕ) (item : Item) (life : Life) → MayLand pass at (length piece) old.limits.checkpoint item life → IsElsewhere pass at place item life → ⊥
  elsewhere place item life may other = other.other (same_Some place at (sym other.next.next ∙ may.fits.next.next))

  past : (end : ℕ) (item : Item) (life : Life) → MayLand pass at (length piece) old.limits.checkpoint item life → IsPast pass at (length piece) end item life → ⊥
  past end item life may over = let low = may.fits.fits in let high = over.past in omega arith

  due : (bytes : ℕ) (item : Item) (life : Life) → MayLand pass at (length piece) old.limits.checkpoint item life → IsDue pass at (length piece) old.limits.checkpoint bytes item life → ⊥
  due bytes item life may is = let low = may.below in let high = is.due in omega arith

  pub hard_land : (fault : DeskFault) → LandAnswers counts old new pass at piece (Err fault) → IsOutside fault
  hard_land faults.Broken answer = absurd (not_broken old.broken whole answer.broken)
  hard_land (faults.NoItem id) answer = absurd (slice_not_declined old pass (gones.NoItem id) has_part answer.cause)
  hard_land (faults.Stale attempt round) answer = absurd (slice_not_declined old pass (gones.Stale attempt round) has_part answer.cause)
  hard_land (faults.NotNext place) answer = absurd (both old pass.id pass.attempt (MayLand pass at (length piece) old.limits.checkpoint) (IsElsewhere pass at place) ⊥ runs answer.cause (elsewhere place))
  hard_land (faults.PastEnd end) answer = absurd (both old pass.id pass.attempt (MayLand pass at (length piece) old.limits.checkpoint) (IsPast pass at (length piece) end) ⊥ runs answer.cause (past end))
  hard_land (faults.CheckpointDue bytes) answer =
      absurd (both old pass.id pass.attempt (MayLand pass at (length piece) old.limits.checkpoint) (IsDue pass at (length piece) old.limits.checkpoint bytes) ⊥ runs answer.cause (due bytes))
  hard_land (faults.File kind) answer = tt
  hard_land (faults.Journal kind) answer = tt
  hard_land faults.NoMemory answer = absurd answer
  hard_land (faults.WrongState phase) answer = absurd answer
  hard_land (faults.ItemsFull count) answer = absurd answer
  hard_land (faults.WordTaken id) answer = absurd answer
  hard_land (faults.Damaged place) answer = absurd answer

pub hard_checkpoint : {D O : Type 0} (counts : D → DiskKind → ℕ) (old new : View D O) (pass : Pass) (fault : DeskFault)
    → old.broken ≡ false → RunsWith old pass.id pass.attempt IsUnderWay → CheckpointAnswers counts old new pass (Err fault) → IsOutside fault
hard_checkpoint counts old new pass faults.Broken whole runs answer = absurd (not_broken old.broken whole answer.broken)
hard_checkpoint counts old new pass (faults.NoItem id) whole runs answer = absurd (not_declined old pass.id pass.attempt IsUnderWay (gones.NoItem id) runs answer.cause)
hard_checkpoint counts old new pass (faults.Stale attempt round) whole runs answer = absurd (not_declined old pass.id pass.attempt IsUnderWay (gones.Stale attempt round) runs answer.cause)
hard_checkpoint counts old new pass faults.NoMemory whole runs answer = tt
hard_checkpoint counts old new pass (faults.File kind) whole runs answer = tt
hard_checkpoint counts old new pass (faults.Journal kind) whole runs answer = tt
hard_checkpoint counts old new pass (faults.WrongState phase) whole runs answer = absurd answer
hard_checkpoint counts old new pass (faults.NotNext place) whole runs answer = absurd answer
hard_checkpoint counts old new pass (faults.PastEnd end) whole runs answer = absurd answer
hard_checkpoint counts old new pass (faults.CheckpointDue bytes) whole runs answer = absurd answer
hard_checkpoint counts old new pass (faults.ItemsFull count) whole runs answer = absurd answer
hard_checkpoint counts old new pass (faults.WordTaken id) whole runs answer = absurd answer
hard_checkpoint counts old new pass (faults.Damaged place) whole runs answer = absurd answer

pub hard_broke : {D O : Type 0} (old new : View D O) (pass : Pass) (cause : Cause) (fault : DeskFault)
    → old.broken ≡ false → RunsWith old pass.id pass.attempt IsUnderWay → BrokeAnswers old new pass cause (Err fault) → IsOfJournal fault
hard_broke old new pass cause faults.Broken whole runs answer = absurd (not_broken old.broken whole answer.broken)
hard_broke old new pass cause (faults.NoItem id) whole runs answer = absurd (not_declined old pass.id pass.attempt IsUnderWay (gones.NoItem id) runs answer.cause)
hard_broke old new pass cause (faults.Stale attempt round) whole runs answer = absurd (not_declined old pass.id pass.attempt IsUnderWay (gones.Stale attempt round) runs answer.cause)
hard_broke old new pass cause (faults.Journal kind) whole runs answer = tt
hard_broke old new pass cause faults.NoMemory whole runs answer = absurd answer
hard_broke old new pass cause (faults.File kind) whole runs answer = absurd answer
hard_broke old new pass cause (faults.WrongState phase) whole runs answer = absurd answer
hard_broke old new pass cause (faults.NotNext place) whole runs answer = absurd answer
hard_broke old new pass cause (faults.PastEnd end) whole runs answer = absurd answer
hard_broke old new pass cause (faults.CheckpointDue bytes) whole runs answer = absurd answer
hard_broke old new pass cause (faults.ItemsFull count) whole runs answer = absurd answer
hard_broke old new pass cause (faults.WordTaken id) whole runs answer = absurd answer
hard_broke old new pass cause (faults.Damaged place) whole runs answer = absurd answer

no_hole : (place : ℕ) (item : Item) (life : Life) → MayFinish item life → HasHole place item life → ⊥
no_hole place item life may hole = hole.first.missing (may.full place hole.first.within.1)

pub hard_finish : {D O : Type 0} (tells : Type 0) (clock : D → Clock) (counts : D → DiskKind → ℕ) (old new : View D O) (pass : Pass) (at : ℕ) (fault : DeskFault)
    → old.broken ≡ false → RunsWith old pass.id pass.attempt MayFinish → FinishAnswers tells clock counts old new pass at (Err fault) → IsOutside fault
hard_finish tells clock counts old new pass at faults.Broken whole runs answer = absurd (not_broken old.broken whole answer.broken)
hard_finish tells clock counts old new pass at (faults.NoItem id) whole runs answer = absurd (not_declined old pass.id pass.attempt MayFinish (gones.NoItem id) runs answer.cause)
hard_finish tells clock counts old new pass at (faults.Stale attempt round) whole runs answer = absurd (not_declined old pass.id pass.attempt MayFinish (gones.Stale attempt round) runs answer.cause)
hard_finish tells clock counts old new pass at (faults.WrongState phase) whole runs answer =
    absurd (both old pass.id pass.attempt MayFinish (IsUntold phase) ⊥ runs answer.cause (λ item life may is. told_untold item may.told is.untold))
hard_finish tells clock counts old new pass at (faults.NotNext place) whole runs answer =
    absurd (both old pass.id pass.attempt MayFinish (HasHole place) ⊥ runs answer.cause (no_hole place))
hard_finish tells clock counts old new pass at faults.NoMemory whole runs answer = tt
hard_finish tells clock counts old new pass at (faults.File kind) whole runs answer = tt
hard_finish tells clock counts old new pass at (faults.Journal kind) whole runs answer = tt
hard_finish tells clock counts old new pass at (faults.PastEnd end) whole runs answer = absurd answer
hard_finish tells clock counts old new pass at (faults.CheckpointDue bytes) whole runs answer = absurd answer
hard_finish tells clock counts old new pass at (faults.ItemsFull count) whole runs answer = absurd answer
hard_finish tells clock counts old new pass at (faults.WordTaken id) whole runs answer = absurd answer
hard_finish tells clock counts old new pass at (faults.Damaged place) whole runs answer = absurd answer
