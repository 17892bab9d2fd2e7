-- Which faults a desk may answer to an attempt that runs.
use Rattle.std.proofs.Common.{◌≡◌, ◌≢◌, ◌⊎◌, inl, inr, ℕ, ◌+◌, ◌<◌, ◌≤◌, false, List, ◌∷◌, length, map, Option, Some, None, Err, refl, sym, ◌∙◌, ap, subst, arith}
use Rattle.std.proofs.lemmas.Option.{none-some, same_Some}
use Rattle.dm_types.specs.declared.item.Item.{Item}
use Rattle.dm_types.specs.declared.kinds.DiskKind.{DiskKind}
use Rattle.dm_slice.specs.Cover.{next_of}
use Rattle.dm_slice.specs.declared.plan.Part.{Part}
use Rattle.dm_store.specs.declared.life.Life.{Life}
use Rattle.dm_store.specs.declared.pass.Gone.TheVariants as gones
use Rattle.dm_store.specs.View.{View}
use Rattle.dm_answers.specs.declared.answer.SlicePass.{SlicePass}
use Rattle.dm_answers.specs.declared.fault.DeskFault.{DeskFault}
use Rattle.dm_answers.specs.declared.fault.DeskFault.TheVariants as faults
use Rattle.dm_answers.specs.Faults.{IsOutside}
use Rattle.dm_answers.specs.Land.{Fits, IsDue, IsElsewhere, IsPast, LandAnswers}
use Rattle.dm_answers.specs.Running.{RunsWith}
use Rattle.dm_answers.specs.Slices.{HasPart}
use Rattle.dm_attempt.specs.declared.stop.Stop.TheVariants as stops
use Rattle.dm_attempt.specs.Stops.{due_by}
use Rattle.dm_answers.proofs.Live.{both, not_broken, slice_not_declined, weaker}

-- what holds of the faults that come from outside
pub by_outside : (P : DeskFault → Type 0) → ((kind : DiskKind) → P (faults.File kind)) → ((kind : DiskKind) → P (faults.Journal kind)) → P faults.NoMemory → (fault : DeskFault) → IsOutside fault → P fault
by_outside P file journal memory (faults.File kind) is = file kind
by_outside P file journal memory (faults.Journal kind) is = journal kind
by_outside P file journal memory faults.NoMemory is = memory
by_outside P file journal memory faults.Broken is = absurd is
by_outside P file journal memory (faults.NoItem id) is = absurd is
by_outside P file journal memory (faults.Stale attempt round) is = absurd is
by_outside P file journal memory (faults.WrongState phase) is = absurd is
by_outside P file journal memory (faults.NotNext place) is = absurd is
by_outside P file journal memory (faults.PastEnd end) is = absurd is
by_outside P file journal memory (faults.CheckpointDue bytes) is = absurd is
by_outside P file journal memory (faults.ItemsFull count) is = absurd is
by_outside P file journal memory (faults.WordTaken id) is = absurd is
by_outside P file journal memory (faults.Damaged place) is = absurd is

-- why a piece that has its place isn't landed
pub data LandFault {D O : Type 0} (old new : View D O) (pass : SlicePass) (at count : ℕ) (fault : DeskFault) : Type 0 where
  outside : IsOutside fault → LandFault old new pass at count fault
  due : (bytes : ℕ) → fault ≡ faults.CheckpointDue bytes → RunsWith old pass.id pass.attempt (IsDue pass at count old.limits.checkpoint bytes) → new ≡ old → LandFault old new pass at count fault

module _ {D O : Type 0} (counts : D → DiskKind → ℕ) (old new : View D O) (pass : SlicePass) (at : ℕ) (piece : List ℕ) (whole : old.broken ≡ false) (runs : RunsWith old pass.id pass.attempt (Fits pass at (length piece))) where
  has_part : RunsWith old pass.id pass.attempt (HasPart pass)
  has_part = weaker old pass.id pass.attempt (Fits pass at (length piece)) (HasPart pass) (λ item life fits. fits.next.has) runs

  elsewhere : (place : ℕ) (item : Item) (life : Life) → Fits pass at (length piece) item life → IsElsewhere pass at place item life → ⊥
  elsewhere place item life fits other = other.other (same_Some place at (sym other.next.next ∙ fits.next.next))

  past : (end : ℕ) (item : Item) (life : Life) → Fits pass at (length piece) item life → IsPast pass at (length piece) end item life → ⊥
  past end item life fits over = let low = fits.fits in let high = over.past in omega arith

  pub land_fault : (fault : DeskFault) → LandAnswers counts old new pass at piece (Err fault) → LandFault old new pass at (length piece) fault
  land_fault faults.Broken answer = absurd (not_broken old.broken whole answer.broken)
  land_fault (faults.NoItem id) answer = absurd (slice_not_declined old pass (gones.NoItem id) has_part answer.cause)
  land_fault (faults.Stale attempt round) answer = absurd (slice_not_declined old pass (gones.Stale attempt round) has_part answer.cause)
  land_fault (faults.NotNext place) answer = absurd (both old pass.id pass.attempt (Fits pass at (length piece)) (IsElsewhere pass at place) ⊥ runs answer.cause (elsewhere place))
  land_fault (faults.PastEnd end) answer = absurd (both old pass.id pass.attempt (Fits pass at (length piece)) (IsPast pass at (length piece) end) ⊥ runs answer.cause (past end))
  land_fault (faults.CheckpointDue bytes) answer = due bytes refl answer.cause answer.same
  land_fault (faults.File kind) answer = outside tt
  land_fault (faults.Journal kind) answer = outside tt
  land_fault faults.NoMemory answer = absurd answer
  land_fault (faults.WrongState phase) answer = absurd answer
  land_fault (faults.ItemsFull count) answer = absurd answer
  land_fault (faults.WordTaken id) answer = absurd answer
  land_fault (faults.Damaged place) answer = absurd answer

-- where a save is due nothing changed
pub due_same : {D O : Type 0} (counts : D → DiskKind → ℕ) (old new : View D O) (pass : SlicePass) (at : ℕ) (piece : List ℕ) (fault : DeskFault) → due_by fault ≡ None → LandAnswers counts old new pass at piece (Err fault) → new ≡ old
due_same counts old new pass at piece (faults.CheckpointDue bytes) is answer = answer.same
due_same counts old new pass at piece faults.NoMemory is answer = absurd answer
due_same counts old new pass at piece faults.Broken is answer = absurd (none-some (stops.Fault faults.Broken) (sym is))
due_same counts old new pass at piece (faults.NoItem id) is answer = absurd (none-some (stops.Fault (faults.NoItem id)) (sym is))
due_same counts old new pass at piece (faults.Stale attempt round) is answer = absurd (none-some (stops.Fault (faults.Stale attempt round)) (sym is))
due_same counts old new pass at piece (faults.WrongState phase) is answer = absurd (none-some (stops.Fault (faults.WrongState phase)) (sym is))
due_same counts old new pass at piece (faults.NotNext place) is answer = absurd (none-some (stops.Fault (faults.NotNext place)) (sym is))
due_same counts old new pass at piece (faults.PastEnd end) is answer = absurd (none-some (stops.Fault (faults.PastEnd end)) (sym is))
due_same counts old new pass at piece (faults.ItemsFull count) is answer = absurd (none-some (stops.Fault (faults.ItemsFull count)) (sym is))
due_same counts old new pass at piece (faults.WordTaken id) is answer = absurd (none-some (stops.Fault (faults.WordTaken id)) (sym is))
due_same counts old new pass at piece (faults.File kind) is answer = absurd (none-some (stops.Fault (faults.File kind)) (sym is))
due_same counts old new pass at piece (faults.Journal kind) is answer = absurd (none-some (stops.Fault (faults.Journal kind)) (sym is))
due_same counts old new pass at piece (faults.Damaged place) is answer = absurd (none-some (stops.Fault (faults.Damaged place)) (sym is))
