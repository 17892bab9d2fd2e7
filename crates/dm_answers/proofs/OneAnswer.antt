-- Two answers to one call on one desk.
use Rattle.std.proofs.Common.{◌≡◌, ℕ, true, false, Option, Some, None, Result, Ok, Err, refl, sym, ◌∙◌, ap}
use Rattle.std.proofs.lemmas.Option.{same_Some}
use Rattle.dm_types.specs.declared.item.Attempt.{Attempt}
use Rattle.dm_types.specs.declared.item.Item.{Item}
use Rattle.dm_types.specs.declared.item.ItemId.{ItemId}
use Rattle.dm_item.specs.Listing.{item_in}
use Rattle.dm_store.specs.declared.life.Life.{Life}
use Rattle.dm_store.specs.declared.pass.Gone.{Gone}
use Rattle.dm_store.specs.declared.pass.Gone.TheVariants as gones
use Rattle.dm_store.specs.Lives.{life_in}
use Rattle.dm_store.specs.View.{View}
use Rattle.dm_answers.specs.declared.answer.SlicePass.{SlicePass}
use Rattle.dm_answers.specs.declared.fault.DeskFault.{DeskFault}
use Rattle.dm_answers.specs.declared.fault.DeskFault.TheVariants as faults
use Rattle.dm_answers.specs.Check.{CheckAnswers}
use Rattle.dm_answers.specs.Faults.{fault_of}
use Rattle.dm_answers.specs.Running.{RunsWith}
use Rattle.dm_answers.specs.Slices.{ComesNext, DeclinesSlice, HasPart, SliceDeclines}
use Rattle.dm_answers.proofs.Live.{both, not_broken, slice_not_declined, weaker}

pub one_gone : (found : Option Item) (life : Option Life) (pass : SlicePass) (a b : Gone) → DeclinesSlice found life pass a → DeclinesSlice found life pass b → a ≡ b
one_gone None life pass (gones.NoItem a) (gones.NoItem b) first second = ap (λ (i : ItemId). gones.NoItem i) (first ∙ sym second)
one_gone None life pass (gones.NoItem a) (gones.Stale told round) first second = absurd second
one_gone None life pass (gones.Stale told round) b first second = absurd first
one_gone (Some item) life pass (gones.NoItem a) b first second = absurd first
one_gone (Some item) life pass (gones.Stale told round) (gones.NoItem b) first second = absurd second
one_gone (Some item) life pass (gones.Stale told round) (gones.Stale other turn) first second =
    ap (λ (a : Attempt). gones.Stale a round) (first.attempt_is ∙ sym second.attempt_is) ∙ ap (λ (n : ℕ). gones.Stale other n) (first.round_is ∙ sym second.round_is)

pub next_one : {D O : Type 0} (desk : View D O) (pass : SlicePass) (a b : ℕ) → RunsWith desk pass.id pass.attempt (ComesNext pass a) → RunsWith desk pass.id pass.attempt (ComesNext pass b) → a ≡ b
next_one desk pass a b first second =
    both desk pass.id pass.attempt (ComesNext pass a) (ComesNext pass b) (a ≡ b) first second (λ item life one two. same_Some a b (sym one.next ∙ two.next))

pub has_part : {D O : Type 0} (desk : View D O) (pass : SlicePass) (place : ℕ) → RunsWith desk pass.id pass.attempt (ComesNext pass place) → RunsWith desk pass.id pass.attempt (HasPart pass)
has_part desk pass place runs = weaker desk pass.id pass.attempt (ComesNext pass place) (HasPart pass) (λ item life next. next.has) runs

-- Why a call on a pass of a part is answered so: the desk is broken, the pass is over, or this place of it comes next.
data Answer {D O : Type 0} (desk : View D O) (pass : SlicePass) (result : Result ℕ DeskFault) : Type 0 where
  broken : desk.broken ≡ true → result ≡ Err faults.Broken → Answer desk pass result
  gone : (g : Gone) → desk.broken ≡ false → SliceDeclines desk pass g → result ≡ Err (fault_of g) → Answer desk pass result
  next : (place : ℕ) → desk.broken ≡ false → RunsWith desk pass.id pass.attempt (ComesNext pass place) → result ≡ Ok place → Answer desk pass result

answer_of : {D O : Type 0} (desk : View D O) (pass : SlicePass) (result : Result ℕ DeskFault) → CheckAnswers desk pass result → Answer desk pass result
answer_of desk pass (Ok place) is = next place is.0 is.1 refl
answer_of desk pass (Err faults.Broken) is = broken is refl
answer_of desk pass (Err (faults.NoItem id)) is = gone (gones.NoItem id) is.0 is.1 refl
answer_of desk pass (Err (faults.Stale attempt round)) is = gone (gones.Stale attempt round) is.0 is.1 refl
answer_of desk pass (Err (faults.WrongState phase)) is = absurd is
answer_of desk pass (Err (faults.NotNext place)) is = absurd is
answer_of desk pass (Err (faults.PastEnd end)) is = absurd is
answer_of desk pass (Err (faults.CheckpointDue bytes)) is = absurd is
answer_of desk pass (Err (faults.ItemsFull count)) is = absurd is
answer_of desk pass (Err (faults.WordTaken id)) is = absurd is
answer_of desk pass (Err (faults.File kind)) is = absurd is
answer_of desk pass (Err (faults.Journal kind)) is = absurd is
answer_of desk pass (Err faults.NoMemory) is = absurd is
answer_of desk pass (Err (faults.Damaged place)) is = absurd is

one_of : {D O : Type 0} (desk : View D O) (pass : SlicePass) (a b : Result ℕ DeskFault) → Answer desk pass a → Answer desk pass b → a ≡ b
one_of desk pass a b (broken fell is) (broken later same) = is ∙ sym same
one_of desk pass a b (broken fell is) (gone g whole declines same) = absurd (not_broken desk.broken whole fell)
one_of desk pass a b (broken fell is) (next place whole runs same) = absurd (not_broken desk.broken whole fell)
one_of desk pass a b (gone g whole declines is) (broken fell same) = absurd (not_broken desk.broken whole fell)
one_of desk pass a b (gone g whole declines is) (gone other later second same) =
    is ∙ (ap (λ (x : Gone). Err (fault_of x)) (one_gone (item_in pass.id.0 desk.items.items) (life_in pass.id.0 desk.lives) pass g other declines second) ∙ sym same)
one_of desk pass a b (gone g whole declines is) (next place later runs same) = absurd (slice_not_declined desk pass g (has_part desk pass place runs) declines)
one_of desk pass a b (next place whole runs is) (broken fell same) = absurd (not_broken desk.broken whole fell)
one_of desk pass a b (next place whole runs is) (gone g later declines same) = absurd (slice_not_declined desk pass g (has_part desk pass place runs) declines)
one_of desk pass a b (next place whole runs is) (next other later second same) =
    is ∙ (ap (λ (n : ℕ). Ok n) (next_one desk pass place other runs second) ∙ sym same)

-- checking has one answer
pub one_check : {D O : Type 0} (desk : View D O) (pass : SlicePass) (a b : Result ℕ DeskFault) → CheckAnswers desk pass a → CheckAnswers desk pass b → a ≡ b
one_check desk pass a b first second = one_of desk pass a b (answer_of desk pass a first) (answer_of desk pass b second)
