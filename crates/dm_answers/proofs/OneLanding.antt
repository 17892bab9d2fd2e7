-- Landing has one answer on one desk, but for the faults that come from outside.
use Rattle.std.proofs.Common.{◌≡◌, ◌≢◌, ℕ, ◌+◌, ◌<◌, ◌≤◌, ◌==◌, nat_lt, cond, Bool, true, false, List, length, Result, Ok, Err, refl, sym, ◌∙◌, ap, arith}
use Rattle.std.proofs.lemmas.Bool.{false≢true}
use Rattle.std.proofs.lemmas.Bool.Decides.{nat_tests}
use Rattle.dm_types.specs.declared.kinds.DiskKind.{DiskKind}
use Rattle.dm_item.specs.Listing.{item_in}
use Rattle.dm_store.specs.declared.life.Life.{Life}
use Rattle.dm_store.specs.declared.pass.Gone.{Gone}
use Rattle.dm_store.specs.declared.pass.Gone.TheVariants as gones
use Rattle.dm_store.specs.Lives.{life_in}
use Rattle.dm_store.specs.View.{View}
use Rattle.dm_answers.specs.declared.answer.SlicePass.{SlicePass}
use Rattle.dm_answers.specs.declared.fault.DeskFault.{DeskFault}
use Rattle.dm_answers.specs.declared.fault.DeskFault.TheVariants as faults
use Rattle.dm_answers.specs.Faults.{fault_of, is_free}
use Rattle.dm_answers.specs.Land.{IsDue, IsElsewhere, IsPast, LandAnswers, MayLand}
use Rattle.dm_answers.specs.Running.{RunsWith}
use Rattle.dm_answers.specs.Slices.{ComesNext, SliceDeclines}
use Rattle.dm_answers.proofs.Live.{not_broken, one_life, slice_not_declined, weaker}
use Rattle.dm_answers.proofs.OneAnswer.{has_part, next_one, one_gone}

same_test : (n : ℕ) → (n == n) ≡ true
same_test n = grind (arith, nat_tests)

other_test : (n m : ℕ) → n ≢ m → (n == m) ≡ false
other_test n m other = grind (arith, nat_tests, other)

below_test : (n m : ℕ) → n < m → nat_lt n m ≡ true
below_test n m below = grind (arith, nat_tests)

above_test : (n m : ℕ) → m ≤ n → nat_lt n m ≡ false
above_test n m above = grind (arith, nat_tests)

-- the answer where the part's next place is this one, and so many bytes are unsaved
abbrev landed : SlicePass → ℕ → ℕ → ℕ → ℕ → ℕ → Result (Unit {0}) DeskFault
landed pass at count checkpoint place unsaved =
    cond (place == at) (cond (nat_lt pass.end (at + count)) (Err (faults.PastEnd pass.end)) (cond (nat_lt unsaved checkpoint) (Ok tt) (Err (faults.CheckpointDue unsaved)))) (Err (faults.NotNext place))

module _ (pass : SlicePass) (at count checkpoint : ℕ) where
  abbrev Answer : Type 0
  Answer = Result (Unit {0}) DeskFault

  at_place : (unsaved : ℕ) → landed pass at count checkpoint at unsaved ≡ cond (nat_lt pass.end (at + count)) (Err (faults.PastEnd pass.end)) (cond (nat_lt unsaved checkpoint) (Ok tt) (Err (faults.CheckpointDue unsaved)))
  at_place unsaved = ap (λ (b : Bool). cond b (cond (nat_lt pass.end (at + count)) (Err (faults.PastEnd pass.end)) (cond (nat_lt unsaved checkpoint) (Ok tt) (Err (faults.CheckpointDue unsaved)))) (Err (faults.NotNext at))) (same_test at)

  in_part : (unsaved : ℕ) → at + count ≤ pass.end → landed pass at count checkpoint at unsaved ≡ cond (nat_lt unsaved checkpoint) (Ok tt) (Err (faults.CheckpointDue unsaved))
  in_part unsaved fits = at_place unsaved ∙ ap (λ (b : Bool). cond b (Err (faults.PastEnd pass.end)) (cond (nat_lt unsaved checkpoint) (Ok tt) (Err (faults.CheckpointDue unsaved)))) (above_test pass.end (at + count) fits)

  is_elsewhere : (place unsaved : ℕ) → place ≢ at → landed pass at count checkpoint place unsaved ≡ Err (faults.NotNext place)
  is_elsewhere place unsaved other = ap (λ (b : Bool). cond b (cond (nat_lt pass.end (at + count)) (Err (faults.PastEnd pass.end)) (cond (nat_lt unsaved checkpoint) (Ok tt) (Err (faults.CheckpointDue unsaved)))) (Err (faults.NotNext place))) (other_test place at other)

  is_past : (unsaved : ℕ) → pass.end < at + count → landed pass at count checkpoint at unsaved ≡ Err (faults.PastEnd pass.end)
  is_past unsaved past = at_place unsaved ∙ ap (λ (b : Bool). cond b (Err (faults.PastEnd pass.end)) (cond (nat_lt unsaved checkpoint) (Ok tt) (Err (faults.CheckpointDue unsaved)))) (below_test pass.end (at + count) past)

  is_due : (unsaved : ℕ) → at + count ≤ pass.end → checkpoint ≤ unsaved → landed pass at count checkpoint at unsaved ≡ Err (faults.CheckpointDue unsaved)
  is_due unsaved fits due = in_part unsaved fits ∙ ap (λ (b : Bool). cond b (Ok tt) (Err (faults.CheckpointDue unsaved))) (above_test unsaved checkpoint due)

  lands : (unsaved : ℕ) → at + count ≤ pass.end → unsaved < checkpoint → landed pass at count checkpoint at unsaved ≡ Ok tt
  lands unsaved fits below = in_part unsaved fits ∙ ap (λ (b : Bool). cond b (Ok tt) (Err (faults.CheckpointDue unsaved))) (below_test unsaved checkpoint below)

-- Why a piece is answered so: the desk is broken, the pass is over, or its place and what is unsaved decide.
data Landing {D O : Type 0} (old : View D O) (pass : SlicePass) (at count : ℕ) (result : Result (Unit {0}) DeskFault) : Type 0 where
  broken : old.broken ≡ true → result ≡ Err faults.Broken → Landing old pass at count result
  gone : (g : Gone) → old.broken ≡ false → SliceDeclines old pass g → result ≡ Err (fault_of g) → Landing old pass at count result
  live : (place : ℕ) → old.broken ≡ false → (runs : RunsWith old pass.id pass.attempt (ComesNext pass place)) → landed pass at count old.limits.checkpoint place runs.life.unsaved ≡ result → Landing old pass at count result

module _ {D O : Type 0} (counts : D → DiskKind → ℕ) (old new : View D O) (pass : SlicePass) (at : ℕ) (piece : List ℕ) where
  abbrev Rest : Result (Unit {0}) DeskFault → Type 0
  Rest result = Landing old pass at (length piece) result

  landing_of : (result : Result (Unit {0}) DeskFault) → is_free result ≡ false → LandAnswers counts old new pass at piece result → Rest result
  landing_of (Ok done) free is =
      live at is.1.whole (weaker old pass.id pass.attempt (MayLand pass at (length piece) old.limits.checkpoint) (ComesNext pass at) (λ item life may. may.fits.next) is.0)
      (lands pass at (length piece) old.limits.checkpoint is.0.life.unsaved is.0.is.fits.fits is.0.is.below)
  landing_of (Err faults.Broken) free is = broken is.broken refl
  landing_of (Err (faults.NoItem id)) free is = gone (gones.NoItem id) is.whole is.cause refl
  landing_of (Err (faults.Stale attempt round)) free is = gone (gones.Stale attempt round) is.whole is.cause refl
  landing_of (Err (faults.NotNext place)) free is =
      live place is.whole (weaker old pass.id pass.attempt (IsElsewhere pass at place) (ComesNext pass place) (λ item life other. other.next) is.cause)
      (is_elsewhere pass at (length piece) old.limits.checkpoint place is.cause.life.unsaved is.cause.is.other)
  landing_of (Err (faults.PastEnd end)) free is =
      live at is.whole (weaker old pass.id pass.attempt (IsPast pass at (length piece) end) (ComesNext pass at) (λ item life past. past.next) is.cause)
      (is_past pass at (length piece) old.limits.checkpoint is.cause.life.unsaved is.cause.is.past ∙ ap (λ (n : ℕ). Err (faults.PastEnd n)) (sym is.cause.is.end_is))
  landing_of (Err (faults.CheckpointDue bytes)) free is =
      live at is.whole (weaker old pass.id pass.attempt (IsDue pass at (length piece) old.limits.checkpoint bytes) (ComesNext pass at) (λ item life due. due.fits.next) is.cause)
      (is_due pass at (length piece) old.limits.checkpoint is.cause.life.unsaved is.cause.is.fits.fits is.cause.is.due ∙ ap (λ (n : ℕ). Err (faults.CheckpointDue n)) (sym is.cause.is.bytes_are))
  landing_of (Err (faults.File kind)) free is = absurd (false≢true (sym free))
  landing_of (Err (faults.Journal kind)) free is = absurd (false≢true (sym free))
  landing_of (Err faults.NoMemory) free is = absurd is
  landing_of (Err (faults.WrongState phase)) free is = absurd is
  landing_of (Err (faults.ItemsFull count)) free is = absurd is
  landing_of (Err (faults.WordTaken id)) free is = absurd is
  landing_of (Err (faults.Damaged place)) free is = absurd is

one_of : {D O : Type 0} (old : View D O) (pass : SlicePass) (at count : ℕ) (a b : Result (Unit {0}) DeskFault) → Landing old pass at count a → Landing old pass at count b → a ≡ b
one_of old pass at count a b (broken fell is) (broken later same) = is ∙ sym same
one_of old pass at count a b (broken fell is) (gone g whole declines same) = absurd (not_broken old.broken whole fell)
one_of old pass at count a b (broken fell is) (live place whole runs same) = absurd (not_broken old.broken whole fell)
one_of old pass at count a b (gone g whole declines is) (broken fell same) = absurd (not_broken old.broken whole fell)
one_of old pass at count a b (gone g whole declines is) (gone other later second same) =
    is ∙ (ap (λ (x : Gone). Err (fault_of x)) (one_gone (item_in pass.id.0 old.items.items) (life_in pass.id.0 old.lives) pass g other declines second) ∙ sym same)
one_of old pass at count a b (gone g whole declines is) (live place later runs same) = absurd (slice_not_declined old pass g (has_part old pass place runs) declines)
one_of old pass at count a b (live place whole runs is) (broken fell same) = absurd (not_broken old.broken whole fell)
one_of old pass at count a b (live place whole runs is) (gone g later declines same) = absurd (slice_not_declined old pass g (has_part old pass place runs) declines)
one_of old pass at count a b (live place whole runs is) (live other later second same) =
    sym is ∙ (ap (λ (n : ℕ). landed pass at count old.limits.checkpoint n runs.life.unsaved) (next_one old pass place other runs second)
    ∙ (ap (λ (l : Life). landed pass at count old.limits.checkpoint other l.unsaved) (one_life old pass.id pass.attempt (ComesNext pass place) (ComesNext pass other) runs second) ∙ same))

pub one_land : {D O : Type 0} (counts : D → DiskKind → ℕ) (old new other : View D O) (pass : SlicePass) (at : ℕ) (piece : List ℕ) (a b : Result (Unit {0}) DeskFault) → is_free a ≡ false → is_free b ≡ false
    → LandAnswers counts old new pass at piece a → LandAnswers counts old other pass at piece b → a ≡ b
one_land counts old new other pass at piece a b free_a free_b first second =
    one_of old pass at (length piece) a b (landing_of counts old new pass at piece a free_a first) (landing_of counts old other pass at piece b free_b second)
