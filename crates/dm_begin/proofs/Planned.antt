-- The life of which a round was planned, and what is answered.
use Rattle.std.proofs.Common.{◌≡◌, ℕ, ◌+◌, ◌<◌, false, List, ◌++◌, Option, Some, None, Ok, Err, refl, sym, ◌∙◌, ap, subst, arith}
use Rattle.std.specs.Prelude.{IsSome, map}
use Rattle.std.proofs.lemmas.Bool.{false≢true}
use Rattle.dm_types.specs.declared.item.Item.{Item}
use Rattle.dm_types.specs.declared.item.Key.{Key}
use Rattle.dm_types.specs.declared.slices.Slice.{Slice}
use Rattle.dm_slice.specs.Cover.{SamePlaces}
use Rattle.dm_slice.specs.Plan.{opened_by}
use Rattle.dm_slice.specs.Words.{cover_end}
use Rattle.dm_slice.specs.declared.plan.Part.{Part}
use Rattle.dm_disk_model.specs.Disk.{History as Clock}
use Rattle.dm_item.proofs.Shorts.{sound_in}
use Rattle.dm_kept.specs.Files.{Says}
use Rattle.dm_kept.proofs.Lists.{some_is}
use Rattle.dm_store.specs.declared.life.Life.{Life}
use Rattle.dm_store.specs.declared.pass.Gone.{Gone}
use Rattle.dm_store.specs.declared.pass.Gone.TheVariants as gones
use Rattle.dm_store.specs.declared.pass.Pass.{Pass}
use Rattle.dm_store.specs.Keeps.{IsDesk, Keeps}
use Rattle.dm_store.specs.Lives.{IsLifeOf, LifeOf, changed_life, life_in}
use Rattle.dm_store.specs.Passes.{PassDeclines}
use Rattle.dm_store.specs.View.{View}
use Rattle.dm_answers.specs.declared.answer.SlicePass.{SlicePass}
use Rattle.dm_answers.specs.declared.fault.DeskFault.{DeskFault}
use Rattle.dm_answers.specs.declared.fault.DeskFault.TheVariants as faults
use Rattle.dm_answers.specs.Faults.{fault_of}
use Rattle.dm_answers.specs.Plan.{PlanAnswers, planned_life, slice_pass}
use Rattle.dm_answers.specs.Running.{RunsWith}
use Rattle.dm_begin.specs.declared.planning.Planned.{Planned}
use Rattle.dm_begin.specs.declared.planning.Round.{Round}
use Rattle.dm_begin.specs.Round.{IsMade, MayRound, PlanChecks, with_round}
use Rattle.dm_begin.proofs.Alive.{alive_desk, alive_keeps, changed_alike}
use Rattle.dm_begin.proofs.Opens.{IsSmall, opened_cover, opened_covered, opened_end, opened_ends, opened_few, opened_one, opened_places, opened_placed, opened_within}

untold : (key : Option Key) → IsSome key → key ≡ None → ⊥
untold None some none = false≢true some
untold (Some key) some none = absurd cc

-- the life with its next round
planned_is : (item : Item) (life : Life) (n least : ℕ) → IsLifeOf item life → IsSmall item.total → IsSome item.key → 0 < least → IsLifeOf item (planned_life item.total n least life)
planned_is item life n least is small told some =
    let same = opened_places item.total n least life.cover is.cover in
    let count = opened_covered item.total n least life.cover is.cover in
    let was = is.count in
    record {
      runs = is.runs;
      part = is.part;
      cover = opened_cover item.total n least life.cover is.cover small;
      few = opened_few item.total n least life.cover is.cover is.few;
      within = opened_within item.total n least life.cover is.cover is.within;
      holds = λ place has. (same place).1 (is.holds place has);
      count = omega (arith, count, was);
      same = λ zero place. (λ has. (is.same zero place).0 ((same place).0 has), λ has. (same place).1 ((is.same zero place).1 has));
      untold = λ none. absurd (untold item.key told none);
      one = opened_one item.total n least life.cover is.one;
      fresh = λ zero. absurd (omega (arith, zero));
      plan = opened_placed item.total n least life.cover is.cover small is.within is.one some;
      ends = opened_ends item.total n least life.cover is.cover is.within some;
    }

-- Why no round may be planned.

pub gone_checked : {D O : Type 0} (desk : View D O) (pass : Pass) (gone : Gone) (fault : DeskFault) → fault ≡ fault_of gone → PassDeclines desk pass.id pass.attempt gone → PlanChecks desk pass (Err fault)
gone_checked desk pass (gones.NoItem id) fault is declines = subst (λ (f : DeskFault). PlanChecks desk pass (Err f)) (sym is) declines
gone_checked desk pass (gones.Stale attempt round) fault is declines = subst (λ (f : DeskFault). PlanChecks desk pass (Err f)) (sym is) declines

pub check_refused : {D O : Type 0} (desk : View D O) (pass : Pass) (n : ℕ) (fault : DeskFault) → desk.broken ≡ false → PlanChecks desk pass (Err fault) → PlanAnswers desk desk pass n (Err fault)
check_refused desk pass n (faults.NoItem id) whole checks = record { whole = whole; cause = checks; same = refl }
check_refused desk pass n (faults.WrongState phase) whole checks = record { whole = whole; cause = checks; same = refl }
check_refused desk pass n (faults.Stale attempt round) whole checks = record { whole = whole; cause = checks; same = refl }
check_refused desk pass n (faults.NotNext place) whole checks = absurd checks
check_refused desk pass n (faults.PastEnd end) whole checks = absurd checks
check_refused desk pass n (faults.CheckpointDue bytes) whole checks = absurd checks
check_refused desk pass n (faults.ItemsFull count) whole checks = absurd checks
check_refused desk pass n (faults.WordTaken id) whole checks = absurd checks
check_refused desk pass n (faults.File kind) whole checks = absurd checks
check_refused desk pass n (faults.Journal kind) whole checks = absurd checks
check_refused desk pass n faults.Broken whole checks = absurd checks
check_refused desk pass n faults.NoMemory whole checks = absurd checks
check_refused desk pass n (faults.Damaged place) whole checks = absurd checks

-- a known total is small
pub round_small : {D O : Type 0} (tells : Type 0) (clock : D → Clock) (desk : View D O) (pass : Pass) (round : Round) → IsDesk tells clock desk → RunsWith desk pass.id pass.attempt (MayRound round) → IsSmall round.total
round_small tells clock desk pass round is may =
    subst IsSmall (sym may.is.total_is) (sound_in (is.founded.before ++ desk.list) desk.items pass.id.0 may.item is.founded.items may.there).covered.small

pub no_memory : {D O : Type 0} (desk : View D O) (pass : Pass) (n : ℕ) (round : Round) → desk.broken ≡ false → RunsWith desk pass.id pass.attempt (MayRound round) → PlanAnswers desk desk pass n (Err faults.NoMemory)
no_memory desk pass n round whole may = record {
  whole = whole;
  cause = record { item = may.item; there = may.there; runs = may.runs; attempt_is = may.attempt_is; life = may.life; lives = may.lives; is = may.is.may };
  same = refl;
}

-- A round that was made is put into its life.
module _ {D O : Type 0} (tells : Type 0) (clock : D → Clock) (says : O → Says) (desk : View D O) (is : IsDesk tells clock desk) (whole : desk.broken ≡ false) (pass : Pass) (n : ℕ) (round : Round) (planned : Planned)
    (made : RunsWith desk pass.id pass.attempt (IsMade n desk.limits.min_slice pass round planned)) where
  round_life : with_round round.round planned.cover planned.plan made.life ≡ planned_life made.item.total n desk.limits.min_slice made.life
  round_life =
      ap (λ (cover : List Slice). with_round round.round cover planned.plan made.life) made.is.cover_is
      ∙ ap (λ (k : ℕ). with_round k (opened_by made.item.total n desk.limits.min_slice made.life.cover) planned.plan made.life) made.is.may.round_is
      ∙ ap (λ (plan : List Part). with_round (made.life.round + 1) (opened_by made.item.total n desk.limits.min_slice made.life.cover) plan made.life) made.is.plan_is

  own_life : IsLifeOf made.item made.life
  own_life = subst (LifeOf (Some made.item)) made.lives (subst (λ (found : Option Item). LifeOf found (life_in pass.id.0 desk.lives)) made.there (is.lives whole pass.id.0))

  small : IsSmall made.item.total
  small = (sound_in (is.founded.before ++ desk.list) desk.items pass.id.0 made.item is.founded.items made.there).covered.small

  lives_on : IsLifeOf made.item (with_round round.round planned.cover planned.plan made.life)
  lives_on =
      let least = is.limits_are.min_slice.0 in
      subst (IsLifeOf made.item) (sym round_life) (planned_is made.item made.life n desk.limits.min_slice own_life small made.is.may.may.told (omega (arith, least)))

  places : SamePlaces planned.cover made.life.cover
  places = subst (λ (cover : List Slice). SamePlaces cover made.life.cover) (sym made.is.cover_is) (opened_places made.item.total n desk.limits.min_slice made.life.cover own_life.cover)

  ends : made.item.total ≡ None → cover_end planned.cover ≡ cover_end made.life.cover
  ends none = ap cover_end made.is.cover_is ∙ opened_end made.item.total n desk.limits.min_slice made.life.cover own_life.one none

  pub round_keeps : Keeps tells clock says desk (record desk { lives = changed_life pass.id.0 (with_round round.round planned.cover planned.plan) desk.lives })
  round_keeps =
      alive_keeps tells clock says desk is whole pass.id made.item made.life made.there made.lives (with_round round.round planned.cover planned.plan) (λ l. refl) lives_on refl places ends

  pub round_desk : IsDesk tells clock (record desk { lives = changed_life pass.id.0 (with_round round.round planned.cover planned.plan) desk.lives })
  round_desk =
      alive_desk tells clock says desk is whole pass.id made.item made.life made.there made.lives (with_round round.round planned.cover planned.plan) (λ l. refl) lives_on refl places ends

  alike : (l : Life) → life_in pass.id.0 desk.lives ≡ Some l → with_round round.round planned.cover planned.plan l ≡ planned_life made.item.total n desk.limits.min_slice l
  alike l found =
      let same : made.life ≡ l = some_is made.life l (sym made.lives ∙ found) in
      subst (λ (x : Life). with_round round.round planned.cover planned.plan x ≡ planned_life made.item.total n desk.limits.min_slice x) same round_life

  pub round_answers : (passes : List SlicePass) → passes ≡ planned.passes → PlanAnswers desk (record desk { lives = changed_life pass.id.0 (with_round round.round planned.cover planned.plan) desk.lives }) pass n (Ok passes)
  round_answers passes passes_are = record {
    item = made.item;
    there = made.there;
    runs = made.runs;
    attempt_is = made.attempt_is;
    life = made.life;
    lives = made.lives;
    is = record {
      may = made.is.may.may;
      planned = record {
        whole = whole;
        same = ap (λ (lives : List Life). record desk { lives = lives }) (changed_alike pass.id.0 (with_round round.round planned.cover planned.plan) (planned_life made.item.total n desk.limits.min_slice) desk.lives alike);
      };
      still = refl;
      passes_are =
          passes_are ∙ made.is.passes_are ∙ ap (λ (k : ℕ). map (slice_pass pass.id pass.attempt k) planned.plan) made.is.may.round_is
          ∙ ap (λ (plan : List Part). map (slice_pass pass.id pass.attempt (made.life.round + 1)) plan) made.is.plan_is;
    };
  }
