-- How what holds at each moment goes on over the calls.
use Rattle.std.proofs.Common.{◌≡◌, ⊎_elim, ℕ, ◌<◌, ◌≤◌, refl, sym, ◌∙◌, subst, arith}
use Rattle.std.proofs.lemmas.Bool.{cases_lt}
use Rattle.dm_disk_model.specs.Disk.{DiskState, Image, History, Next, now, MayHaveLeft}
use Rattle.dm_disk_model.specs.Moments.{Throughout, LeavesOnly, Reached}

-- nothing was done
pub at_start : (history : History) (P : DiskState → Type 0) → P (now history) → Throughout history history P
at_start history P here = record {
  later = omega arith;
  kept = λ t le. refl;
  each = λ t ge le. let same : history.moment ≡ t = omega arith in subst (λ (n : ℕ). P (history.at n)) same here;
}

-- a call
pub over_call : (old new : History) (P : DiskState → Type 0) (step : DiskState → DiskState → Type 0) → Next old new step → P (now old) → P (now new) → Throughout old new P
over_call old new P step next before after = record {
  later = next.later;
  kept = next.kept;
  each = λ t ge le. ⊎_elim
      (λ (was : new.at t ≡ now old). subst P (sym was) before)
      (λ (is : new.at t ≡ now new). subst P (sym is) after)
      (next.between t ge le);
}

-- one run after another
pub joined : (first middle last : History) (P : DiskState → Type 0) → Throughout first middle P → Throughout middle last P → Throughout first last P
joined first middle last P before after = record {
  later = omega (arith, before.later, after.later);
  kept = λ t le. after.kept t (omega (arith, le, before.later)) ∙ before.kept t le;
  each = λ t ge le. ⊎_elim
      (λ (past : middle.moment < t). after.each t (omega arith) le)
      (λ (early : t ≤ middle.moment). subst P (sym (after.kept t early)) (before.each t ge early))
      (cases_lt middle.moment t);
}

pub weaker : (old new : History) (P Q : DiskState → Type 0) → ((disk : DiskState) → P disk → Q disk) → Throughout old new P → Throughout old new Q
weaker old new P Q implies through = record { later = through.later; kept = through.kept; each = λ t ge le. implies (new.at t) (through.each t ge le) }

-- two things that hold throughout
pub both : (old new : History) (P Q : DiskState → Type 0) → Throughout old new P → Throughout old new Q → Throughout old new (λ disk. P disk × Q disk)
both old new P Q first second = record { later = first.later; kept = first.kept; each = λ t ge le. (first.each t ge le, second.each t ge le) }

-- at the end
pub at_end : (old new : History) (P : DiskState → Type 0) → Throughout old new P → P (now new)
at_end old new P through = through.each new.moment through.later (omega arith)

-- one call further
pub over_next : (start old new : History) (P : DiskState → Type 0) (step : DiskState → DiskState → Type 0) → Throughout start old P → Next old new step → P (now new) → Throughout start new P
over_next start old new P step so_far next after = joined start old new P so_far (over_call old new P step next (at_end start old P so_far) after)

-- what a crash since then might have left
pub left_since : (old new : History) (P : Image → Type 0) → LeavesOnly old new P → (image : Image) → MayHaveLeft new old.moment image → P image
left_since old new P only image left = only.each left.0 left.1 left.2 image left.3

pub started : (history : History) (Good S : DiskState → Type 0) → Good (now history) → S (now history) → Reached history history Good S
started history Good S good here = record { through = at_start history Good good; here = here }

-- so too, where what holds now changes
pub reach : (start old new : History) (Good S T : DiskState → Type 0) (step : DiskState → DiskState → Type 0) → Reached start old Good S → Next old new step
    → ((before after : DiskState) → S before → step before after → T after) → ((disk : DiskState) → T disk → Good disk) → Reached start new Good T
reach start old new Good S T step so_far next leads good =
    let here : T (now new) = leads (now old) (now new) so_far.here next.stepped in
    record {
      through = over_next start old new Good step so_far.through next (good (now new) here);
      here = here;
    }

-- the same, where the clock stands still
pub reach_same : (start old new : History) (Good S : DiskState → Type 0) → Reached start old Good S → new ≡ old → Reached start new Good S
reach_same start old new Good S so_far same = subst (λ (h : History). Reached start h Good S) (sym same) so_far
