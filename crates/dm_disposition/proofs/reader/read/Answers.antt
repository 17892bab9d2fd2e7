use Rattle.std.proofs.Common.{◌≡◌, ℕ, length, take, Some, inr, ap, sym, ◌∙◌, subst, refl, arith}
use Rattle.dm_disposition.specs.Machine.{run, nothing}
use Rattle.dm_disposition.specs.Views.{view}
use Rattle.dm_disposition.proofs.FieldLemmas.{run_more}
use Rattle.dm_disposition.proofs.reader.read.Goals as goal

pub loop-place-init : goal.loop-place-init
unfolding run
loop-place-init c = ap Some (sym c.new-notes.ensures)

pub loop-place-preserved : goal.loop-place-preserved
loop-place-preserved c =
    run_more c.args.value.now c.loop-place.place _ (view c.loop-place.notes) c.in-Some.next (omega arith) refl c.loop-place.invariant (sym c.in-Some.ensures)
    ∙ ap Some (sym c.in_ok-take-in-Some.ensures)

pub returns-then-not-is_end : goal.returns-then-not-is_end
returns-then-not-is_end c =
    let whole : c.loop-place.place ≡ length c.args.value.now = omega arith in
    record {
      last = view c.loop-place.notes;
      ran = subst (λ (k : ℕ). run nothing 0 (take k c.args.value.now) ≡ Some (view c.loop-place.notes)) whole c.loop-place.invariant;
      stops = inr (refl, sym c.is_end.ensures ∙ c.if-not-is_end.true);
    }
