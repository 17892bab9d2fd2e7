use Rattle.std.proofs.Common.{ℕ, List, ◌∷◌, sym, ◌∙◌, subst}
use Rattle.dm_types.specs.Bytes.{is_blank, Cuts}
use Rattle.dm_tag.specs.Number.{BeginsNumber}
use Rattle.dm_tag.proofs.CutLemmas.{cons_tail}
use Rattle.dm_tag.proofs.ReadLemmas.{cut_one, repeat_steps, repeat_from, number_one}
use Rattle.dm_tag.proofs.length.after_repeat.Goals as goal

pub returns-in_err-after-clause-none : goal.returns-in_err-after-clause-none
returns-in_err-after-clause-none c = rw c.from_residual.ensures (λ rest begins.
    let s = repeat_steps c.args.number c.args.bytes.now rest begins in
    let one = cut_one is_blank c.args.bytes.now c.cut_blanks.result.0.now s.before c.cut_blanks.result.1.now (44 ∷ s.after_comma) c.cut_blanks.ensures s.first in
    c.in_err-after.ensures.none s.after_comma one.1)

pub returns-in_err-again-clause-none : goal.returns-in_err-again-clause-none
returns-in_err-again-clause-none c = rw c.from_residual-in_err-again.ensures (λ rest begins.
    let s = repeat_steps c.args.number c.args.bytes.now rest begins in
    let one = cut_one is_blank c.args.bytes.now c.cut_blanks.result.0.now s.before c.cut_blanks.result.1.now (44 ∷ s.after_comma) c.cut_blanks.ensures s.first in
    let comma = cons_tail 44 _ s.after_comma (sym c.in_ok-after.ensures.found ∙ one.1) in
    let two = cut_one is_blank s.after_comma c.cut_blanks-2.result.0.now s.after c.cut_blanks-2.result.1.now s.digits (subst (λ (x : List ℕ). Cuts is_blank x c.cut_blanks-2.result.0.now c.cut_blanks-2.result.1.now) comma c.cut_blanks-2.ensures) s.second in
    c.in_err-again.ensures.none c.args.number rest (subst (λ (x : List ℕ). BeginsNumber x c.args.number rest) (sym two.1) s.number))

pub returns-then-again-number-clause-found : goal.returns-then-again-number-clause-found
returns-then-again-number-clause-found c =
    repeat_from c.args.number c.args.bytes.now c.cut_blanks.result.0.now c.in_ok-after.field-0.now c.cut_blanks-2.result.0.now c.cut_blanks-2.result.1.now c.in_ok-again.rest.now
    (subst (λ (x : List ℕ). Cuts is_blank c.args.bytes.now c.cut_blanks.result.0.now x) c.in_ok-after.ensures.found c.cut_blanks.ensures)
    c.cut_blanks-2.ensures
    (subst (λ (n : ℕ). BeginsNumber c.cut_blanks-2.result.1.now n c.in_ok-again.rest.now) c.if-again-number.true c.in_ok-again.ensures.found)

pub returns-else-again-number-clause-none : goal.returns-else-again-number-clause-none
returns-else-again-number-clause-none c = λ rest begins.
    let s = repeat_steps c.args.number c.args.bytes.now rest begins in
    let one = cut_one is_blank c.args.bytes.now c.cut_blanks.result.0.now s.before c.cut_blanks.result.1.now (44 ∷ s.after_comma) c.cut_blanks.ensures s.first in
    let comma = cons_tail 44 _ s.after_comma (sym c.in_ok-after.ensures.found ∙ one.1) in
    let two = cut_one is_blank s.after_comma c.cut_blanks-2.result.0.now s.after c.cut_blanks-2.result.1.now s.digits (subst (λ (x : List ℕ). Cuts is_blank x c.cut_blanks-2.result.0.now c.cut_blanks-2.result.1.now) comma c.cut_blanks-2.ensures) s.second in
    c.if-again-number.false (number_one c.cut_blanks-2.result.1.now c.in_ok-again.again c.args.number c.in_ok-again.rest.now rest c.in_ok-again.ensures.found (subst (λ (x : List ℕ). BeginsNumber x c.args.number rest) (sym two.1) s.number)).0
