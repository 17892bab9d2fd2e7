use Rattle.std.proofs.Common.{ℕ, List, ◌∷◌, sym, ◌∙◌, subst}
use Rattle.std.proofs.lemmas.Bool.{both_ways}
use Rattle.dm_tag.specs.Number.{BeginsNumber}
use Rattle.dm_tag.specs.Range.{IsTotal}
use Rattle.dm_tag.proofs.CutLemmas.{cons_tail}
use Rattle.dm_tag.proofs.ReadLemmas.{number_one, steps_of, total_one, lawful_same}
use Rattle.dm_tag.proofs.range.part_of.Goals as goal

pub returns-in_err-first-clause-none : goal.returns-in_err-first-clause-none
returns-in_err-first-clause-none c = rw c.from_residual.ensures (λ first last total part.
    let s = steps_of c.args.text.now first last total part in
    c.in_err-first.ensures.none first _ s.is_first)

pub returns-in_err-after-clause-none : goal.returns-in_err-after-clause-none
returns-in_err-after-clause-none c = rw c.from_residual-in_err-after.ensures (λ first last total part.
    let s = steps_of c.args.text.now first last total part in
    let one = number_one c.args.text.now _ first _ _ c.in_ok-first.ensures.found s.is_first in
    c.in_err-after.ensures.none s.after_first one.1)

pub returns-in_err-last-clause-none : goal.returns-in_err-last-clause-none
returns-in_err-last-clause-none c = rw c.from_residual-in_err-last.ensures (λ first last total part.
    let s = steps_of c.args.text.now first last total part in
    let one = number_one c.args.text.now _ first _ _ c.in_ok-first.ensures.found s.is_first in
    let rest = cons_tail _ _ _ (sym c.in_ok-after.ensures.found ∙ one.1) in
    c.in_err-last.ensures.none last (47 ∷ s.after_last) (subst (λ (x : List ℕ). BeginsNumber x last (47 ∷ s.after_last)) (sym rest) s.is_last))

pub returns-in_err-after-2-clause-none : goal.returns-in_err-after-2-clause-none
returns-in_err-after-2-clause-none c = rw c.from_residual-in_err-after-2.ensures (λ first last total part.
    let s = steps_of c.args.text.now first last total part in
    let one = number_one c.args.text.now _ first _ _ c.in_ok-first.ensures.found s.is_first in
    let rest = cons_tail _ _ _ (sym c.in_ok-after.ensures.found ∙ one.1) in
    let two = number_one _ _ last _ _ c.in_ok-last.ensures.found (subst (λ (x : List ℕ). BeginsNumber x last (47 ∷ s.after_last)) (sym rest) s.is_last) in
    c.in_err-after-2.ensures.none s.after_last two.1)

pub returns-in_err-total-clause-none : goal.returns-in_err-total-clause-none
returns-in_err-total-clause-none c = rw c.from_residual-in_err-total.ensures (λ first last total part.
    let s = steps_of c.args.text.now first last total part in
    let one = number_one c.args.text.now _ first _ _ c.in_ok-first.ensures.found s.is_first in
    let rest = cons_tail _ _ _ (sym c.in_ok-after.ensures.found ∙ one.1) in
    let two = number_one _ _ last _ _ c.in_ok-last.ensures.found (subst (λ (x : List ℕ). BeginsNumber x last (47 ∷ s.after_last)) (sym rest) s.is_last) in
    let more = cons_tail _ _ _ (sym c.in_ok-after-2.ensures.found ∙ two.1) in
    c.in_err-total.ensures.none total (subst (λ (x : List ℕ). IsTotal x total) (sym more) s.is_total))

pub returns-else-is_lawful-clause-none : goal.returns-else-is_lawful-clause-none
returns-else-is_lawful-clause-none c = λ first last total part.
    let s = steps_of c.args.text.now first last total part in
    let one = number_one c.args.text.now c.in_ok-first.first first _ _ c.in_ok-first.ensures.found s.is_first in
    let rest = cons_tail _ _ _ (sym c.in_ok-after.ensures.found ∙ one.1) in
    let two = number_one _ c.in_ok-last.last last _ _ c.in_ok-last.ensures.found (subst (λ (x : List ℕ). BeginsNumber x last (47 ∷ s.after_last)) (sym rest) s.is_last) in
    let more = cons_tail _ _ _ (sym c.in_ok-after-2.ensures.found ∙ two.1) in
    let three = total_one _ c.in_ok-total.total total c.in_ok-total.ensures.found (subst (λ (x : List ℕ). IsTotal x total) (sym more) s.is_total) in
    both_ways c.is_lawful.result c.if-is_lawful.false (c.is_lawful.ensures.1 (lawful_same _ first _ last _ total one.0 two.0 three s.in_order s.below))
