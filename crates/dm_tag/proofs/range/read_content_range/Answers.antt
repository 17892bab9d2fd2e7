use Rattle.std.proofs.Common.{ℕ, List, ◌∷◌, sym, ◌∙◌, subst}
use Rattle.dm_tag.specs.Range.{IsRange}
use Rattle.dm_tag.proofs.CutLemmas.{cons_tail}
use Rattle.dm_tag.proofs.ReadLemmas.{range_text, range_none}
use Rattle.dm_tag.proofs.range.read_content_range.Goals as goal

pub returns-in_err-after_unit-clause-none : goal.returns-in_err-after_unit-clause-none
returns-in_err-after_unit-clause-none c = rw c.from_residual.ensures (λ range is.
    c.in_err-after_unit.ensures.none (32 ∷ is.text) (record { unit = is.unit; parts = is.parts; is_bytes = is.bytes }))

pub returns-in_err-text-clause-none : goal.returns-in_err-text-clause-none
returns-in_err-text-clause-none c = rw c.from_residual-in_err-text.ensures (λ range is.
    c.in_err-text.ensures.none is.text (range_text c.args.value.now c.in_ok-after_unit.field-0.now range c.in_ok-after_unit.ensures.found is))

pub returns-in_err-first-clause-none : goal.returns-in_err-first-clause-none
returns-in_err-first-clause-none c = rw c.from_residual-in_err-first.ensures (λ range is.
    let text = cons_tail 32 _ is.text (sym c.in_ok-text.ensures.found ∙ range_text c.args.value.now c.in_ok-after_unit.field-0.now range c.in_ok-after_unit.ensures.found is) in
    range_none c.in_ok-text.text.now range c.in_default.ensures.none c.in_err-first.ensures.none (subst (λ (x : List ℕ). IsRange x range) (sym text) is.is_range))
