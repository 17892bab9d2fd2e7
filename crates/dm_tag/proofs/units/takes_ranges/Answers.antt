use Rattle.std.proofs.Common.{eqb, rules, tests}
use Rattle.std.specs.List.{slice_split}
use Rattle.std.proofs.lemmas.Iterator.{cases_from_any}
use Rattle.std.proofs.lemmas.Iterator.Splits.{YieldsList-from_slice_split}
use Rattle.dm_tag.specs.Units.{IsBytesUnit}
use Rattle.dm_tag.proofs.AnyLemmas.{any_is}
use Rattle.dm_tag.proofs.units.takes_ranges.Goals as goal

pub returns : goal.returns
returns c =
    any_is IsBytesUnit c.any.result (slice_split (λ b. eqb b 44) c.args.value.now)
    (cases_from_any _ _ c.any.result IsBytesUnit (λ p. IsBytesUnit p → ⊥) c.any.ensures.ran
    (YieldsList-from_slice_split _ (λ b. eqb b 44) c.args.value.now c.split.ensures.rest c.split.ensures.done c.split.ensures.closure (λ x b q k. search (rules, tests)))
    (λ x q k. search (rules, tests)) (λ x q k. search (rules, tests)))
