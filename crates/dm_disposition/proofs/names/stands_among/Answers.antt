use Rattle.std.proofs.Common.{rules, tests}
use Rattle.std.proofs.lemmas.Iterator.{cases_from_any, YieldsList-from_slice}
use Rattle.dm_disposition.proofs.NameLemmas.{any_is, Has}
use Rattle.dm_disposition.proofs.names.stands_among.Goals as goal

pub returns : goal.returns
returns c =
    any_is (Has c.args.name.now) c.any.result c.args.parameters.now
    (cases_from_any _ _ c.any.result (Has c.args.name.now) (λ p. Has c.args.name.now p → ⊥) c.any.ensures.ran (YieldsList-from_slice c.args.parameters.now cc) (λ x q k. search (rules, tests)) (λ x q k. search (rules, tests)))
