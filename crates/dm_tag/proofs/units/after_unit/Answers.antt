use Rattle.std.proofs.Common.{ℕ, List, ◌≡◌, map, codes, sym, subst}
use Rattle.std.specs.Char.{to_ascii_lowercase}
use Rattle.std.proofs.lemmas.Bool.{both_ways}
use Rattle.dm_tag.proofs.ReadLemmas.{unit_cut}
use Rattle.dm_tag.proofs.units.after_unit.Goals as goal

pub returns-else-eq_ignore_ascii_case-clause-none : goal.returns-else-eq_ignore_ascii_case-clause-none
returns-else-eq_ignore_ascii_case-clause-none c = λ rest begins.
    let cut = unit_cut c.args.bytes.now c.in_ok-unit.unit.now c.in_ok-unit.rest.now rest c.in_ok-unit.ensures.cases begins in
    let same = subst (λ (x : List ℕ). map to_ascii_lowercase x ≡ codes "bytes") (sym cut.0) begins.is_bytes in
    both_ways c.eq_ignore_ascii_case.result c.if-eq_ignore_ascii_case.false (c.eq_ignore_ascii_case.ensures.test.1 same)
