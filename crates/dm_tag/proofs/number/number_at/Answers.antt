use Rattle.std.proofs.Common.{arith}
use Rattle.std.proofs.lemmas.Bool.Decides.{nat_tests}
use Rattle.dm_tag.proofs.ReadLemmas.{cut_digits_is}
use Rattle.dm_tag.proofs.number.number_at.Goals as goal

pub returns-then-is_empty-clause-none : goal.returns-then-is_empty-clause-none
returns-then-is_empty-clause-none c = λ n rest begins.
    let size = cut_digits_is c.args.bytes.now c.cut_digits.result.0.now c.cut_digits.result.1.now n rest c.cut_digits.ensures begins in
    grind (arith, nat_tests)
