use Rattle.std.proofs.Common.{[], length, ap, arith}
use Rattle.std.proofs.lemmas.Bool.Decides.{nat_tests}
use Rattle.dm_tag.proofs.ReadLemmas.{number_one, whole_begins}
use Rattle.dm_tag.proofs.number.whole_number.Goals as goal

pub returns-in_err-number-clause-none : goal.returns-in_err-number-clause-none
returns-in_err-number-clause-none c =
    rw c.from_residual.ensures (λ n is. c.in_err-number.ensures.none n [] (whole_begins c.args.bytes.now n is))

pub returns-else-is_empty-clause-none : goal.returns-else-is_empty-clause-none
returns-else-is_empty-clause-none c = λ n is.
    let one = number_one c.args.bytes.now c.in_ok-number.number n c.in_ok-number.rest.now [] c.in_ok-number.ensures.found (whole_begins c.args.bytes.now n is) in
    let empty = ap length one.1 in
    grind (arith, nat_tests)
