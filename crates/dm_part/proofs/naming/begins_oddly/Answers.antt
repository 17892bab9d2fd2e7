use Rattle.std.proofs.Common.{◌<◌, length, arith}
use Rattle.std.proofs.lemmas.Bool.Decides.{nat_tests}
use Rattle.dm_part.proofs.Names.{no_sign, no_zero}
use Rattle.dm_part.proofs.naming.begins_oddly.Goals as goal

pub returns-then-first-eq43-clause-odd : goal.returns-then-first-eq43-clause-odd
returns-then-first-eq43-clause-odd c test n small is = no_sign c.args.digits.now n small is (omega (arith, c.if-first-eq43.true))

pub returns-then-first-eq48-clause-odd : goal.returns-then-first-eq48-clause-odd
returns-then-first-eq48-clause-odd c test n small is =
    let more : 1 < length c.args.digits.now = grind (arith, nat_tests) in
    no_zero c.args.digits.now n small is more c.if-first-eq48.true
