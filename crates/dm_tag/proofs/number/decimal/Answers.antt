use Rattle.std.proofs.Common.{arith}
use Rattle.dm_tag.proofs.DigitLemmas.{decimal_more}
use Rattle.dm_tag.proofs.number.decimal.Goals as goal

pub overflow_mul-number : goal.overflow_mul-number
overflow_mul-number c = omega (arith, decimal_more c.args.digits.now c.loop-digit.digit-index c.requires.each c.requires.most (omega arith))

pub overflow_add-number : goal.overflow_add-number
overflow_add-number c = omega (arith, decimal_more c.args.digits.now c.loop-digit.digit-index c.requires.each c.requires.most (omega arith))

pub loop-digit-preserved : goal.loop-digit-preserved
loop-digit-preserved c = omega (arith, decimal_more c.args.digits.now c.loop-digit.digit-index c.requires.each c.requires.most (omega arith))
