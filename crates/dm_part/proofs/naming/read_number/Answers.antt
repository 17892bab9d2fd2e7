use Rattle.dm_part.proofs.Names.{number_read, number_not_read, number_utf8}
use Rattle.dm_part.proofs.naming.read_number.Goals as goal

pub returns-in-Ok-clause-some : goal.returns-in-Ok-clause-some
returns-in-Ok-clause-some c = rw c.ok.ensures.value (number_read c.args.digits.now c.in-Ok.text.now c.parse.result c.in-Ok.ensures.cases.0 c.parse.ensures.value.0 (c.begins_oddly.ensures.even c.if-begins_oddly.false))

pub returns-in-Ok-clause-none : goal.returns-in-Ok-clause-none
returns-in-Ok-clause-none c = rw c.ok.ensures.value (number_not_read c.args.digits.now c.in-Ok.text.now c.parse.result c.in-Ok.ensures.cases.0 c.parse.ensures.value.0)

pub returns-in-Err-clause-none : goal.returns-in-Err-clause-none
returns-in-Err-clause-none c n small is = c.in-Err.ensures.cases.0 (number_utf8 c.args.digits.now n small is)
