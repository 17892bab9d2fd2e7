use Rattle.dm_target.proofs.Stripping.{stripped, unstripped}
use Rattle.dm_target.proofs.target.strip.Goals as goal

pub returns-clause-some : goal.returns-clause-some
returns-clause-some c = stripped c.strip_prefix.result c.args.line.now c.args.text.now c.strip_prefix.ensures.cases

pub returns-clause-none : goal.returns-clause-none
returns-clause-none c = unstripped c.strip_prefix.result c.args.line.now c.args.text.now c.strip_prefix.ensures.cases
