use Rattle.dm_words.specs.Asked.{Rehearses, asked}
use Rattle.dm_rehearse_run.proofs.Asking.{no_number, some_number}
use Rattle.dm_rehearse_run.proofs.run.read_rehearsal.Goals as goal

pub returns-in-Ok-clause-some : goal.returns-in-Ok-clause-some
returns-in-Ok-clause-some c = some_number c.args.words.now (asked c.in-Ok.command) c.in-Ok.ensures.ok c.number_in.result c.number_in.ensures.some

pub returns-in-Ok-clause-none : goal.returns-in-Ok-clause-none
returns-in-Ok-clause-none c = no_number c.args.words.now (asked c.in-Ok.command) c.in-Ok.ensures.alone c.number_in.result c.number_in.ensures.none

pub returns-in-Err-clause-none : goal.returns-in-Err-clause-none
returns-in-Err-clause-none c = λ number asks. c.in-Err.ensures.err (Rehearses number) asks
