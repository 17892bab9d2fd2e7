use Rattle.dm_words.specs.Asked.{asked}
use Rattle.dm_past.proofs.Asking.{no_words_task, none_task, some_task}
use Rattle.dm_past.proofs.words.read_task.Goals as goal

pub returns-in-Ok-clause-some : goal.returns-in-Ok-clause-some
returns-in-Ok-clause-some c = some_task c.args.words.now (asked c.in-Ok.command) c.in-Ok.ensures.ok c.task_of.result c.task_of.ensures

pub returns-in-Ok-clause-none : goal.returns-in-Ok-clause-none
returns-in-Ok-clause-none c = none_task c.args.words.now (asked c.in-Ok.command) c.in-Ok.ensures.alone c.task_of.result c.task_of.ensures

pub returns-in-Err-clause-none : goal.returns-in-Err-clause-none
returns-in-Err-clause-none c = no_words_task c.args.words.now c.in-Err.ensures.err
