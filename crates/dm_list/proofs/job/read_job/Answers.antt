use Rattle.dm_words.specs.Asked.{asked}
use Rattle.dm_list.proofs.Reading.{keeps_rules, has_job, words_refused}
use Rattle.dm_list.proofs.job.read_job.Goals as goal

pub make_job-requires : goal.make_job-requires
make_job-requires c = keeps_rules c.args.words.now (asked c.in-Ok.command) c.in-Ok.ensures.ok

pub returns-in-Ok-clause-ok : goal.returns-in-Ok-clause-ok
returns-in-Ok-clause-ok c = has_job c.args.words.now (asked c.in-Ok.command) c.make_job.result c.in-Ok.ensures.ok c.make_job.ensures.ok

pub returns-in-Ok-clause-refused : goal.returns-in-Ok-clause-refused
returns-in-Ok-clause-refused c = words_refused c.args.words.now (asked c.in-Ok.command) c.make_job.result c.in-Ok.ensures.ok c.make_job.ensures.refused

pub returns-in-Err-clause-refused : goal.returns-in-Err-clause-refused
returns-in-Err-clause-refused c = λ asked asks. absurd (c.in-Err.ensures.err asked asks)
