use Rattle.dm_types.specs.declared.entry.Entry.TheVariants as entries
use Rattle.dm_answers.specs.Change.{is_under_way}
use Rattle.dm_rehearse_run.proofs.Keeping.{calls_go_on, changed_open, changed_origin}
use Rattle.dm_rehearse_run.proofs.session.resumed.Goals as goal

pub returns-in-Ok-clause-resumes : goal.returns-in-Ok-clause-resumes
returns-in-Ok-clause-resumes c = c.in-Ok.ensures.answers

pub returns-in-Ok-clause-open : goal.returns-in-Ok-clause-open
returns-in-Ok-clause-open c = changed_open is_under_way (entries.Asked (record { 0 = 1 })) (record { 0 = 1 }) c.args.desk.now c.resume.new.self c.resume.ensures.keeps c.in-Ok.ensures.answers c.requires

pub returns-in-Ok-clause-origin : goal.returns-in-Ok-clause-origin
returns-in-Ok-clause-origin c = changed_origin is_under_way (entries.Asked (record { 0 = 1 })) (record { 0 = 1 }) c.args.desk.now c.resume.new.self c.in-Ok.ensures.answers

pub returns-in-Ok-clause-goes_on : goal.returns-in-Ok-clause-goes_on
returns-in-Ok-clause-goes_on c = calls_go_on c.args.desk.now c.resume.new.self c.resume.ensures.keeps c.requires.held
