use Rattle.dm_words.specs.Reading.{told_of}
use Rattle.dm_words.proofs.OneCommand.{no_resume}
use Rattle.dm_words.proofs.command.make_resume.Goals as goal

pub returns-in-None-id_of-clause-err : goal.returns-in-None-id_of-clause-err
returns-in-None-id_of-clause-err c = no_resume (told_of c.args.pieces) (λ id slices is many. c.in-None-id_of.ensures.none id is)
