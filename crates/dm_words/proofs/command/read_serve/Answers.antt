use Rattle.dm_words.specs.Asked.{Serves, asked}
use Rattle.dm_words.proofs.OneCommand.{no_serve_asked, ok_serve}
use Rattle.dm_words.proofs.command.read_serve.Goals as goal

pub returns-in-Ok-clause-ok : goal.returns-in-Ok-clause-ok
returns-in-Ok-clause-ok c = ok_serve c.args.words.now (asked c.in-Ok.command) c.in-Ok.ensures.ok c.in-Ok.ensures.alone c.port_in.result c.port_in.ensures.ok

pub returns-in-Ok-clause-err : goal.returns-in-Ok-clause-err
returns-in-Ok-clause-err c = no_serve_asked c.args.words.now (asked c.in-Ok.command) c.in-Ok.ensures.ok c.in-Ok.ensures.alone c.port_in.result c.port_in.ensures.err

pub returns-in-Err-clause-err : goal.returns-in-Err-clause-err
returns-in-Err-clause-err c = λ port asks. c.in-Err.ensures.err (Serves port) asks
