use Rattle.dm_words.specs.Asked.{Imports}
use Rattle.dm_import.proofs.words.read_import.Goals as goal

pub returns-in-Err-clause-none : goal.returns-in-Err-clause-none
returns-in-Err-clause-none c name has = c.in-Err.ensures.err (Imports name) has
