use Rattle.dm_change.proofs.Answering.{same_answer}
use Rattle.dm_change.proofs.laws.one_answer.Goals as goal

pub returns : goal.returns
returns g c is_done entry id old new other a b named first second = same_answer is_done entry id old new other named a b first second
