use Rattle.dm_generated.proofs.Requests.{one_answer}
use Rattle.dm_generated.proofs.laws.one_answer.Goals as goal

pub returns : goal.returns
returns c = one_answer
