use Rattle.dm_generated.proofs.Fairness.{reads_back}
use Rattle.dm_generated.proofs.laws.reads_back.Goals as goal

pub returns : goal.returns
returns c = reads_back
