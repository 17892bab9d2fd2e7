use Rattle.dm_generated.proofs.Fairness.{brings_generated}
use Rattle.dm_generated.proofs.laws.brings_generated.Goals as goal

pub returns : goal.returns
returns c = brings_generated
