use Rattle.dm_target.proofs.Fronts.{stays_outside}
use Rattle.dm_target.proofs.laws.no_target_comes.Goals as goal

pub returns : goal.returns
returns c = stays_outside
