use Rattle.dm_does.proofs.Fitting.{does_fit}
use Rattle.dm_does.proofs.laws.jobs_fit.Goals as goal

pub returns : goal.returns
returns c = does_fit
