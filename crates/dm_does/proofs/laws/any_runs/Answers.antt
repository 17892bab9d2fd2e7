use Rattle.dm_store.specs.Origin.{said_of}
use Rattle.dm_does.proofs.Runs.{any_runs}
use Rattle.dm_does.proofs.laws.any_runs.Goals as goal

pub returns : goal.returns
returns g c = any_runs (said_of (g.O.Origin.says c.args.origin))
