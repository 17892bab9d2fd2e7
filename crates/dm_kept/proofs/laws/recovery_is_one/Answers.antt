use Rattle.dm_kept.proofs.Histories.{records_one}
use Rattle.dm_kept.proofs.laws.recovery_is_one.Goals as goal

pub returns : goal.returns
returns c = records_one
