use Rattle.dm_part.proofs.Names.{one_name}
use Rattle.dm_part.proofs.naming.one_part.Goals as goal

pub returns : goal.returns
returns c = one_name
