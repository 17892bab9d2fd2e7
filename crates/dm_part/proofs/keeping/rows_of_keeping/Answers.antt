use Rattle.dm_part.proofs.Rows.{rows_hold}
use Rattle.dm_part.proofs.keeping.rows_of_keeping.Goals as goal

pub returns : goal.returns
returns c = rows_hold
