use Rattle.dm_chunk.proofs.LawLemmas.{told_brought}
use Rattle.dm_chunk.proofs.laws.told_is_brought.Goals as goal

pub returns : goal.returns
returns c = told_brought
