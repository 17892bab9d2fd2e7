use Rattle.dm_record.proofs.Places as places
use Rattle.dm_record.proofs.laws.one_spelling.Goals as goal

pub returns : goal.returns
returns c = places.one_spelling
