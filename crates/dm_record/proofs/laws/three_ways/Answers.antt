use Rattle.dm_record.proofs.Places as places
use Rattle.dm_record.proofs.laws.three_ways.Goals as goal

pub returns : goal.returns
returns c = places.three
