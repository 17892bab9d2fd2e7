use Rattle.dm_chunk.proofs.LawLemmas.{some_reading_of}
use Rattle.dm_chunk.proofs.laws.some_reading.Goals as goal

pub returns : goal.returns
returns c = some_reading_of
