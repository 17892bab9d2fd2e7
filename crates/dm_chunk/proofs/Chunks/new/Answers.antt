use Rattle.dm_chunk.proofs.StepLemmas.{fresh}
use Rattle.dm_chunk.proofs.Chunks.new.Goals as goal

pub returns : goal.returns
returns c = record { stands = fresh }
