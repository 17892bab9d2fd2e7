use Rattle.dm_chunk.proofs.LawLemmas.{one_chunked, one_front, one_bad}
use Rattle.dm_chunk.proofs.laws.one_reading.Goals as goal

pub returns : goal.returns
returns c = record { chunked = one_chunked; front = one_front; bad = one_bad }
