use Rattle.dm_chunk.proofs.LawLemmas.{chunked_no_front, chunked_not_bad, front_not_bad}
use Rattle.dm_chunk.proofs.laws.apart.Goals as goal

pub returns : goal.returns
returns c = record { chunked_no_front = chunked_no_front; chunked_not_bad = chunked_not_bad; front_not_bad = front_not_bad }
