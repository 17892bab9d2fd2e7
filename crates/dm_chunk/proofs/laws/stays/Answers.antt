use Rattle.dm_chunk.proofs.Texts.{chunked_more}
use Rattle.dm_chunk.proofs.LawLemmas.{bad_more}
use Rattle.dm_chunk.proofs.laws.stays.Goals as goal

pub returns : goal.returns
returns c = record { chunked = chunked_more; bad = bad_more }
