use Rattle.dm_head.proofs.HeadLemmas.{begins_more}
use Rattle.dm_head.proofs.PassLemmas.{final_goes_on, comes_more, has_more, ninth_more}
use Rattle.dm_head.proofs.laws.more_bytes.Goals as goal

pub returns : goal.returns
returns c = record {
  begins = λ stream head rest more b. begins_more b more;
  final = λ stream head rest more b. final_goes_on b more;
  comes = λ stream from more b. comes_more b more;
  has = λ stream head rest more b. has_more b more;
  ninth = λ stream status more b. ninth_more b more;
}
