use Rattle.std.proofs.Common.{false}
use Rattle.std.proofs.lemmas.Bool.{false≢true}
use Rattle.dm_head.proofs.metadata.is_strong.Goals as goal

pub returns-in-None : goal.returns-in-None
returns-in-None c = (λ e. absurd (false≢true e), λ is. absurd (c.in-None.ensures.none false c.args.value.now is.0))
