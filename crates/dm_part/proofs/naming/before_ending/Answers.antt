use Rattle.std.proofs.Common.{ℕ, codes, eqb}
use Rattle.std.proofs.lemmas.Slice.Eq.{strip_suffix_is}
use Rattle.std.proofs.lemmas.Bool.Decides.{Decides-eqb}
use Rattle.dm_part.proofs.naming.before_ending.Goals as goal

pub returns : goal.returns
returns c = strip_suffix_is {A = ℕ} {E = eqb} Decides-eqb c.args.text.now (codes ".crdownload") c.strip_suffix.result (rw c.as_slice.ensures at c.strip_suffix.ensures.cases)
