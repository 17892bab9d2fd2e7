use Rattle.dm_hist.proofs.Words.{least}
use Rattle.dm_hist.proofs.laws.a_word_finds_the_least_id.Goals as goal

pub returns : goal.returns
returns c = λ word rows row are found. least word rows row are found
