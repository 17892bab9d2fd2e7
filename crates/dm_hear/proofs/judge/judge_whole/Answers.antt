use Rattle.std.proofs.Common.{refl}
use Rattle.dm_hear.proofs.Heads.{no_length}
use Rattle.dm_hear.proofs.judge.judge_whole.Goals as goal

pub returns-in-None : goal.returns-in-None
returns-in-None c = (refl, no_length c.requires.whole c.in-None.ensures.none)
