use Rattle.std.proofs.Common.{length}
use Rattle.dm_slice.proofs.words.+holds.Given as goal

abbrev pub decreases-holds : goal.decreases-holds
decreases-holds l = length l.others.now
