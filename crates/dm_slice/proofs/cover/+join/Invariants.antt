use Rattle.std.proofs.Common.{length}
use Rattle.dm_slice.proofs.cover.+join.Given as goal

abbrev pub decreases-join : goal.decreases-join
decreases-join l = length l.rest.now
