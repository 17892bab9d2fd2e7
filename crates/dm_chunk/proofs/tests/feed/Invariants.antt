use Rattle.std.proofs.Common.{length}
use Rattle.dm_chunk.proofs.tests.feed.Given as goal

abbrev pub decreases-loop-from : goal.decreases-loop-from
decreases-loop-from l = length l.rest
