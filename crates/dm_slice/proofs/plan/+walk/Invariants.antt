use Rattle.std.proofs.Common.{length}
use Rattle.dm_slice.proofs.plan.+walk.Given as goal

abbrev pub decreases-walk : goal.decreases-walk
decreases-walk l = length l.slices.now
