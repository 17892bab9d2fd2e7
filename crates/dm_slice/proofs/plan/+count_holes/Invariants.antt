use Rattle.std.proofs.Common.{length}
use Rattle.dm_slice.proofs.plan.+count_holes.Given as goal

abbrev pub decreases-count_holes : goal.decreases-count_holes
decreases-count_holes l = length l.slices.now
