use Rattle.std.proofs.Common.{length}
use Rattle.dm_slice.proofs.words.+end_at.Given as goal

abbrev pub decreases-end_at : goal.decreases-end_at
decreases-end_at l = length l.slices.now
