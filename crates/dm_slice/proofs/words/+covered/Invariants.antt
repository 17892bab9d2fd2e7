use Rattle.std.proofs.Common.{length}
use Rattle.dm_slice.proofs.words.+covered.Given as goal

abbrev pub decreases-covered : goal.decreases-covered
decreases-covered l = length l.slices.now
