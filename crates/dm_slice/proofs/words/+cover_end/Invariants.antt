use Rattle.std.proofs.Common.{length}
use Rattle.dm_slice.proofs.words.+cover_end.Given as goal

abbrev pub decreases-cover_end : goal.decreases-cover_end
decreases-cover_end l = length l.slices.now
