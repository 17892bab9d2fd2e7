use Rattle.std.proofs.Common.{length}
use Rattle.dm_item.proofs.copies.+add_slices.Given as goal

abbrev pub decreases-add_slices : goal.decreases-add_slices
decreases-add_slices l = length l.slices.now
