use Rattle.std.proofs.Common.{arith}
use Rattle.dm_slice.proofs.Ends.{end-cover_end}
use Rattle.dm_slice.proofs.plan.open_parts.Goals as goal

pub overflow_cast-first : goal.overflow_cast-first
overflow_cast-first c = let low = end-cover_end c.args.slices.now c.requires.cover in omega arith
