use Rattle.std.proofs.Common.{length}
use Rattle.dm_journal.specs.Taking.{TakesUpTo}
use Rattle.dm_journal.proofs.text.take_cells.Given as goal

abbrev pub invariant-cells : goal.invariant-cells
invariant-cells l = TakesUpTo l.initial.bodies l.bodies l.bytes l.rest

abbrev pub decreases-cells : goal.decreases-cells
decreases-cells l = length l.rest
