use Rattle.dm_rehearse.proofs.Counted.{SoFar}
use Rattle.dm_rehearse.proofs.counting.count.Given as goal

abbrev pub invariant-loop-body : goal.invariant-loop-body
invariant-loop-body l = SoFar l.bodies l.body-index l.attempts l.broke
