use Rattle.dm_find.proofs.Taking.{SoFar}
use Rattle.dm_find.proofs.bodies.take_bodies.Given as goal

abbrev pub invariant-loop-body : goal.invariant-loop-body
invariant-loop-body l = SoFar l.initial.items.limit l.bodies l.body-index l.items l.place
