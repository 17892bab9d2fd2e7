use Rattle.std.proofs.Common.{◌≤◌, ◌<◌, ◌-◌, length}
use Rattle.dm_types.specs.Faults.{NoneFell}
use Rattle.dm_edge.specs.Head.{most_head}
use Rattle.dm_reply.specs.Ahead.{Continues}
use Rattle.dm_reply.specs.Reads.{OnlyReads}
use Rattle.dm_reply.proofs.receiving.receive_on.Given as goal

abbrev pub invariant-loop-fault : goal.invariant-loop-fault
invariant-loop-fault g l = let W = g.W.Wire in record {
  size : length l.fn.ahead ≤ length l.ahead;
  room : length l.ahead < most_head;
  on : W.tells → Continues (W.told l.fn.wire) (W.told l.wire) l.fn.ahead l.ahead;
  reads : OnlyReads W.tells W.told W.purpose W.origin W.wants l.fn.wire l.wire;
  later : NoneFell (W.faults l.fn.wire) (W.faults l.wire);
}

abbrev pub decreases-loop-fault : goal.decreases-loop-fault
decreases-loop-fault g l = most_head - length l.ahead
