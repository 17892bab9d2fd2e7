use Rattle.std.proofs.Common.{◌≡◌, ◌≤◌, ◌+◌, ◌-◌, ◌*◌, [], length}
use Rattle.dm_types.specs.Faults.{NoneFell}
use Rattle.dm_edge.specs.Head.{most_head, most_interim}
use Rattle.dm_reply.specs.Ahead.{LeftBy, ShownBy}
use Rattle.dm_reply.specs.Found.{HasPassed}
use Rattle.dm_reply.specs.Reads.{OnlyReads}
use Rattle.dm_reply.proofs.HeadLemmas.{more_of}
use Rattle.dm_reply.proofs.receiving.receive_head.Given as goal

abbrev pub invariant-loop-size : goal.invariant-loop-size
invariant-loop-size g l = let W = g.W.Wire in record {
  few : l.passed ≤ most_interim;
  held : W.tells → (W.told l.fn.wire).given ≡ [] → HasPassed (W.told l.wire).given l.ahead l.passed;
  ends : W.tells → LeftBy (W.told l.wire) l.came;
  reads : OnlyReads W.tells W.told W.purpose W.origin W.wants l.fn.wire l.wire;
  later : NoneFell (W.faults l.fn.wire) (W.faults l.wire);
  shown : ShownBy (W.faults l.fn.wire) (W.faults l.wire) l.came;
}

-- one more head that may be passed over, one more byte of the next, or an end of the receiving
abbrev pub decreases-loop-size : goal.decreases-loop-size
decreases-loop-size g l = 131074 * (most_interim - l.passed) + (2 * (most_head - length l.ahead) + more_of l.came)
