use Rattle.std.proofs.Common.{◌+◌, ◌-◌, ◌*◌, List, ℕ, length}
use Rattle.httparse.specs.Grammar.{ResponseHead}
use Rattle.dm_types.specs.Faults.{NoneFell}
use Rattle.dm_edge.specs.declared.wanted.Wanted.{Wanted}
use Rattle.dm_chunk.specs.Waits.{framing_left}
use Rattle.dm_reply.specs.Content.{HasFramed}
use Rattle.dm_reply.specs.Reads.{OnlyReads}
use Rattle.dm_reply.specs.Steps.{going}
use Rattle.dm_reply.specs.declared.body.Body.TheVariants as body
use Rattle.dm_reply.proofs.chunked.give_chunked.Given as goal

abbrev pub invariant-loop-from : goal.invariant-loop-from
invariant-loop-from g l = record {
  read : g.W.Wire.tells → (asked : Wanted) (head : ResponseHead) (content : List ℕ) → HasFramed asked head (g.W.Wire.told l.fn.wire).given (going l.fn.ahead (body.Chunked l.fn.chunks) l.fn.given) content
      → HasFramed asked head (g.W.Wire.told l.wire).given (going l.ahead (body.Chunked l.chunks) l.fn.given) content;
  reads : OnlyReads g.W.Wire.tells g.W.Wire.told g.W.Wire.purpose g.W.Wire.origin g.W.Wire.wants l.fn.wire l.wire;
  later : NoneFell (g.W.Wire.faults l.fn.wire) (g.W.Wire.faults l.wire);
}

abbrev pub decreases-loop-from : goal.decreases-loop-from
decreases-loop-from g l = 2 * framing_left l.chunks + (1 - length l.ahead)
