use Rattle.std.proofs.Common.{length}
use Rattle.dm_tag.specs.Length.{IsTail}
use Rattle.dm_tag.proofs.length.read_length.Given as goal

abbrev pub invariant-loop-rest : goal.invariant-loop-rest
invariant-loop-rest l = record {
  back : IsTail l.number l.rest → IsTail l.number l.initial.rest;
  forth : IsTail l.number l.initial.rest → IsTail l.number l.rest;
}

abbrev pub decreases-loop-rest : goal.decreases-loop-rest
decreases-loop-rest l = length l.rest
