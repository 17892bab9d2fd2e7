use Rattle.std.proofs.Common.{◌≡◌, ◌++◌, List, length}
use Rattle.httparse.specs.Grammar.{LineEnd, print_blank}
use Rattle.dm_target.proofs.target.skip_blank.Given as goal

abbrev pub invariant-loop-rest : goal.invariant-loop-rest
invariant-loop-rest l = record {
  blank : List LineEnd;
  is : l.front ≡ print_blank blank ++ l.line;
}

abbrev pub decreases-loop-rest : goal.decreases-loop-rest
decreases-loop-rest l = length l.line
