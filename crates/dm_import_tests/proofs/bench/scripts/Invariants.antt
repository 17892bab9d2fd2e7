use Rattle.std.specs.Prelude.{All}
use Rattle.dm_edge.specs.Script.{IsGood}
use Rattle.dm_import_tests.proofs.bench.scripts.Given as goal

abbrev pub invariant-loop-stream : goal.invariant-loop-stream
invariant-loop-stream l = All IsGood l.wires
