use Rattle.std.specs.Prelude.{All, ◌<◌}
use Rattle.dm_run_bench.proofs.nets.ones.Given as goal

abbrev pub invariant-loop : goal.invariant-loop
invariant-loop l = All (λ cut. 0 < cut) l.cuts
