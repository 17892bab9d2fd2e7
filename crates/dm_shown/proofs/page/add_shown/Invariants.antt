use Rattle.std.proofs.Common.{◌≡◌, ◌++◌}
use Rattle.dm_hist.specs.Shown.{shown}
use Rattle.dm_shown.proofs.page.add_shown.Given as goal

abbrev pub invariant-loop-row : goal.invariant-loop-row
invariant-loop-row l = l.page ≡ l.initial.page ++ shown l.items l.yielded
