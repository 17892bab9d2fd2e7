use Rattle.std.proofs.Common.{◌≡◌, drop}
use Rattle.dm_disk.specs.Failing.{listed_kind}
use Rattle.dm_disk.proofs.failing.listed_kind.Given as goal

abbrev pub invariant-loop-listed : goal.invariant-loop-listed
invariant-loop-listed l = listed_kind l.call (drop l.listed-index l.failing) ≡ listed_kind l.call l.failing
