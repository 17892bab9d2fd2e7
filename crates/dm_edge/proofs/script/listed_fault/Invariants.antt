use Rattle.std.proofs.Common.{◌≡◌, drop}
use Rattle.dm_edge.specs.Script.{fault_at}
use Rattle.dm_edge.proofs.script.listed_fault.Given as goal

abbrev pub invariant-loop-number : goal.invariant-loop-number
invariant-loop-number g l = fault_at l.entries l.call ≡ fault_at (drop l.number-index l.entries) l.call
