use Rattle.std.proofs.Common.{◌≡◌, take}
use Rattle.dm_disk.specs.Index.{names_listed}
use Rattle.dm_disk.proofs.index.Index.names.Given as goal

abbrev pub invariant-loop-one : goal.invariant-loop-one
invariant-loop-one l = l.names.items ≡ names_listed l.area (take l.one-index l.one-items)
