use Rattle.std.proofs.Common.{◌≡◌, drop}
use Rattle.dm_disk.specs.Index.{look}
use Rattle.dm_disk.proofs.index.Index.find.Given as goal

abbrev pub invariant-loop-one : goal.invariant-loop-one
invariant-loop-one l = look l.area l.name l.one-items ≡ look l.area l.name (drop l.one-index l.one-items)
