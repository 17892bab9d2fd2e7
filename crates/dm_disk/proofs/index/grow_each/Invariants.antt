use Rattle.std.proofs.Common.{◌≡◌, ◌++◌, map, take, drop}
use Rattle.dm_disk.specs.Index.{entry_grown}
use Rattle.dm_disk.proofs.index.grow_each.Given as goal

-- the entries up to here have grown
abbrev pub invariant-loop-one : goal.invariant-loop-one
invariant-loop-one l = l.entries ≡ map (entry_grown l.area l.file l.end) (take l.one-index l.initial.entries) ++ drop l.one-index l.initial.entries
