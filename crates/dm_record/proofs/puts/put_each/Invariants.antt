use Rattle.std.proofs.Common.{◌≡◌, ◌++◌, take}
use Rattle.std.specs.List.{flat_map, AllByRecursion}
use Rattle.dm_record.specs.Spelling.{slice}
use Rattle.dm_record.specs.Limits.{IsSlice}
use Rattle.dm_record.proofs.puts.put_each.Given as goal

abbrev pub invariant-loop-field : goal.invariant-loop-field
invariant-loop-field l = (l.out ≡ l.initial.out ++ flat_map slice (take l.field-index l.fields)) × AllByRecursion IsSlice (take l.field-index l.fields)
