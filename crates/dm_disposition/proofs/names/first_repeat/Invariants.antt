use Rattle.std.proofs.Common.{map, take}
use Rattle.dm_disposition.specs.Names.{AreApart}
use Rattle.dm_disposition.specs.Views.{named}
use Rattle.dm_disposition.proofs.names.first_repeat.Given as goal

abbrev pub invariant-loop-index : goal.invariant-loop-index
invariant-loop-index l = AreApart (map named (take l.index l.parameters))
