use Rattle.std.proofs.Common.{map, take}
use Rattle.dm_call.specs.Query.{values_of}
use Rattle.dm_call.specs.Held.{AreValues, text_pair}
use Rattle.dm_call.proofs.query.find_values.Given as goal

abbrev pub invariant-loop-key : goal.invariant-loop-key
invariant-loop-key l = AreValues l.values (values_of l.name (map text_pair (take l.key-index l.pairs)))
