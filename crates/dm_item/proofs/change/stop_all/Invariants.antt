use Rattle.std.proofs.Common.{◌≡◌, ◌++◌, map, take, drop}
use Rattle.dm_item.specs.Row.{stopped_item}
use Rattle.dm_item.proofs.change.stop_all.Given as goal

abbrev pub invariant-loop-item : goal.invariant-loop-item
invariant-loop-item l = l.items ≡ map stopped_item (take l.item-index l.initial.items) ++ drop l.item-index l.initial.items
