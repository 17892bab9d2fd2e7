use Rattle.std.proofs.Common.{◌≡◌, ◌++◌, map, take}
use Rattle.dm_types.specs.declared.entry.Entry.TheVariants.{Restored}
use Rattle.dm_item.proofs.take.add_restored.Given as goal

abbrev pub invariant-loop-item : goal.invariant-loop-item
invariant-loop-item l = l.entries ≡ l.initial.entries ++ map Restored (take l.item-index l.items)
