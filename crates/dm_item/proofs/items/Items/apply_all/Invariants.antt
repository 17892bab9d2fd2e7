use Rattle.std.proofs.Common.{take}
use Rattle.dm_item.specs.Lawful.{KeepsHistory}
use Rattle.dm_item.proofs.items.Items.apply_all.Given as goal

abbrev pub invariant-loop-entry : goal.invariant-loop-entry
invariant-loop-entry l = KeepsHistory l.initial.self l.self (take l.entry-index l.entries)
