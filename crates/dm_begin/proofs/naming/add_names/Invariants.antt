use Rattle.std.proofs.Common.{◌≡◌, ◌++◌, drop}
use Rattle.dm_answers.specs.Describe.{used_names}
use Rattle.dm_begin.proofs.naming.add_names.Given as goal

abbrev pub invariant-loop-item : goal.invariant-loop-item
invariant-loop-item l = l.taken ++ used_names (drop l.item-index l.items) ≡ l.initial.taken ++ used_names l.items
