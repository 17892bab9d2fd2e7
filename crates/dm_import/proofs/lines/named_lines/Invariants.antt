use Rattle.std.proofs.Common.{◌≡◌, take}
use Rattle.dm_import.specs.Saying.{lines_in}
use Rattle.dm_import.proofs.lines.named_lines.Given as goal

abbrev pub invariant-loop-named : goal.invariant-loop-named
invariant-loop-named l = l.text ≡ lines_in l.items.items (take l.named-index l.all)
