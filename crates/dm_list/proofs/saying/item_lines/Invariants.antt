use Rattle.std.proofs.Common.{◌≡◌, map, take}
use Rattle.std.specs.List.{concat}
use Rattle.dm_report.specs.Texts.{item_line_of}
use Rattle.dm_list.proofs.saying.item_lines.Given as goal

abbrev pub invariant-loop-item : goal.invariant-loop-item
invariant-loop-item l = l.text ≡ concat (map item_line_of (take l.item-index l.items))
