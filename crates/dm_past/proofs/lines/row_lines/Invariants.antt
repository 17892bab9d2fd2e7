use Rattle.std.proofs.Common.{◌≡◌, map, take}
use Rattle.std.specs.List.{concat}
use Rattle.dm_past.specs.Saying.{row_line_of}
use Rattle.dm_past.proofs.lines.row_lines.Given as goal

abbrev pub invariant-loop-row : goal.invariant-loop-row
invariant-loop-row l = l.text ≡ concat (map row_line_of (take l.row-index l.rows))
