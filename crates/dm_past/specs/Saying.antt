-- What is said at the end of what was done.
use Rattle.std.specs.Prelude.{ℕ, List, [], ◌++◌, codes, cond, map}
use Rattle.std.specs.Fmt.{decimal}
use Rattle.std.specs.List.{concat}
use Rattle.dm_types.specs.declared.item.Phase.TheVariants.{Cancelled, Complete}
use Rattle.dm_report.specs.Said.{Said}
use Rattle.dm_report.specs.Texts.{field, line, number_or, or_hyphen, state_of}
use Rattle.dm_hist.specs.declared.row.Row.{Row}
use Rattle.dm_archive.specs.Doing.{Doing, Tells, nothing, moved, lines}

-- <id> <complete or cancelled> <total or ?> <name or ->
abbrev pub row_line_of : Row → List ℕ
row_line_of row = field (decimal row.id.0) ++ field (state_of (cond row.complete Complete Cancelled)) ++ field (number_or (codes "?") row.total) ++ line (or_hyphen row.name)

-- archived <count>
abbrev pub archived_line : ℕ → List ℕ
archived_line count = line (codes "archived " ++ decimal count)

-- what goes to standard output: nothing, `archived <count>`, or the lines of rows
abbrev pub text_of : Tells → List ℕ
text_of nothing = []
text_of (moved count) = archived_line count
text_of (lines rows) = concat (map row_line_of rows)

abbrev pub said_by : Doing → Said
said_by doing = record { verdict = doing.verdict; out = text_of doing.tells }
