-- Where the lines of a head stand. A line ends in LF, and a CR makes none.
use Rattle.std.specs.Prelude.{ℕ, true, false, ◌||◌, ◌&&◌, not, ◌==◌, List, [], ◌∷◌, if◌then◌else◌}
use Rattle.dm_reply.specs.declared.lines.Lines.{Lines}

-- a line feed ends the line
abbrev pub line_fed : Lines → Lines
line_fed lines = record { begun = lines.begun; in_line = false; ended = lines.ended || (lines.begun && not lines.in_line) }

-- a byte of a line that isn't empty
abbrev pub in_some_line : Lines → Lines
in_some_line lines = record { begun = true; in_line = true; ended = lines.ended }

-- after one byte more
abbrev pub line_step : Lines → ℕ → Lines
line_step lines byte = if byte == 10 then line_fed lines else (if byte == 13 then lines else in_some_line lines)

-- after these bytes more: `ended` says whether an empty line came behind one that isn't
abbrev pub lines_after : Lines → List ℕ → Lines
lines_after lines [] = lines
lines_after lines (byte ∷ bytes) = lines_after (line_step lines byte) bytes

-- the same lines, where no empty one is told
abbrev pub untold : Lines → Lines
untold lines = record { begun = lines.begun; in_line = lines.in_line; ended = false }
