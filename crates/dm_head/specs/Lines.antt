-- The lines of a text that aren't empty. A line ends in LF, and a CR makes none.
use Rattle.std.specs.Prelude.{ℕ, ◌+◌, Bool, true, false, List, [], ◌∷◌, ◌==◌, if◌then◌else◌}

-- how many such lines begin in the bytes, where a line did begin already or not
abbrev pub lines_begun : Bool → List ℕ → ℕ
lines_begun in_line [] = 0
lines_begun in_line (byte ∷ bytes) =
    if byte == 10 then lines_begun false bytes
    else (if byte == 13 then lines_begun in_line bytes
    else (if in_line then lines_begun true bytes else 1 + lines_begun true bytes))

-- whether a line has begun after the bytes
abbrev pub is_in_line : Bool → List ℕ → Bool
is_in_line in_line [] = in_line
is_in_line in_line (byte ∷ bytes) =
    if byte == 10 then is_in_line false bytes
    else (if byte == 13 then is_in_line in_line bytes else is_in_line true bytes)
