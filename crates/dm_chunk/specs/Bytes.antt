-- Kinds of bytes in a chunk line, and what hexadecimal digits stand for.
use Rattle.std.specs.Prelude.{ℕ, ◌+◌, ◌*◌, ◌^◌, Bool, ◌&&◌, not, ◌==◌, nat_lt, List, [], ◌∷◌, length}
use Rattle.std.specs.Char.{digit_value}

-- any byte but CR and LF
abbrev pub is_line_byte : ℕ → Bool
is_line_byte b = not (b == 13) && not (b == 10)

-- HEXDIG, in any case: the digits and letters with values below 16
abbrev pub is_hex : ℕ → Bool
is_hex b = nat_lt (digit_value b) 16

-- what hexadecimal digits stand for: each counts by its place
abbrev pub hexadecimal : List ℕ → ℕ
hexadecimal [] = 0
hexadecimal (d ∷ ds) = digit_value d * 16 ^ length ds + hexadecimal ds
