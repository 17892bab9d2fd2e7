-- Kinds of bytes in a Content-Disposition.
use Rattle.std.specs.Prelude.{◌<◌, ℕ, Bool, ◌||◌, ◌==◌, List, length, codes}
use Rattle.std.specs.List.{list_any}
use Rattle.std.specs.Char.{is_ascii_alphanumeric}
use Rattle.std.specs.Int.{is_in_range}
use Rattle.dm_types.specs.Bytes.{Each}

-- tchar (RFC 9110, section 5.6.2)
abbrev pub is_token_byte : ℕ → Bool
is_token_byte b = is_ascii_alphanumeric b || list_any (λ c. c == b) (codes "!#$%&'*+-.^_`|~")

-- qdtext (RFC 9110, section 5.6.4): what stands for itself between double quotes
abbrev pub is_quoted_text : ℕ → Bool
is_quoted_text b = b == 9 || is_in_range 32 33 b || is_in_range 35 91 b || is_in_range 93 126 b || is_in_range 128 255 b

-- what a backslash may stand before (quoted-pair, RFC 9110, section 5.6.4)
abbrev pub is_escapable : ℕ → Bool
is_escapable b = b == 9 || is_in_range 32 126 b || is_in_range 128 255 b

-- token = 1*tchar
pub record IsToken (bytes : List ℕ) : Type 0 where
  pub each : Each is_token_byte bytes
  pub some : 0 < length bytes
