-- Accept-Ranges (RFC 9110, section 14.3): a list of range units, separated by commas (section 5.6.1).
use Rattle.std.specs.Prelude.{◌≡◌, ℕ, ◌==◌, List, ◌++◌, map, codes, Any}
use Rattle.std.specs.List.{slice_split}
use Rattle.std.specs.Char.{to_ascii_lowercase}
use Rattle.dm_types.specs.Bytes.{is_blank, Each}

-- the bytes begin with `bytes`, in any case
pub record BeginsUnit (bytes rest : List ℕ) : Type 0 where
  pub unit : List ℕ
  pub parts : bytes ≡ unit ++ rest
  pub is_bytes : map to_ascii_lowercase unit ≡ codes "bytes"

-- the piece is `bytes` in any case, and blanks round it
pub record IsBytesUnit (piece : List ℕ) : Type 0 where
  pub before : List ℕ
  pub unit : List ℕ
  pub after : List ℕ
  pub parts : piece ≡ before ++ (unit ++ after)
  pub blank_before : Each is_blank before
  pub bytes : map to_ascii_lowercase unit ≡ codes "bytes"
  pub blank_after : Each is_blank after

-- the pieces between the commas
abbrev pub pieces : List ℕ → List (List ℕ)
pieces value = slice_split (λ b. b == 44) value

abbrev pub NamesBytes : List ℕ → Type 0
NamesBytes value = Any IsBytesUnit (pieces value)
