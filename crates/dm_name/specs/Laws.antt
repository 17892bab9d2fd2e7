-- What every cleaned name and its forms keep.
use Rattle.std.specs.Prelude.{◌≢◌, ◌≤◌, ◌<◌, ℕ, List, length, codes}
use Rattle.std.specs.List.{All}
use Rattle.std.specs.Str.{IsUtf8}
use Rattle.dm_types.specs.Name.{IsPart}
use Rattle.dm_name.specs.Clean.{cleaned}
use Rattle.dm_name.specs.Forms.{form}

-- no cleaned name and none of its forms is a part's name
abbrev pub NoPart : Type 0
NoPart = (raw : List ℕ) (k : ℕ) → IsPart (form (cleaned raw) k) → ⊥

-- a cleaned name has 1 to 200 bytes
abbrev pub HasBounds : Type 0
HasBounds = (raw : List ℕ) → (0 < length (cleaned raw)) × (length (cleaned raw) ≤ 200)

-- with its number a form has at most 206
abbrev pub FormsAreShort : Type 0
FormsAreShort = (raw : List ℕ) (k : ℕ) → k ≤ 100 → length (form (cleaned raw) k) ≤ 206

-- no control character and no slash
abbrev pub IsPlainByte : ℕ → Type 0
IsPlainByte byte = (32 ≤ byte) × (byte ≢ 47)

-- what may stand in a folder: it is not the folder itself, or the one above it
pub record IsPlainName (name : List ℕ) : Type 0 where
  pub bytes : All IsPlainByte name
  pub not_here : name ≢ codes "."
  pub not_above : name ≢ codes ".."

abbrev pub FormsArePlain : Type 0
FormsArePlain = (raw : List ℕ) (k : ℕ) → k ≤ 100 → IsPlainName (form (cleaned raw) k)

-- what was text stays text
abbrev pub FormsAreText : Type 0
FormsAreText = (raw : List ℕ) (k : ℕ) → k ≤ 100 → IsUtf8 raw → IsUtf8 (form (cleaned raw) k)
