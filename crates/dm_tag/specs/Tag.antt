-- Entity tags (RFC 9110, section 8.8.3).
use Rattle.std.specs.Prelude.{◌≡◌, ℕ, Bool, true, false, ◌||◌, ◌==◌, List, [], ◌∷◌, ◌++◌}
use Rattle.std.specs.Int.{is_in_range}
use Rattle.dm_types.specs.Bytes.{Each}

-- etagc = %x21 / %x23-7E / obs-text
abbrev pub is_tag_byte : ℕ → Bool
is_tag_byte b = b == 0x21 || is_in_range 0x23 0x7E b || is_in_range 0x80 0xFF b

-- opaque-tag = DQUOTE *etagc DQUOTE
pub record IsOpaque (bytes : List ℕ) : Type 0 where
  pub inner : List ℕ
  pub quoted : bytes ≡ 34 ∷ (inner ++ 34 ∷ [])
  pub each : Each is_tag_byte inner

-- entity-tag = [ weak ] opaque-tag, where weak is `W/`
abbrev pub IsTag : List ℕ → Bool → List ℕ → Type 0
IsTag value true opaque = (value ≡ 87 ∷ 47 ∷ opaque) × IsOpaque opaque
IsTag value false opaque = (value ≡ opaque) × IsOpaque opaque
