-- What a field tells: the name as it is written, and the extended one (RFC 8187).
use Rattle.std.specs.Prelude.{◌≡◌, ◌⊎◌, ◌||◌, not, ◌==◌, ℕ, Bool, IsTrue, Option, Some, None, List, [], ◌∷◌, ◌++◌, map, codes, Contains}
use Rattle.std.specs.List.{flat_map, AllByRecursion, list_any}
use Rattle.std.specs.Char.{to_ascii_lowercase, is_ascii_alphanumeric, is_ascii_hexdigit}
use Rattle.std.specs.Str.{IsUtf8, encode_utf8_all}
use Rattle.percent_encoding.specs.Percent.{percent_decode}
use Rattle.dm_types.specs.Bytes.{Each}
use Rattle.dm_disposition.specs.Bytes.{is_token_byte}
use Rattle.dm_disposition.specs.Grammar.{Value, bytes_of, value_text, IsValue}
use Rattle.dm_disposition.specs.Names.{Named}

-- a parameter of this name has this text, ASCII case of the name ignored
pub record HasText (names : List Named) (name text : List ℕ) : Type 0 where
  pub one : Named
  pub among : Contains names one
  pub same : map to_ascii_lowercase one.name ≡ map to_ascii_lowercase name
  pub is : text ≡ one.text

-- bytes read as characters, which are written in UTF-8: as they stand where they are UTF-8, else each is the
-- ISO-8859-1 character of its number
abbrev pub ReadsAs : List ℕ → List ℕ → Type 0
ReadsAs bytes chars = (IsUtf8 bytes × (chars ≡ bytes)) ⊎ ((IsUtf8 bytes → ⊥) × (chars ≡ encode_utf8_all bytes))

-- the characters of a value's text
pub record IsPlain (text chars : List ℕ) : Type 0 where
  pub value : Value
  pub is : IsValue value
  pub spelled : text ≡ value_text value
  pub reads : ReadsAs (bytes_of value) chars

-- ---- ext-values (RFC 8187, section 3.2.1)

-- attr-char
abbrev pub is_attr_byte : ℕ → Bool
is_attr_byte b = is_ascii_alphanumeric b || list_any (λ c. c == b) (codes "!#$&+-.^_`|~")

-- a byte that isn't the single quote
abbrev pub is_no_quote : ℕ → Bool
is_no_quote b = not (b == 39)

-- value-chars = *( pct-encoded / attr-char )
pub data Char : Type 0 where
  attr : ℕ → Char
  percent : ℕ → ℕ → Char

abbrev pub char_text : Char → List ℕ
char_text (attr b) = b ∷ []
char_text (percent high low) = 37 ∷ high ∷ low ∷ []

abbrev pub IsChar : Char → Type 0
IsChar (attr b) = IsTrue (is_attr_byte b)
IsChar (percent high low) = IsTrue (is_ascii_hexdigit high) × IsTrue (is_ascii_hexdigit low)

pub record AreChars (bytes : List ℕ) : Type 0 where
  pub chars : List Char
  pub each : AllByRecursion IsChar chars
  pub text : bytes ≡ flat_map char_text chars

-- what the charset makes of the decoded bytes
abbrev pub InCharset : List ℕ → List ℕ → List ℕ → Type 0
InCharset charset bytes chars = ((map to_ascii_lowercase charset ≡ codes "utf-8") × IsUtf8 bytes × (chars ≡ bytes))
    ⊎ ((map to_ascii_lowercase charset ≡ codes "iso-8859-1") × (chars ≡ encode_utf8_all bytes))

-- charset "'" [ language ] "'" value-chars
pub record ExtParts (text charset chars : List ℕ) : Type 0 where
  pub language : List ℕ
  pub parts : text ≡ charset ++ 39 ∷ (language ++ 39 ∷ chars)
  pub bare : Each is_no_quote charset
  pub tokens : Each is_token_byte language
  pub no_quote : Each is_no_quote language
  pub are : AreChars chars

-- the characters of an ext-value's text
pub record IsExtended (text chars : List ℕ) : Type 0 where
  pub charset : List ℕ
  pub encoded : List ℕ
  pub parts : ExtParts text charset encoded
  pub reads : InCharset charset (percent_decode encoded) chars

-- the characters, or that there are none
abbrev pub MaybeInCharset : List ℕ → List ℕ → Option (List ℕ) → Type 0
MaybeInCharset charset bytes (Some chars) = InCharset charset bytes chars
MaybeInCharset charset bytes None = (chars : List ℕ) → InCharset charset bytes chars → ⊥

abbrev pub MaybeExtended : List ℕ → Option (List ℕ) → Type 0
MaybeExtended text (Some chars) = IsExtended text chars
MaybeExtended text None = (chars : List ℕ) → IsExtended text chars → ⊥

-- ---- what is told

-- the value of `filename`, where the field has that parameter
abbrev pub PlainOf : List Named → Option (List ℕ) → Type 0
PlainOf names (Some chars) = (text : List ℕ) × HasText names (codes "filename") text × IsPlain text chars
PlainOf names None = (text : List ℕ) → HasText names (codes "filename") text → ⊥

-- the value of `filename*`, where the field has that parameter and it is an ext-value
abbrev pub ExtendedOf : List Named → Option (List ℕ) → Type 0
ExtendedOf names (Some chars) = (text : List ℕ) × HasText names (codes "filename*") text × IsExtended text chars
ExtendedOf names None = (text chars : List ℕ) → HasText names (codes "filename*") text → IsExtended text chars → ⊥
