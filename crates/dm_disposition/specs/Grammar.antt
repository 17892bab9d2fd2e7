-- The grammar of a Content-Disposition (RFC 6266, section 4.1), where white space is blanks alone and a parameter may be empty.
use Rattle.std.specs.Prelude.{◌≡◌, ℕ, IsTrue, Option, Some, None, List, [], ◌∷◌, ◌++◌, map}
use Rattle.std.specs.List.{flat_map, AllByRecursion}
use Rattle.dm_types.specs.Bytes.{is_blank, Each}
use Rattle.dm_disposition.specs.Bytes.{is_quoted_text, is_escapable, IsToken}

-- a byte between double quotes: as it stands, or behind a backslash
pub data Mark : Type 0 where
  plain : ℕ → Mark
  escaped : ℕ → Mark

abbrev pub mark_text : Mark → List ℕ
mark_text (plain b) = b ∷ []
mark_text (escaped b) = 92 ∷ b ∷ []

-- the byte that is meant
abbrev pub byte_of : Mark → ℕ
byte_of (plain b) = b
byte_of (escaped b) = b

abbrev pub IsMark : Mark → Type 0
IsMark (plain b) = IsTrue (is_quoted_text b)
IsMark (escaped b) = IsTrue (is_escapable b)

-- value = token / quoted-string
pub data Value : Type 0 where
  token : List ℕ → Value
  quoted : List Mark → Value

abbrev pub value_text : Value → List ℕ
value_text (token bytes) = bytes
value_text (quoted marks) = 34 ∷ (flat_map mark_text marks ++ 34 ∷ [])

-- the bytes that are meant: quotes and quoting backslashes are taken off
abbrev pub bytes_of : Value → List ℕ
bytes_of (token bytes) = bytes
bytes_of (quoted marks) = map byte_of marks

abbrev pub IsValue : Value → Type 0
IsValue (token bytes) = IsToken bytes
IsValue (quoted marks) = AllByRecursion IsMark marks

-- parameter = token OWS "=" OWS value
pub record Parameter : Type 0 where
  pub name : List ℕ
  pub before : List ℕ
  pub after : List ℕ
  pub value : Value

abbrev pub parameter_text : Parameter → List ℕ
parameter_text p = p.name ++ (p.before ++ 61 ∷ (p.after ++ value_text p.value))

pub record IsParameter (p : Parameter) : Type 0 where
  pub name : IsToken p.name
  pub before : Each is_blank p.before
  pub after : Each is_blank p.after
  pub value : IsValue p.value

-- OWS ";" OWS [ parameter ]
pub record Piece : Type 0 where
  pub before : List ℕ
  pub after : List ℕ
  pub parameter : Option Parameter

abbrev pub optional_text : Option Parameter → List ℕ
optional_text None = []
optional_text (Some p) = parameter_text p

abbrev pub IsOptional : Option Parameter → Type 0
IsOptional None = Unit {0}
IsOptional (Some p) = IsParameter p

abbrev pub piece_text : Piece → List ℕ
piece_text p = p.before ++ 59 ∷ (p.after ++ optional_text p.parameter)

pub record IsPiece (p : Piece) : Type 0 where
  pub before : Each is_blank p.before
  pub after : Each is_blank p.after
  pub parameter : IsOptional p.parameter

-- OWS token *( OWS ";" OWS [ parameter ] ) OWS
pub record Field : Type 0 where
  pub front : List ℕ
  pub kind : List ℕ
  pub pieces : List Piece
  pub back : List ℕ

abbrev pub field_text : Field → List ℕ
field_text f = f.front ++ (f.kind ++ (flat_map piece_text f.pieces ++ f.back))

pub record IsField (f : Field) : Type 0 where
  pub front : Each is_blank f.front
  pub kind : IsToken f.kind
  pub pieces : AllByRecursion IsPiece f.pieces
  pub back : Each is_blank f.back

-- the value is in the grammar, read so
pub record Spells (f : Field) (value : List ℕ) : Type 0 where
  pub is : IsField f
  pub text : value ≡ field_text f
