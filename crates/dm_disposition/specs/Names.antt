-- The parameters of a field, with the place at which each name stands.
use Rattle.std.specs.Prelude.{◌≡◌, ℕ, ◌+◌, Option, Some, None, List, [], ◌∷◌, ◌++◌, map, length, Any}
use Rattle.std.specs.List.{AllByRecursion}
use Rattle.std.specs.Char.{to_ascii_lowercase}
use Rattle.dm_disposition.specs.Grammar.{Value, IsValue, Parameter, Piece, Field, value_text, piece_text}

-- a name, the place of its first byte in the whole value, and the text of its value
pub record Named : Type 0 where
  pub place : ℕ
  pub name : List ℕ
  pub text : List ℕ

-- the parameter of a piece, where it has one
abbrev pub named_here : ℕ → Option Parameter → List Named → List Named
named_here at None others = others
named_here at (Some p) others = record { place = at; name = p.name; text = value_text p.value } ∷ others

-- the parameters of pieces that begin at this place
abbrev pub named_from : ℕ → List Piece → List Named
named_from at [] = []
named_from at (p ∷ ps) = named_here (at + (length p.before + (1 + length p.after))) p.parameter (named_from (at + length (piece_text p)) ps)

abbrev pub named_of : Field → List Named
named_of f = named_from (length f.front + length f.kind) f.pieces

-- its text is that of a value
pub record IsSpelled (n : Named) : Type 0 where
  pub value : Value
  pub is : IsValue value
  pub spelled : n.text ≡ value_text value

-- one name, ASCII case ignored
abbrev pub SameName : Named → Named → Type 0
SameName a b = map to_ascii_lowercase a.name ≡ map to_ascii_lowercase b.name

-- no name stands twice
abbrev pub AreApart : List Named → Type 0
AreApart [] = Unit {0}
AreApart (n ∷ ns) = AllByRecursion (λ m. SameName n m → ⊥) ns × AreApart ns

-- the first name that repeats an earlier one stands at this place
pub record IsFirstRepeat (names : List Named) (place : ℕ) : Type 0 where
  pub before : List Named
  pub again : Named
  pub after : List Named
  pub parts : names ≡ before ++ again ∷ after
  pub apart : AreApart before
  pub repeats : Any (λ n. SameName n again) before
  pub here : place ≡ again.place
