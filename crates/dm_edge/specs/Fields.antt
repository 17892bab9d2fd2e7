-- The fields of a reply's head, and what those that frame the content say (RFC 9110, sections 5, 8.4 and 8.6; RFC 9112, section 6).
use Rattle.std.specs.Prelude.{◌≡◌, ◌≢◌, ℕ, Bool, List, [], ◌∷◌, map, filter, All, IsTrue, codes}
use Rattle.std.specs.List.{list_all}
use Rattle.std.specs.Str.{str_eq_ignore_ascii_case}
use Rattle.httparse.specs.Grammar.{ResponseHead}
use Rattle.httparse.specs.Spans.{name_and_value}
use Rattle.dm_tag.specs.Length.{IsLength}
use Rattle.dm_edge.specs.declared.framing.Framing.{Framing}
use Rattle.dm_edge.specs.declared.framing.Framing.TheVariants.{Chunked, Counted, ToEnd}

-- a field: its name, and its value without the blanks around it
abbrev pub NameAndValue : Type 0
NameAndValue = List ℕ × List ℕ

-- names are compared without regard to ASCII case
abbrev pub has_name : List ℕ → NameAndValue → Bool
has_name name field = str_eq_ignore_ascii_case field.0 name

-- the values of all the fields with this name, in order
abbrev pub values_of : List ℕ → List NameAndValue → List (List ℕ)
values_of name fields = map (λ (field : NameAndValue). field.1) (filter (has_name name) fields)

abbrev pub fields_of : ResponseHead → List NameAndValue
fields_of head = map name_and_value head.fields

-- each Content-Encoding is identity: the content is as it is (RFC 9110, section 8.4)
abbrev pub is_plain : List NameAndValue → Bool
is_plain fields = list_all (λ value. str_eq_ignore_ascii_case value (codes "identity")) (values_of (codes "content-encoding") fields)

-- The transfer coding is chunked, and nothing else. In a reply of HTTP/1.0 it makes the framing faulty (RFC 9112, section 6.1).
pub record IsChunkedHead (minor : ℕ) (fields : List NameAndValue) : Type 0 where
  pub coding : List ℕ
  pub only : values_of (codes "transfer-encoding") fields ≡ coding ∷ []
  pub chunked : IsTrue (str_eq_ignore_ascii_case coding (codes "chunked"))
  pub version : minor ≡ 1

-- Each Content-Length tells this number (RFC 9112, section 6.2).
pub record IsCountedHead (fields : List NameAndValue) (count : ℕ) : Type 0 where
  pub uncoded : values_of (codes "transfer-encoding") fields ≡ []
  pub some : values_of (codes "content-length") fields ≢ []
  pub agree : All (λ value. IsLength value count) (values_of (codes "content-length") fields)

-- neither is there: the content goes on to the connection's end (RFC 9112, section 6.3)
pub record IsUnframedHead (fields : List NameAndValue) : Type 0 where
  pub uncoded : values_of (codes "transfer-encoding") fields ≡ []
  pub uncounted : values_of (codes "content-length") fields ≡ []

-- how a head of this version of HTTP/1 and with these fields frames its content
abbrev pub FramedBy : ℕ → List NameAndValue → Framing → Type 0
FramedBy minor fields Chunked = IsChunkedHead minor fields
FramedBy minor fields (Counted count) = IsCountedHead fields count
FramedBy minor fields ToEnd = IsUnframedHead fields

-- in no way
abbrev pub IsUnframeable : ℕ → List NameAndValue → Type 0
IsUnframeable minor fields = (framing : Framing) → FramedBy minor fields framing → ⊥
