-- How long the content of a request is, by its head (RFC 9112, section 6). Without a length it has none.
use Rattle.std.specs.Prelude.{◌≡◌, ◌⊎◌, ℕ, List, map}
use Rattle.httparse.specs.Grammar.{RequestHead}
use Rattle.httparse.specs.Spans.{name_and_value}
use Rattle.dm_edge.specs.Fields.{IsCountedHead, IsUnframedHead, NameAndValue}

abbrev pub fields_of : RequestHead → List NameAndValue
fields_of head = map name_and_value head.fields

-- the content has so many bytes: there is no transfer coding, and each Content-Length tells this number, or there is none
abbrev pub HasLength : List NameAndValue → ℕ → Type 0
HasLength fields size = IsCountedHead fields size ⊎ (IsUnframedHead fields × (size ≡ 0))

abbrev pub HasNoLength : List NameAndValue → Type 0
HasNoLength fields = (size : ℕ) → HasLength fields size → ⊥
