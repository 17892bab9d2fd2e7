-- What a head says of its content beside the framing: its entity tag, when it was changed, and whether ranges of it are given (RFC 9110,
-- sections 8.8.2, 8.8.3 and 14.3).
use Rattle.std.specs.Prelude.{◌≡◌, ◌≢◌, ℕ, ◌≤◌, false, true, List, [], ◌∷◌, length, nat_le, if◌then◌else◌, codes, Option, Some, None, Any}
use Rattle.dm_tag.specs.Tag.{IsTag}
use Rattle.dm_tag.specs.Units.{NamesBytes}
use Rattle.dm_edge.specs.Fields.{NameAndValue, has_name, values_of}

-- the most bytes of an entity tag that is kept, with its quotes
abbrev pub most_tag : ℕ
most_tag = 1024

-- This is the strong entity tag: the only ETag, not a weak one, and not too long.
pub record HasStrong (fields : List NameAndValue) (tag : List ℕ) : Type 0 where
  pub only : values_of (codes "etag") fields ≡ tag ∷ []
  pub strong : IsTag tag false tag
  pub short : length tag ≤ most_tag

-- the strong entity tag, or there is none
abbrev pub IsStrongTag : List NameAndValue → Option (List ℕ) → Type 0
IsStrongTag fields (Some tag) = HasStrong fields tag
IsStrongTag fields None = (tag : List ℕ) → HasStrong fields tag → ⊥

-- the only value among these, or there are none or several
abbrev pub IsOnlyValue : List (List ℕ) → Option (List ℕ) → Type 0
IsOnlyValue values (Some value) = values ≡ value ∷ []
IsOnlyValue values None = (value : List ℕ) → values ≢ value ∷ []

-- the only value among these, where it is at most so long
abbrev pub only_within : ℕ → List (List ℕ) → List ℕ
only_within most [] = []
only_within most (value ∷ []) = if nat_le (length value) most then value else []
only_within most (value ∷ other ∷ others) = []

-- the most bytes of a Last-Modified that is kept
abbrev pub most_modified : ℕ
most_modified = 128

-- the Last-Modified that is kept: where exactly one such field stands, within its limit, and else nothing
abbrev pub modified_of : List NameAndValue → List ℕ
modified_of fields = only_within most_modified (values_of (codes "last-modified") fields)

-- an Accept-Ranges that names bytes
pub record NamesRanges (field : NameAndValue) : Type 0 where
  pub named : has_name (codes "accept-ranges") field ≡ true
  pub bytes : NamesBytes field.1

-- Ranges of the content are given, by some field.
abbrev pub TakesRanges : List NameAndValue → Type 0
TakesRanges fields = Any NamesRanges fields
