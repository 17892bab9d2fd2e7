-- The part of a content that a head says it brings (RFC 9110, sections 14.4 and 15.3.7).
use Rattle.std.specs.Prelude.{◌≡◌, ℕ, ◌+◌, ◌-◌, ◌≤◌, List, [], ◌∷◌, codes, Option, Some, None}
use Rattle.dm_tag.specs.declared.range.ContentRange.TheVariants as range
use Rattle.dm_tag.specs.Range.{IsContentRange}
use Rattle.dm_edge.specs.declared.framing.Framing.{Framing}
use Rattle.dm_edge.specs.declared.framing.Framing.TheVariants.{Chunked, Counted, ToEnd}
use Rattle.dm_edge.specs.Fields.{NameAndValue, values_of}
use Rattle.dm_edge.specs.Metadata.{HasStrong}

-- The only Content-Range names these places, the first and the last one, and how many bytes the whole content has, where it isn't `*`.
pub record NamesPart (fields : List NameAndValue) (first to : ℕ) (total : Option ℕ) : Type 0 where
  pub value : List ℕ
  pub only : values_of (codes "content-range") fields ≡ value ∷ []
  pub reads : IsContentRange value (range.Part first to total)

-- what is told of a number is what is known
abbrev pub AgreesWith : ℕ → Option ℕ → Type 0
AgreesWith known None = Unit {0}
AgreesWith known (Some told) = told ≡ known

-- the content is known by this tag: it is the head's strong entity tag
abbrev pub IsUnderKey : List NameAndValue → List ℕ → Type 0
IsUnderKey fields tag = HasStrong fields tag

-- The fields are those of the asked part, as far as this place: it begins at the asked place, doesn't go past the asked end, and is of the content
-- with the known strong tag and the known number of bytes.
pub record IsAskedPart (first last : ℕ) (tag : List ℕ) (known : ℕ) (fields : List NameAndValue) (to : ℕ) (total : Option ℕ) : Type 0 where
  pub names : NamesPart fields first to total
  pub within : to ≤ last
  pub agrees : AgreesWith known total
  pub strong : IsUnderKey fields tag

-- how many bytes a part has
abbrev pub part_size : ℕ → ℕ → ℕ
part_size first to = to - first + 1

-- a Content-Length that frames a part is the part's size
abbrev pub FitsSize : ℕ → Framing → Type 0
FitsSize size Chunked = Unit {0}
FitsSize size (Counted count) = count ≡ size
FitsSize size ToEnd = Unit {0}

-- how many bytes the whole content has, as a part tells; where it tells `*`, at least one more than the part's last place
abbrev pub told_whole : ℕ → Option ℕ → ℕ
told_whole to None = to + 1
told_whole to (Some total) = total
