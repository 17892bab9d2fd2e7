-- What the code holds of what a head says of its content beside the framing: each text by the span that covers it.
use Rattle.std.specs.Prelude.{◌≡◌, ◌≢◌, ◌↔◌, ℕ, ◌≤◌, false, List, [], ◌∷◌, length, codes, Option, Some, None, IsTrue}
use Rattle.httparse.specs.declared.spans.Span.{Span}
use Rattle.httparse.specs.Spans.{IsWithin, span_bytes}
use Rattle.dm_tag.specs.Tag.{IsTag}
use Rattle.dm_edge.specs.Fields.{NameAndValue, values_of}
use Rattle.dm_edge.specs.Metadata.{most_tag, HasStrong, modified_of, TakesRanges}
use Rattle.dm_head.specs.declared.metadata.Metadata.{Metadata}

-- the span covers the strong tag, or there is none
abbrev pub CoversStrong : List ℕ → List NameAndValue → Option Span → Type 0
CoversStrong front fields (Some span) = IsWithin (length front) span × HasStrong fields (span_bytes front span)
CoversStrong front fields None = (tag : List ℕ) → HasStrong fields tag → ⊥

-- the span, where it covers a strong tag that is kept
abbrev pub IsKeptTag : List ℕ → Span → Option Span → Type 0
IsKeptTag front span (Some kept) = (kept ≡ span) × IsTag (span_bytes front span) false (span_bytes front span) × (length (span_bytes front span) ≤ most_tag)
IsKeptTag front span None = IsTag (span_bytes front span) false (span_bytes front span) → length (span_bytes front span) ≤ most_tag → ⊥

-- the span covers the only value, or there are none or several
abbrev pub CoversOnly : List ℕ → List (List ℕ) → Option Span → Type 0
CoversOnly front values (Some span) = IsWithin (length front) span × (values ≡ span_bytes front span ∷ [])
CoversOnly front values None = (value : List ℕ) → values ≢ value ∷ []

-- the span covers the Last-Modified that is kept
pub record CoversModified (front : List ℕ) (fields : List NameAndValue) (modified : Span) : Type 0 where
  pub within : IsWithin (length front) modified
  pub is : span_bytes front modified ≡ modified_of fields

-- What the fields say, as spans of the head's bytes.
pub record IsMetadata (front : List ℕ) (fields : List NameAndValue) (metadata : Metadata) : Type 0 where
  pub strong_at : CoversStrong front fields metadata.strong
  pub ranges_are : IsTrue metadata.ranges ↔ TakesRanges fields
  pub disposition_at : CoversOnly front (values_of (codes "content-disposition") fields) metadata.disposition
  pub modified_at : CoversModified front fields metadata.modified
