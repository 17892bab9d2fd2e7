-- A whole head at the front, as the code holds it.
use Rattle.std.specs.Prelude.{◌≡◌, ◌≢◌, ℕ, ◌<◌, ◌≤◌, List, length, drop, map, All, true, false, Option, Some, None}
use Rattle.httparse.specs.declared.spans.HeaderSpan.{HeaderSpan}
use Rattle.httparse.specs.declared.spans.ResponseSpans.{ResponseSpans}
use Rattle.httparse.specs.Grammar.{ResponseHead, status_code}
use Rattle.httparse.specs.Spans.{IsHeaderWithin, header_bytes}
use Rattle.dm_edge.specs.declared.framing.Framing.{Framing}
use Rattle.dm_edge.specs.declared.framing.Framing.TheVariants as frame
use Rattle.dm_edge.specs.Fields.{NameAndValue, fields_of, is_plain, FramedBy, IsUnframeable}
use Rattle.dm_edge.specs.Head.{BeginsWith, is_interim}
use Rattle.dm_edge.specs.Begins.{content_status, leads_on, refuses_range}
use Rattle.dm_edge.specs.declared.wanted.Wanted.{Wanted}
use Rattle.dm_head.specs.declared.framing.Framed.{Framed}
use Rattle.dm_head.specs.declared.framing.Framed.TheVariants as framed
use Rattle.dm_head.specs.declared.lengths.ToldLength.{ToldLength}
use Rattle.dm_head.specs.declared.lengths.ToldLength.TheVariants as told
use Rattle.dm_head.specs.declared.whole.Kind.{Kind}
use Rattle.dm_head.specs.declared.whole.Kind.TheVariants as kind

-- the spans are those of a head within the limits
pub record HasWhole (front : List ℕ) (spans : ResponseSpans) (fields : List HeaderSpan) : Type 0 where
  pub head : ResponseHead
  pub begins : BeginsWith front head (drop spans.len front)
  pub some : 0 < spans.len
  pub len_fits : spans.len ≤ length front
  pub code_is : spans.code ≡ status_code head
  pub minor_is : spans.version ≡ head.minor
  pub fields_are : map (header_bytes front) fields ≡ fields_of head
  pub within : All (IsHeaderWithin (length front)) fields

abbrev pub IsFramed : ℕ → List NameAndValue → Framed → Type 0
IsFramed minor fields (framed.Good framing) = (is_plain fields ≡ true) × FramedBy minor fields framing
IsFramed minor fields framed.Encoded = is_plain fields ≡ false
IsFramed minor fields framed.Unframeable = (is_plain fields ≡ true) × IsUnframeable minor fields

-- the framing that a told length, or none, gives
abbrev pub framing_by : ToldLength → Option Framing
framing_by told.Absent = Some frame.ToEnd
framing_by (told.Count count) = Some (frame.Counted count)
framing_by told.Unreadable = None

-- what a status leads to
abbrev pub IsKind : Wanted → ℕ → Kind → Type 0
IsKind wanted status kind.Interim = is_interim status ≡ true
IsKind wanted status kind.Content = (is_interim status ≡ false) × (status ≡ content_status wanted)
IsKind wanted status kind.Redirect = (is_interim status ≡ false) × (leads_on wanted status ≡ true)
IsKind wanted status kind.Refusal = (is_interim status ≡ false) × (refuses_range wanted status ≡ true)
IsKind wanted status kind.Other =
    (is_interim status ≡ false) × (status ≢ content_status wanted) × (leads_on wanted status ≡ false) × (refuses_range wanted status ≡ false)
