-- Whether a head's fields are those of the wanted content, and which bytes of it then come.
use Rattle.std.specs.Prelude.{◌≡◌, ℕ, ◌<◌, ◌≤◌, ◌^◌, ◌-◌, List, Option, Some, None, IfSome}
use Rattle.dm_tag.specs.declared.range.ContentRange.{ContentRange}
use Rattle.dm_tag.specs.declared.range.ContentRange.TheVariants as range
use Rattle.dm_edge.specs.declared.framing.Framing.{Framing}
use Rattle.dm_edge.specs.declared.wanted.Wanted.{Wanted}
use Rattle.dm_edge.specs.declared.wanted.Wanted.TheVariants.{Whole, Part}
use Rattle.dm_edge.specs.Fields.{NameAndValue}
use Rattle.dm_edge.specs.Part.{IsAskedPart}
use Rattle.dm_edge.specs.Begins.{most_content, told_total, Fits, IsOtherPart, MissesSize, TellsWhole}
use Rattle.dm_head.specs.declared.part.Extent.{Extent}
use Rattle.dm_head.specs.declared.part.Fit.{Fit}
use Rattle.dm_head.specs.declared.part.Fit.TheVariants as fit

-- a part, as a Content-Range says it
abbrev pub RangePart : ℕ → ℕ → Option ℕ → ContentRange
RangePart first to total = range.Part first to total

-- the places are in order, and one more fits a number of 64 bits
pub record IsPlace (first to : ℕ) : Type 0 where
  pub order : first ≤ to
  pub fits : to < 2 ^ 64 - 1

-- these bytes of the asked part come
pub record IsPartExtent (first last : ℕ) (tag : List ℕ) (known : ℕ) (fields : List NameAndValue) (extent : Extent) : Type 0 where
  pub to : ℕ
  pub asked : IsAskedPart first last tag known fields to extent.total
  pub first_is : extent.first ≡ first
  pub last_is : extent.last ≡ Some to

-- which bytes come of what is wanted: all, or those of the asked part
abbrev pub IsExtent : Wanted → List NameAndValue → Framing → Extent → Type 0
IsExtent Whole fields framing extent = extent ≡ record { first = 0; last = None; total = told_total framing }
IsExtent (Part first last tag known) fields framing extent = IsPartExtent first last tag known fields extent

-- the places are in order and within the limit
pub record IsWithinLimit (extent : Extent) : Type 0 where
  pub last : IfSome extent.last (λ to. (extent.first ≤ to) × (to < most_content))
  pub total : IfSome extent.total (λ total. total ≤ most_content)

-- The fields fit so: these bytes come, or they are those of another part, or of the asked one with another length, or of more bytes than one may have.
abbrev pub IsFit : Wanted → List NameAndValue → Framing → Fit → Type 0
IsFit wanted fields framing (fit.Fits extent) = Fits wanted fields framing × IsExtent wanted fields framing extent
IsFit wanted fields framing fit.OtherPart = IsOtherPart wanted fields
IsFit wanted fields framing fit.OtherSize = MissesSize wanted fields framing
IsFit wanted fields framing (fit.TooLarge total) = TellsWhole wanted fields framing total × (most_content < total)
