-- What a look at the bytes that came so far finds, where they are the front of a stream, behind its interim heads.
use Rattle.std.specs.Prelude.{◌≡◌, ℕ, ◌<◌, ◌≤◌, List, ◌++◌, length, drop}
use Rattle.httparse.specs.declared.spans.Span.{Span}
use Rattle.httparse.specs.Spans.{IsWithin, span_bytes}
use Rattle.httparse.specs.Grammar.{ResponseHead, status_code}
use Rattle.dm_edge.specs.declared.framing.Framing.{Framing}
use Rattle.dm_edge.specs.Fields.{fields_of}
use Rattle.dm_edge.specs.Head.{BeginsFinal, IsHeadCut, PassesOne}
use Rattle.dm_edge.specs.Begins.{content_status, LeadsTo, IsGoodHead, KeepsLimit, Fits, FrontBroke}
use Rattle.dm_edge.specs.declared.wanted.Wanted.{Wanted}
use Rattle.dm_head.specs.Fit.{IsExtent, IsWithinLimit}
use Rattle.dm_head.specs.declared.part.Extent.{Extent}
use Rattle.dm_head.specs.Metadata.{IsMetadata}
use Rattle.dm_head.specs.declared.metadata.Metadata.{Metadata}
use Rattle.dm_head.specs.declared.look.Look.{Look}
use Rattle.dm_head.specs.declared.look.Look.TheVariants as look

-- a whole interim head of this length and status
pub record FindsInterim (front : List ℕ) (size status : ℕ) : Type 0 where
  pub head : ResponseHead
  pub one : PassesOne front head (drop size front)
  pub status_is : status_code head ≡ status
  pub some : 0 < size
  pub within : size ≤ length front

-- a whole head with the wanted content, which begins at this place
pub record FindsContent (wanted : Wanted) (front : List ℕ) (start : ℕ) (framing : Framing) (extent : Extent) (metadata : Metadata) : Type 0 where
  pub head : ResponseHead
  pub begins : BeginsFinal front head (drop start front)
  pub ok : status_code head ≡ content_status wanted
  pub good : IsGoodHead head framing
  pub fits : Fits wanted (fields_of head) framing
  pub limit : KeepsLimit framing
  pub extent_is : IsExtent wanted (fields_of head) framing extent
  pub in_limit : IsWithinLimit extent
  pub within : start ≤ length front
  pub metadata_is : IsMetadata front (fields_of head) metadata

-- a whole head of a redirect
pub record FindsRedirect (wanted : Wanted) (front : List ℕ) (status : ℕ) (location : Span) (metadata : Metadata) : Type 0 where
  pub head : ResponseHead
  pub rest : List ℕ
  pub begins : BeginsFinal front head rest
  pub status_is : status_code head ≡ status
  pub leads : LeadsTo wanted head (span_bytes front location)
  pub framing : Framing
  pub good : IsGoodHead head framing
  pub within : IsWithin (length front) location
  pub metadata_is : IsMetadata front (fields_of head) metadata

-- What is refused is refused whatever follows. Where a head is open, fewer than 65,536 bytes stand there, no whole head does, and one may come: a
-- stream that ends there is cut.
abbrev pub Finds : Wanted → List ℕ → Look → Type 0
Finds wanted front (look.Interim size status) = FindsInterim front size status
Finds wanted front (look.Content start framing extent metadata) = FindsContent wanted front start framing extent metadata
Finds wanted front (look.Redirect status location metadata) = FindsRedirect wanted front status location metadata
Finds wanted front (look.Refused cause) = (more : List ℕ) → FrontBroke wanted (front ++ more) cause
Finds wanted front look.Open = IsHeadCut front
