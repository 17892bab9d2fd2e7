-- A head that was found whole, and what it makes of the reader.
use Rattle.std.specs.Prelude.{◌≡◌, ℕ, ◌≤◌, ◌⊎◌, IfSome, List, [], ◌++◌, length, Result, Ok, Err}
use Rattle.std.specs.Option.{option_map}
use Rattle.httparse.specs.Grammar.{ResponseHead}
use Rattle.httparse.specs.Spans.{IsWithin, span_bytes}
use Rattle.dm_chunk.specs.Decoded.{HasDecoded}
use Rattle.dm_policy.specs.declared.cause.Cause.{Cause}
use Rattle.dm_edge.specs.Wire.{Told}
use Rattle.dm_edge.specs.declared.framing.Framing.{Framing}
use Rattle.dm_edge.specs.declared.framing.Framing.TheVariants as framing
use Rattle.dm_edge.specs.Head.{Passes}
use Rattle.dm_edge.specs.declared.wanted.Wanted.{Wanted}
use Rattle.dm_edge.specs.Begins.{FrontBroke, IsOfWire}
use Rattle.dm_head.specs.declared.part.Extent.{Extent}
use Rattle.dm_reply.specs.Content.{Reader, extent_of, no_extent, size_told}
use Rattle.dm_reply.specs.Steps.{going}
use Rattle.dm_reply.specs.declared.body.Body.{Body}
use Rattle.dm_reply.specs.declared.body.Body.TheVariants as body
use Rattle.dm_edge.specs.Metadata.{most_tag, most_modified}
use Rattle.dm_head.specs.declared.metadata.Metadata.{Metadata}
use Rattle.dm_reply.specs.declared.head.Head.{Head}
use Rattle.dm_reply.specs.declared.head.HeadFault.{HeadFault}
use Rattle.dm_reply.specs.declared.head.HeadFault.TheVariants as fault
use Rattle.dm_reply.specs.declared.head.Kind.TheVariants as kind
use Rattle.dm_reply.specs.declared.found.Found.{Found}
use Rattle.dm_reply.specs.declared.receiving.Came.{Came}
use Rattle.dm_reply.specs.Ahead.{Continues}

-- a reader with this framing stands at the content's first byte
abbrev pub Starts : Framing → Body → Type 0
Starts told (body.Counted wanted) = told ≡ framing.Counted wanted
Starts told body.ToEnd = told ≡ framing.ToEnd
Starts told (body.Chunked chunks) = (told ≡ framing.Chunked) × HasDecoded [] [] chunks

-- the spans lie in so many bytes
pub record AreWithin (size : ℕ) (metadata : Metadata) : Type 0 where
  pub strong : IfSome metadata.strong (IsWithin size)
  pub disposition : IfSome metadata.disposition (IsWithin size)
  pub modified : IsWithin size metadata.modified

-- what the spans cover keeps its limits
pub record AreShort (ahead : List ℕ) (metadata : Metadata) : Type 0 where
  pub strong : IfSome metadata.strong (λ span. length (span_bytes ahead span) ≤ most_tag)
  pub modified : length (span_bytes ahead metadata.modified) ≤ most_modified

-- what was found holds the texts that the spans cover
pub record HasTexts (ahead : List ℕ) (metadata : Metadata) (told : Head) : Type 0 where
  pub strong_is : told.strong ≡ option_map (span_bytes ahead) metadata.strong
  pub ranges_are : told.ranges ≡ metadata.ranges
  pub disposition_is : told.disposition ≡ option_map (span_bytes ahead) metadata.disposition
  pub modified_is : told.modified ≡ span_bytes ahead metadata.modified

-- the texts of the head keep their limits
pub record IsShortHead (told : Head) : Type 0 where
  pub strong : IfSome told.strong (λ tag. length tag ≤ most_tag)
  pub modified : length told.modified ≤ most_modified

-- a head with content, by what was found
pub record IsContentHead (status : ℕ) (told : Framing) (extent : Extent) (ahead : List ℕ) (metadata : Metadata) (found : Found) : Type 0 where
  pub kind_is : found.head.kind ≡ kind.Content
  pub status_is : found.head.status ≡ status
  pub extent_is : extent_of found.head ≡ extent
  pub texts : HasTexts ahead metadata found.head
  pub starts : Starts told found.body

-- a head of a redirect, by what was found
pub record IsRedirectHead (status : ℕ) (location ahead : List ℕ) (metadata : Metadata) (found : Found) : Type 0 where
  pub kind_is : found.head.kind ≡ kind.Redirect location
  pub status_is : found.head.status ≡ status
  pub extent_is : extent_of found.head ≡ no_extent
  pub texts : HasTexts ahead metadata found.head

-- Of what was given, so many interim heads were passed over. The rest lies ahead.
pub record HasPassed (given ahead : List ℕ) (count : ℕ) : Type 0 where
  pub passed : List ResponseHead
  pub passes : Passes given passed ahead
  pub size : length passed ≡ count

-- nothing more came, and the open head ends so
pub record OpenBroke (wanted : Wanted) (before now : Told) (ahead : List ℕ) (broke : Cause) : Type 0 where
  pub given : now.given ≡ before.given
  pub met : IsOfWire broke ⊎ FrontBroke wanted (ahead ++ now.left) broke

-- what a receive behind an open head brings
abbrev pub MoreSays : Wanted → Told → Told → List ℕ → List ℕ → Result Came HeadFault → Type 0
MoreSays wanted before now old new (Ok next) = Continues before now old new
MoreSays wanted before now old new (Err (fault.Broke broke)) = OpenBroke wanted before now old broke
MoreSays wanted before now old new (Err fault.NoMemory) = Unit {0}

-- the reader at the first byte of the content that was found
abbrev pub started : Wanted → List ℕ → Found → Reader
started wanted ahead found = record { wanted = wanted; size = size_told (extent_of found.head); reading = going ahead found.body 0 }
