-- The content of a reply, and how it ends, behind the head that the stream begins with. Each is a relation on the stream alone, whatever pieces it comes in.
use Rattle.std.specs.Prelude.{◌≡◌, ℕ, ◌+◌, ◌<◌, ◌≤◌, ◌⊎◌, List, [], ◌∷◌, ◌++◌, length, Option, Some, None}
use Rattle.httparse.specs.Grammar.{ResponseHead}
use Rattle.dm_chunk.specs.Grammar.{IsChunked}
use Rattle.dm_chunk.specs.Fronts.{IsFrontOf, IsBadChunked}
use Rattle.dm_policy.specs.declared.cause.Cause.{Cause}
use Rattle.dm_policy.specs.declared.cause.Cause.TheVariants as cause
use Rattle.dm_edge.specs.declared.framing.Framing.{Framing}
use Rattle.dm_edge.specs.declared.framing.Framing.TheVariants.{Chunked, Counted, ToEnd}
use Rattle.dm_edge.specs.declared.wanted.Wanted.{Wanted}
use Rattle.dm_edge.specs.declared.wanted.Wanted.TheVariants.{Whole, Part}
use Rattle.dm_edge.specs.Fields.{fields_of}
use Rattle.dm_edge.specs.Part.{IsAskedPart, part_size}
use Rattle.dm_edge.specs.Begins.{BeginsContent, most_content}

-- what these bytes behind the head bring of the content, where it isn't whole by them
abbrev pub BringsFramed : Framing → List ℕ → List ℕ → Type 0
BringsFramed Chunked bytes content = IsFrontOf bytes content
BringsFramed (Counted count) bytes content = (bytes ≡ content) × (length content ≤ count)
BringsFramed ToEnd bytes content = bytes ≡ content

-- these bytes behind the head are the content, whole, and what follows it
abbrev pub EndsWhole : Framing → List ℕ → List ℕ → Type 0
EndsWhole Chunked bytes content = (after : List ℕ) × IsChunked bytes content after
EndsWhole (Counted count) bytes content = (after : List ℕ) × (bytes ≡ content ++ after) × (length content ≡ count)
EndsWhole ToEnd bytes content = bytes ≡ content

-- the bytes behind the head end before the content does: this much came, and so much was told
abbrev pub EndsShort : Framing → List ℕ → List ℕ → Option ℕ → Type 0
EndsShort Chunked bytes content told = IsFrontOf bytes content × (told ≡ None)
EndsShort (Counted count) bytes content told = (bytes ≡ content) × (length content < count) × (told ≡ Some count)
EndsShort ToEnd bytes content told = ⊥

-- Behind this head these bytes are the framed content, whole. More may follow it, unless the connection's end frames it.
pub record IsFramedWhole (wanted : Wanted) (head : ResponseHead) (stream content : List ℕ) : Type 0 where
  pub framing : Framing
  pub rest : List ℕ
  pub begins : BeginsContent wanted stream head framing rest
  pub whole : EndsWhole framing rest content
  pub limit : length content ≤ most_content

-- These are first bytes of the framed content.
pub record IsFramedFront (wanted : Wanted) (head : ResponseHead) (stream content : List ℕ) : Type 0 where
  pub framing : Framing
  pub bytes : List ℕ
  pub after : List ℕ
  pub begins : BeginsContent wanted stream head framing (bytes ++ after)
  pub brings : BringsFramed framing bytes content
  pub limit : length content ≤ most_content

-- The stream ended before the framed content did, after these bytes of it, and so much was told.
pub record IsFramedShort (wanted : Wanted) (head : ResponseHead) (stream content : List ℕ) (told : Option ℕ) : Type 0 where
  pub framing : Framing
  pub rest : List ℕ
  pub begins : BeginsContent wanted stream head framing rest
  pub short : EndsShort framing rest content told
  pub limit : length content ≤ most_content

-- Behind these bytes of the framed content no chunk goes on.
pub record IsFramedBadly (wanted : Wanted) (head : ResponseHead) (stream content : List ℕ) : Type 0 where
  pub rest : List ℕ
  pub begins : BeginsContent wanted stream head Chunked rest
  pub bad : IsBadChunked rest content
  pub limit : length content ≤ most_content

-- These are as many bytes as a content may have, and another one comes.
pub record IsFramedOver (wanted : Wanted) (head : ResponseHead) (stream content : List ℕ) : Type 0 where
  pub framing : Framing
  pub bytes : List ℕ
  pub after : List ℕ
  pub begins : BeginsContent wanted stream head framing (bytes ++ after)
  pub more : ℕ
  pub brings : BringsFramed framing bytes (content ++ more ∷ [])
  pub full : length content ≡ most_content

-- the head is that of the asked part, which has so many bytes
pub record HasPartSize (first last : ℕ) (tag : List ℕ) (known : ℕ) (head : ResponseHead) (size : ℕ) : Type 0 where
  pub to : ℕ
  pub total : Option ℕ
  pub asked : IsAskedPart first last tag known (fields_of head) to total
  pub size_is : size ≡ part_size first to

-- a part is wanted, and the head's has so many bytes
abbrev pub HasSize : Wanted → ResponseHead → ℕ → Type 0
HasSize Whole head size = ⊥
HasSize (Part first last tag known) head size = HasPartSize first last tag known head size

-- all bytes of the part: the framed content may go on
pub record IsWholePart (wanted : Wanted) (head : ResponseHead) (stream content : List ℕ) : Type 0 where
  pub size : ℕ
  pub has_size : HasSize wanted head size
  pub front : IsFramedFront wanted head stream content
  pub all : length content ≡ size

-- first bytes of the part
pub record IsFrontOfPart (wanted : Wanted) (head : ResponseHead) (stream content : List ℕ) : Type 0 where
  pub size : ℕ
  pub has_size : HasSize wanted head size
  pub front : IsFramedFront wanted head stream content
  pub within : length content ≤ size

-- the framed content is whole, or the stream ended before it was
abbrev pub HasFramedEnd : Wanted → ResponseHead → List ℕ → List ℕ → Type 0
HasFramedEnd wanted head stream content =
    IsFramedWhole wanted head stream content ⊎ ((told : Option ℕ) × IsFramedShort wanted head stream content told)

-- The framed content ended, or the stream did, before the part: these bytes of it came.
pub record IsShortPart (wanted : Wanted) (head : ResponseHead) (stream content : List ℕ) (told : Option ℕ) : Type 0 where
  pub size : ℕ
  pub has_size : HasSize wanted head size
  pub ended : HasFramedEnd wanted head stream content
  pub lacks : length content < size
  pub told_is : told ≡ Some size

-- behind these bytes of the part no chunk goes on
pub record IsBadPart (wanted : Wanted) (head : ResponseHead) (stream content : List ℕ) : Type 0 where
  pub size : ℕ
  pub has_size : HasSize wanted head size
  pub bad : IsFramedBadly wanted head stream content
  pub lacks : length content < size

-- The wanted content behind this head is what the head frames, and of a part the first bytes of that: as many as the part has.
abbrev pub IsWholeBehind : Wanted → ResponseHead → List ℕ → List ℕ → Type 0
IsWholeBehind Whole head stream content = IsFramedWhole Whole head stream content
IsWholeBehind (Part first last tag known) head stream content = IsWholePart (Part first last tag known) head stream content

-- these are first bytes of the wanted content
abbrev pub IsFrontBehind : Wanted → ResponseHead → List ℕ → List ℕ → Type 0
IsFrontBehind Whole head stream content = IsFramedFront Whole head stream content
IsFrontBehind (Part first last tag known) head stream content = IsFrontOfPart (Part first last tag known) head stream content

-- these bytes of the wanted content came before it ended too early, and so much was told
abbrev pub IsShortBehind : Wanted → ResponseHead → List ℕ → List ℕ → Option ℕ → Type 0
IsShortBehind Whole head stream content told = IsFramedShort Whole head stream content told
IsShortBehind (Part first last tag known) head stream content told = IsShortPart (Part first last tag known) head stream content told

-- behind these bytes of the wanted content no chunk goes on
abbrev pub IsBadBehind : Wanted → ResponseHead → List ℕ → List ℕ → Type 0
IsBadBehind Whole head stream content = IsFramedBadly Whole head stream content
IsBadBehind (Part first last tag known) head stream content = IsBadPart (Part first last tag known) head stream content

-- these are as many bytes of the wanted content as one may have, and another one comes: no part is so long
abbrev pub IsOverBehind : Wanted → ResponseHead → List ℕ → List ℕ → Type 0
IsOverBehind Whole head stream content = IsFramedOver Whole head stream content
IsOverBehind (Part first last tag known) head stream content = ⊥

-- This is the reply's content, whole. More bytes may follow it, unless the connection's end frames it.
pub record IsWhole (wanted : Wanted) (stream content : List ℕ) : Type 0 where
  pub head : ResponseHead
  pub all : IsWholeBehind wanted head stream content

-- These are first bytes of the reply's content.
pub record IsFrontOfContent (wanted : Wanted) (stream content : List ℕ) : Type 0 where
  pub head : ResponseHead
  pub some : IsFrontBehind wanted head stream content

-- The reply ended before its content did, after these bytes of it. Told is the size of a part, else what a Content-Length tells.
pub record IsShort (wanted : Wanted) (stream content : List ℕ) (told : Option ℕ) : Type 0 where
  pub head : ResponseHead
  pub lacks : IsShortBehind wanted head stream content told

-- Behind these bytes of content no chunk goes on.
pub record IsBadlyChunked (wanted : Wanted) (stream content : List ℕ) : Type 0 where
  pub head : ResponseHead
  pub breaks : IsBadBehind wanted head stream content

-- These are as many bytes of content as one may have, and another one comes.
pub record IsOverfull (wanted : Wanted) (stream content : List ℕ) : Type 0 where
  pub head : ResponseHead
  pub over : IsOverBehind wanted head stream content

-- What each cause says that ends a content after so many bytes: a fault of the wire, or want of memory, says that these are first bytes of it.
abbrev pub BrokeBy : Type 0 → (Option ℕ → Type 0) → Type 0 → Type 0 → ℕ → Cause → Type 0
BrokeBy Front Short Bad Over count cause.NetFailed = Front
BrokeBy Front Short Bad Over count cause.NetTimeout = Front
BrokeBy Front Short Bad Over count cause.Memory = Front
BrokeBy Front Short Bad Over count (cause.ContentShort have told) = Short told × (have ≡ count)
BrokeBy Front Short Bad Over count cause.BadFraming = Bad
BrokeBy Front Short Bad Over count (cause.TooLarge total) = Over × (total ≡ most_content + 1)
BrokeBy Front Short Bad Over count _ = ⊥

-- What each cause that ends the content says of the whole stream and of the bytes that were given before it.
abbrev pub ContentBroke : Wanted → List ℕ → List ℕ → Cause → Type 0
ContentBroke wanted stream content broke =
    BrokeBy (IsFrontOfContent wanted stream content) (IsShort wanted stream content) (IsBadlyChunked wanted stream content)
    (IsOverfull wanted stream content) (length content) broke

-- The same, of what this head frames.
abbrev pub FramedBroke : Wanted → ResponseHead → List ℕ → List ℕ → Cause → Type 0
FramedBroke wanted head stream content broke =
    BrokeBy (IsFramedFront wanted head stream content) (IsFramedShort wanted head stream content) (IsFramedBadly wanted head stream content)
    (IsFramedOver wanted head stream content) (length content) broke
