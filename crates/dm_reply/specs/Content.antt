-- What a reader holds, and how it is tied to the wire that it reads.
use Rattle.std.specs.Prelude.{◌≡◌, ◌↔◌, ℕ, ◌+◌, ◌<◌, ◌≤◌, IsTrue, codes, List, [], ◌++◌, length, take, Option, Some, None, IfSome, Result, Ok, Err}
use Rattle.std.specs.Option.{option_map}
use Rattle.httparse.specs.Grammar.{ResponseHead, status_code}
use Rattle.dm_chunk.specs.Decoded.{HasDecoded}
use Rattle.dm_chunk.specs.declared.Chunks.{Chunks}
use Rattle.dm_policy.specs.declared.cause.Cause.{Cause}
use Rattle.dm_edge.specs.Wire.{Told, stream_of}
use Rattle.dm_edge.specs.declared.framing.Framing.{Framing}
use Rattle.dm_edge.specs.declared.framing.Framing.TheVariants as framing
use Rattle.dm_edge.specs.declared.wanted.Wanted.{Wanted}
use Rattle.dm_edge.specs.declared.wanted.Wanted.TheVariants.{Whole, Part}
use Rattle.dm_edge.specs.Part.{IsAskedPart, part_size}
use Rattle.dm_edge.specs.Begins.{BeginsContent, BeginsRedirect, HeadBroke, told_total, most_content}
use Rattle.dm_edge.specs.Reply.{IsFramedFront, IsWholeBehind, ContentBroke}
use Rattle.dm_head.specs.declared.part.Extent.{Extent}
use Rattle.dm_head.specs.Fit.{IsExtent, IsWithinLimit}
use Rattle.dm_edge.specs.Fields.{NameAndValue, values_of, fields_of}
use Rattle.dm_edge.specs.Metadata.{most_tag, IsStrongTag, IsOnlyValue, TakesRanges}
use Rattle.dm_edge.specs.Metadata.{most_modified, modified_of}
use Rattle.dm_reply.specs.declared.got.Got.{Got}
use Rattle.dm_reply.specs.declared.got.Got.TheVariants as got
use Rattle.dm_reply.specs.declared.head.Head.{Head}
use Rattle.dm_reply.specs.declared.head.HeadFault.{HeadFault}
use Rattle.dm_reply.specs.declared.head.HeadFault.TheVariants as fault
use Rattle.dm_reply.specs.declared.head.Kind.{Kind}
use Rattle.dm_reply.specs.declared.head.Kind.TheVariants as kind
use Rattle.dm_reply.specs.declared.body.Body.{Body}
use Rattle.dm_reply.specs.declared.body.Body.TheVariants as body

-- how far a content was read
pub record Reading : Type 0 where
  -- the bytes that were received and not given yet
  pub ahead : List ℕ
  -- how the content is framed, and where it stands
  pub body : Body
  -- how many bytes of content were given
  pub given : ℕ
  -- the cause that ended it
  pub broke : Option Cause

-- a reader, as contracts see it
pub record Reader : Type 0 where
  pub wanted : Wanted
  -- how many bytes the part has, where one was found
  pub size : Option ℕ
  pub reading : Reading

-- a reader that has read nothing
abbrev pub unread : Wanted → Reader
unread wanted = record { wanted = wanted; size = None; reading = record { ahead = []; body = body.ToEnd; given = 0; broke = None } }

abbrev pub framing_of : Body → Framing
framing_of (body.Counted wanted) = framing.Counted wanted
framing_of body.ToEnd = framing.ToEnd
framing_of (body.Chunked chunks) = framing.Chunked

-- how many bytes the framing tells, where it tells it
abbrev pub counted_of : Body → Option ℕ
counted_of body = told_total (framing_of body)

-- a decoder was fed these bytes but for those ahead, and told this content
pub record HasChunks (bytes content ahead : List ℕ) (chunks : Chunks) : Type 0 where
  pub read : List ℕ
  pub parts : bytes ≡ read ++ ahead
  pub decoded : HasDecoded read content chunks

-- of the bytes behind the head this content was given, and those ahead are held
abbrev pub Holds : Body → List ℕ → List ℕ → List ℕ → Type 0
Holds (body.Counted wanted) bytes content ahead = (bytes ≡ content ++ ahead) × (length content ≤ wanted)
Holds body.ToEnd bytes content ahead = bytes ≡ content ++ ahead
Holds (body.Chunked chunks) bytes content ahead = HasChunks bytes content ahead chunks

-- From what a wire gave, this head with content was taken and this framed content was given. The rest is held.
pub record HasFramed (wanted : Wanted) (head : ResponseHead) (given : List ℕ) (reading : Reading) (content : List ℕ) : Type 0 where
  pub bytes : List ℕ
  pub begins : BeginsContent wanted given head (framing_of reading.body) bytes
  pub holds : Holds reading.body bytes content reading.ahead
  pub count : reading.given ≡ length content
  pub limit : length content ≤ most_content
  pub unbroken : reading.broke ≡ None
  pub front : IsFramedFront wanted head given content

-- The head is that of the asked part, which has the size that is kept, and the content is no more than that.
pub record HasPartOf (first last : ℕ) (tag : List ℕ) (known : ℕ) (head : ResponseHead) (size : Option ℕ) (content : List ℕ) : Type 0 where
  pub count : ℕ
  pub size_is : size ≡ Some count
  pub to : ℕ
  pub total : Option ℕ
  pub asked : IsAskedPart first last tag known (fields_of head) to total
  pub count_is : count ≡ part_size first to
  pub within : length content ≤ count

-- a size is kept for a part alone
abbrev pub IsSized : Wanted → ResponseHead → Option ℕ → List ℕ → Type 0
IsSized Whole head size content = size ≡ None
IsSized (Part first last tag known) head size content = HasPartOf first last tag known head size content

-- From what a wire gave, the reader took this head with the wanted content and gave this content. It holds the rest.
pub record HasRead (wanted : Wanted) (head : ResponseHead) (given : List ℕ) (reader : Reader) (content : List ℕ) : Type 0 where
  pub framed : HasFramed wanted head given reader.reading content
  pub sized : IsSized wanted head reader.size content

-- the head of content that was read, or the address that the stream leads to
abbrev pub KindSays : Wanted → Told → Reader → ResponseHead → Kind → Type 0
KindSays wanted now reader head kind.Content = HasRead wanted head now.given reader []
KindSays wanted now reader head (kind.Redirect location) = BeginsRedirect wanted (stream_of now) head location

-- which bytes of the whole content come, as an answer of `head` says
abbrev pub extent_of : Head → Extent
extent_of told = record { first = told.first; last = told.last; total = told.total }

-- no bytes come with a redirect
abbrev pub no_extent : Extent
no_extent = record { first = 0; last = None; total = None }

-- the places of a head with content are those that its fields say
abbrev pub ExtentSays : Wanted → ResponseHead → Framing → Head → Kind → Type 0
ExtentSays wanted head framing told kind.Content = IsExtent wanted (fields_of head) framing (extent_of told)
ExtentSays wanted head framing told (kind.Redirect location) = extent_of told ≡ no_extent

-- how many bytes a part has, by its places
abbrev pub size_told : Extent → Option ℕ
size_told extent = option_map (part_size extent.first) extent.last

-- What an answer of `head` says of the head's fields: its tag, whether ranges are given, and what it tells of the file.
pub record FieldsSay (fields : List NameAndValue) (told : Head) : Type 0 where
  pub strong_is : IsStrongTag fields told.strong
  pub ranges_are : IsTrue told.ranges ↔ TakesRanges fields
  pub disposition_is : IsOnlyValue (values_of (codes "content-disposition") fields) told.disposition
  pub modified_is : told.modified ≡ modified_of fields

-- What an answer of `head` says of the stream.
pub record HeadSays (wanted : Wanted) (now : Told) (reader : Reader) (told : Head) : Type 0 where
  pub head : ResponseHead
  pub kind_is : KindSays wanted now reader head told.kind
  pub status_is : told.status ≡ status_code head
  pub extent_is : ExtentSays wanted head (framing_of reader.reading.body) told told.kind
  pub fields_say : FieldsSay (fields_of head) told

-- a last place is told, and is at most this one
abbrev pub EndsBy : ℕ → Option ℕ → Type 0
EndsBy last None = ⊥
EndsBy last (Some to) = to ≤ last

-- The places of each head that is answered: of a whole content none but the first, of a part those that were asked or some before the asked end. Where
-- a part is wanted no head leads on.
abbrev pub PlacesSay : Wanted → Head → Kind → Type 0
PlacesSay Whole told kind.Content = (told.first ≡ 0) × (told.last ≡ None)
PlacesSay Whole told (kind.Redirect location) = extent_of told ≡ no_extent
PlacesSay (Part first last tag known) told kind.Content = (told.first ≡ first) × EndsBy last told.last
PlacesSay (Part first last tag known) told (kind.Redirect location) = ⊥

-- What each head that is answered has, also where the wire doesn't tell: its places, and lengths within their limits.
pub record IsPlainHead (wanted : Wanted) (told : Head) : Type 0 where
  pub places : PlacesSay wanted told told.kind
  pub limit : IsWithinLimit (extent_of told)
  pub strong : IfSome told.strong (λ tag. length tag ≤ most_tag)
  pub modified : length told.modified ≤ most_modified

-- The part's size is kept: it has a byte, and none behind the asked end.
pub record IsSizedPart (first last : ℕ) (size : Option ℕ) : Type 0 where
  pub count : ℕ
  pub size_is : size ≡ Some count
  pub some : 0 < count
  pub within : first + count ≤ last + 1

-- What a reader keeps of a head with content, also where the wire doesn't tell: of a whole content the told number of bytes, of a part its size.
abbrev pub IsFramedAs : Wanted → Head → Reader → Kind → Type 0
IsFramedAs Whole told reader kind.Content = (reader.size ≡ None) × (told.total ≡ counted_of reader.reading.body)
IsFramedAs Whole told reader (kind.Redirect location) = Unit {0}
IsFramedAs (Part first last tag known) told reader kind.Content = IsSizedPart first last reader.size
IsFramedAs (Part first last tag known) told reader (kind.Redirect location) = Unit {0}

-- what a refusal of `head` says of the whole stream. Want of memory says nothing
abbrev pub HeadBreaks : Wanted → List ℕ → HeadFault → Type 0
HeadBreaks wanted stream (fault.Broke cause) = HeadBroke wanted stream cause
HeadBreaks wanted stream fault.NoMemory = Unit {0}

-- What an answer of `content` says, where this content was given before. The buffer is the one at the return.
abbrev pub ContentSays : Wanted → ResponseHead → Told → Reader → Result Got Cause → List ℕ → List ℕ → Type 0
ContentSays wanted head now new (Ok (got.Bytes n)) buffer content = HasRead wanted head now.given new (content ++ take n buffer)
ContentSays wanted head now new (Ok got.End) buffer content = IsWholeBehind wanted head (stream_of now) content × HasRead wanted head now.given new content
ContentSays wanted head now new (Err cause) buffer content = ContentBroke wanted (stream_of now) content cause × (new.reading.broke ≡ Some cause)

-- Each answer with bytes gives at least one, and the content keeps its limit.
abbrev pub Advances : Reading → Reading → Result Got Cause → ℕ → Type 0
Advances old new (Ok (got.Bytes n)) room =
    (0 < n) × (n ≤ room) × (new.given ≡ old.given + n) × (new.given ≤ most_content) × (new.broke ≡ None)
Advances old new (Ok got.End) room = (new.given ≡ old.given) × (new.broke ≡ None)
Advances old new (Err cause) room = new.given ≡ old.given

-- the first of the two that is there
abbrev pub first_some : Option ℕ → Option ℕ → Option ℕ
first_some None other = other
first_some (Some n) other = Some n

-- At the end as many bytes were given as the part has, or as the framing tells of a whole content.
abbrev pub EndsAll : Reader → Result Got Cause → Type 0
EndsAll reader (Ok (got.Bytes n)) = Unit {0}
EndsAll reader (Ok got.End) = IfSome (first_some reader.size (counted_of reader.reading.body)) (λ n. reader.reading.given ≡ n)
EndsAll reader (Err cause) = Unit {0}
