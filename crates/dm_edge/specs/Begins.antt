-- How the reply of a whole stream begins, to a request for a whole content or for a part of one: with a head that has it, a redirect, or what ends
-- the reply there. Each is a relation on the stream alone, whatever pieces it comes in.
use Rattle.std.specs.Prelude.{◌≡◌, ◌≢◌, ℕ, ◌<◌, ◌≤◌, ◌^◌, ◌⊎◌, Bool, true, false, ◌||◌, ◌==◌, List, [], ◌∷◌, Option, Some, None, IsTrue, codes}
use Rattle.httparse.specs.Grammar.{ResponseHead, status_code}
use Rattle.dm_policy.specs.declared.cause.Cause.{Cause}
use Rattle.dm_policy.specs.declared.cause.Cause.TheVariants as cause
use Rattle.dm_edge.specs.declared.framing.Framing.{Framing}
use Rattle.dm_edge.specs.declared.framing.Framing.TheVariants.{Chunked, Counted, ToEnd}
use Rattle.dm_edge.specs.declared.wanted.Wanted.{Wanted}
use Rattle.dm_edge.specs.declared.wanted.Wanted.TheVariants.{Whole, Part}
use Rattle.dm_edge.specs.Fields.{NameAndValue, values_of, fields_of, is_plain, FramedBy, IsUnframeable}
use Rattle.dm_edge.specs.Head.{is_redirect, IsBadHead, IsHeadCut, BeginsFinal, ComesTo, HasHead, HasNinthInterim}
use Rattle.dm_edge.specs.Part.{IsAskedPart, part_size, FitsSize, told_whole}

-- the status of a whole content (RFC 9110, section 15.3.1)
abbrev pub ok_status : ℕ
ok_status = 200

-- the status of a part of a content (RFC 9110, section 15.3.7)
abbrev pub part_status : ℕ
part_status = 206

-- the status of a reply without the range that was asked for (RFC 9110, section 15.5.17)
abbrev pub no_range_status : ℕ
no_range_status = 416

-- the most bytes that a content may have
abbrev pub most_content : ℕ
most_content = 2 ^ 40

-- the status that has the content that is wanted
abbrev pub content_status : Wanted → ℕ
content_status Whole = ok_status
content_status (Part first last tag total) = part_status

-- the statuses that lead to another address: a whole content is asked for there, a part isn't
abbrev pub leads_on : Wanted → ℕ → Bool
leads_on Whole status = is_redirect status
leads_on (Part first last tag total) status = false

-- The statuses that refuse a part: the whole content comes, or the range isn't in it, or it is elsewhere.
abbrev pub refuses_range : Wanted → ℕ → Bool
refuses_range Whole status = false
refuses_range (Part first last tag total) status = (status == ok_status) || (status == no_range_status) || is_redirect status

-- a redirect with exactly one Location leads to it (RFC 9110, section 10.2.2)
pub record LeadsTo (wanted : Wanted) (head : ResponseHead) (location : List ℕ) : Type 0 where
  pub redirects : IsTrue (leads_on wanted (status_code head))
  pub only : values_of (codes "location") (fields_of head) ≡ location ∷ []

-- a redirect without exactly one leads nowhere
pub record LeadsNowhere (wanted : Wanted) (head : ResponseHead) : Type 0 where
  pub redirects : IsTrue (leads_on wanted (status_code head))
  pub none : (location : List ℕ) → values_of (codes "location") (fields_of head) ≢ location ∷ []

-- a head that goes on to its fields: of the status that is wanted, or a redirect that leads somewhere
abbrev pub GoesOn : Wanted → ResponseHead → Type 0
GoesOn wanted head = (status_code head ≡ content_status wanted) ⊎ ((location : List ℕ) × LeadsTo wanted head location)

-- a status that is none of these
pub record IsOtherStatus (wanted : Wanted) (status : ℕ) : Type 0 where
  pub not_ok : status ≢ content_status wanted
  pub no_redirect : leads_on wanted status ≡ false
  pub no_refusal : refuses_range wanted status ≡ false

-- the content is as it is, and framed so
pub record IsGoodHead (head : ResponseHead) (framing : Framing) : Type 0 where
  pub plain : is_plain (fields_of head) ≡ true
  pub framed : FramedBy head.minor (fields_of head) framing

-- the length that the head tells
abbrev pub told_total : Framing → Option ℕ
told_total Chunked = None
told_total (Counted count) = Some count
told_total ToEnd = None

-- a told length keeps the limit
abbrev pub KeepsLimit : Framing → Type 0
KeepsLimit Chunked = Unit {0}
KeepsLimit (Counted count) = count ≤ most_content
KeepsLimit ToEnd = Unit {0}

-- the fields are those of the asked part, which has the told length, of a content that keeps the limit
pub record IsFittingPart (first last : ℕ) (tag : List ℕ) (known : ℕ) (fields : List NameAndValue) (framing : Framing) : Type 0 where
  pub to : ℕ
  pub total : Option ℕ
  pub asked : IsAskedPart first last tag known fields to total
  pub size : FitsSize (part_size first to) framing
  pub limit : told_whole to total ≤ most_content

-- the fields are those of the content that is wanted, within the limit
abbrev pub Fits : Wanted → List NameAndValue → Framing → Type 0
Fits Whole fields framing = KeepsLimit framing
Fits (Part first last tag known) fields framing = IsFittingPart first last tag known fields framing

-- The stream has a head with the content that is wanted, framed so, and then this follows.
pub record BeginsContent (wanted : Wanted) (stream : List ℕ) (head : ResponseHead) (framing : Framing) (rest : List ℕ) : Type 0 where
  pub has : HasHead stream head rest
  pub ok : status_code head ≡ content_status wanted
  pub good : IsGoodHead head framing
  pub fits : Fits wanted (fields_of head) framing

-- The stream has the head of a redirect.
pub record BeginsRedirect (wanted : Wanted) (stream : List ℕ) (head : ResponseHead) (location : List ℕ) : Type 0 where
  pub rest : List ℕ
  pub has : HasHead stream head rest
  pub leads : LeadsTo wanted head location
  pub framing : Framing
  pub good : IsGoodHead head framing

-- the stream is a redirect with this Location
pub record HasRedirect (wanted : Wanted) (stream location : List ℕ) : Type 0 where
  pub head : ResponseHead
  pub begins : BeginsRedirect wanted stream head location

-- A head at the front has a status that is neither content nor a redirect (RFC 9110, section 15).
pub record HasOtherStatus (wanted : Wanted) (from : List ℕ) (status : ℕ) : Type 0 where
  pub head : ResponseHead
  pub rest : List ℕ
  pub begins : BeginsFinal from head rest
  pub status_is : status_code head ≡ status
  pub other : IsOtherStatus wanted status

-- a head at the front leads nowhere
pub record HasLostRedirect (wanted : Wanted) (from : List ℕ) : Type 0 where
  pub head : ResponseHead
  pub rest : List ℕ
  pub begins : BeginsFinal from head rest
  pub leads : LeadsNowhere wanted head

-- the content of a head at the front isn't as it is
pub record HasEncoded (wanted : Wanted) (from : List ℕ) : Type 0 where
  pub head : ResponseHead
  pub rest : List ℕ
  pub begins : BeginsFinal from head rest
  pub goes_on : GoesOn wanted head
  pub encoded : is_plain (fields_of head) ≡ false

-- the content of a head at the front is framed in no way
pub record HasBadFraming (wanted : Wanted) (from : List ℕ) : Type 0 where
  pub head : ResponseHead
  pub rest : List ℕ
  pub begins : BeginsFinal from head rest
  pub goes_on : GoesOn wanted head
  pub plain : is_plain (fields_of head) ≡ true
  pub unframeable : IsUnframeable head.minor (fields_of head)

-- a head at the front has a status that refuses the range
pub record HasRefusal (wanted : Wanted) (from : List ℕ) (status : ℕ) : Type 0 where
  pub head : ResponseHead
  pub rest : List ℕ
  pub begins : BeginsFinal from head rest
  pub status_is : status_code head ≡ status
  pub refuses : IsTrue (refuses_range wanted status)

-- A part is wanted, and the fields aren't those of the asked one.
abbrev pub IsOtherPart : Wanted → List NameAndValue → Type 0
IsOtherPart Whole fields = ⊥
IsOtherPart (Part first last tag known) fields = (to : ℕ) (total : Option ℕ) → IsAskedPart first last tag known fields to total → ⊥

-- a good head of the wanted status has other fields than those of the asked part
pub record HasOtherPart (wanted : Wanted) (from : List ℕ) (status : ℕ) : Type 0 where
  pub head : ResponseHead
  pub rest : List ℕ
  pub begins : BeginsFinal from head rest
  pub ok : status_code head ≡ content_status wanted
  pub status_is : status ≡ content_status wanted
  pub framing : Framing
  pub good : IsGoodHead head framing
  pub other : IsOtherPart wanted (fields_of head)

-- the fields are those of the asked part, which hasn't the told length
pub record IsMissized (first last : ℕ) (tag : List ℕ) (known : ℕ) (fields : List NameAndValue) (framing : Framing) : Type 0 where
  pub to : ℕ
  pub total : Option ℕ
  pub asked : IsAskedPart first last tag known fields to total
  pub other : FitsSize (part_size first to) framing → ⊥

-- a part is wanted, and the told length isn't the asked one's
abbrev pub MissesSize : Wanted → List NameAndValue → Framing → Type 0
MissesSize Whole fields framing = ⊥
MissesSize (Part first last tag known) fields framing = IsMissized first last tag known fields framing

-- a good head of the asked part tells another length than the part's
pub record HasOtherSize (wanted : Wanted) (from : List ℕ) : Type 0 where
  pub head : ResponseHead
  pub rest : List ℕ
  pub begins : BeginsFinal from head rest
  pub ok : status_code head ≡ content_status wanted
  pub framing : Framing
  pub good : IsGoodHead head framing
  pub misses : MissesSize wanted (fields_of head) framing

-- the fields are those of the asked part, which has the told length, of a content that has so many bytes
pub record IsPartOf (first last : ℕ) (tag : List ℕ) (known : ℕ) (fields : List NameAndValue) (framing : Framing) (whole : ℕ) : Type 0 where
  pub to : ℕ
  pub total : Option ℕ
  pub asked : IsAskedPart first last tag known fields to total
  pub size : FitsSize (part_size first to) framing
  pub whole_is : whole ≡ told_whole to total

-- the whole content has so many bytes, as the head tells
abbrev pub TellsWhole : Wanted → List NameAndValue → Framing → ℕ → Type 0
TellsWhole Whole fields framing whole = framing ≡ Counted whole
TellsWhole (Part first last tag known) fields framing whole = IsPartOf first last tag known fields framing whole

-- a head at the front tells of more bytes than a content may have
pub record HasTooLarge (wanted : Wanted) (from : List ℕ) (total : ℕ) : Type 0 where
  pub head : ResponseHead
  pub rest : List ℕ
  pub begins : BeginsFinal from head rest
  pub ok : status_code head ≡ content_status wanted
  pub framing : Framing
  pub good : IsGoodHead head framing
  pub tells : TellsWhole wanted (fields_of head) framing total
  pub above : most_content < total

-- What stands at the front, behind the interim heads, where it has this cause. The first of the causes that hold is met: what can be no
-- head, the status, the coding, the framing, the asked part, its length, the limit.
abbrev pub FrontBroke : Wanted → List ℕ → Cause → Type 0
FrontBroke wanted from cause.HeadCut = IsHeadCut from
FrontBroke wanted from cause.BadHead = IsBadHead from ⊎ HasLostRedirect wanted from
FrontBroke wanted from (cause.Status status) = HasOtherStatus wanted from status
FrontBroke wanted from cause.Encoded = HasEncoded wanted from
FrontBroke wanted from cause.BadFraming = HasBadFraming wanted from ⊎ HasOtherSize wanted from
FrontBroke wanted from (cause.TooLarge total) = HasTooLarge wanted from total
FrontBroke wanted from (cause.RangeRefused status) = HasRefusal wanted from status ⊎ HasOtherPart wanted from status
FrontBroke wanted from _ = ⊥

-- behind its interim heads the stream meets this cause
pub record ComesToBroke (wanted : Wanted) (stream : List ℕ) (broke : Cause) : Type 0 where
  pub from : List ℕ
  pub comes : ComesTo stream from
  pub met : FrontBroke wanted from broke

-- the stream has one interim head too many, with its status
abbrev pub IsNinthInterim : List ℕ → Cause → Type 0
IsNinthInterim stream broke = (status : ℕ) × (broke ≡ cause.Status status) × HasNinthInterim stream status

-- a fault of the wire, which says nothing of the stream
abbrev pub IsOfWire : Cause → Type 0
IsOfWire broke = (broke ≡ cause.NetFailed) ⊎ (broke ≡ cause.NetTimeout)

-- What a cause that ends the head says of the whole stream.
abbrev pub HeadBroke : Wanted → List ℕ → Cause → Type 0
HeadBroke wanted stream broke = IsOfWire broke ⊎ (IsNinthInterim stream broke ⊎ ComesToBroke wanted stream broke)
