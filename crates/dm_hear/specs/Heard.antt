-- What stands at the front of a stream: a whole request, or why there is none. Each is a relation on the stream alone, whatever pieces it comes in.
use Rattle.std.specs.Prelude.{◌≡◌, ◌⊎◌, ℕ, ◌+◌, ◌<◌, ◌≤◌, List, length, take, Option, Some, None, Result, MatchResult}
use Rattle.form_urlencoded.specs.Form.{split_once}
use Rattle.httparse.specs.Grammar.{RequestHead, print_request}
use Rattle.dm_edge.specs.declared.fault.EdgeFault.{EdgeFault}
use Rattle.dm_edge.specs.declared.fault.EdgeFault.TheVariants.{Failed}
use Rattle.dm_edge.specs.Wire.{Told, stream_of}
use Rattle.dm_call.specs.Asked.{kind_of}
use Rattle.dm_call.specs.declared.request.ApiRequest.{ApiRequest}
use Rattle.dm_hear.specs.Head.{BeginsRequest, IsBadHead, IsHeadCut, IsHeadLong, most_request}
use Rattle.dm_hear.specs.Content.{HasLength, HasNoLength, fields_of}
use Rattle.dm_hear.specs.declared.fault.ApiFault.{ApiFault}
use Rattle.dm_hear.specs.declared.fault.ApiFault.TheVariants as faults
use Rattle.dm_hear.specs.declared.fault.Rule.TheVariants as rules

-- the request with this head and content: its target is parted at the first question mark, 63
abbrev pub request_of : RequestHead → List ℕ → ApiRequest
request_of head body = record { method = kind_of head.method; path = (split_once 63 head.target).0; query = (split_once 63 head.target).1; body = body }

-- a head that tells the length of a content
pub record HasSized (stream : List ℕ) (head : RequestHead) (rest : List ℕ) (size : ℕ) : Type 0 where
  pub begins : BeginsRequest stream head rest
  pub length_is : HasLength (fields_of head) size

pub record IsRequest (stream : List ℕ) (request : ApiRequest) : Type 0 where
  pub head : RequestHead
  pub rest : List ℕ
  pub size : ℕ
  pub sized : HasSized stream head rest size
  pub fits : length (print_request head) + size ≤ most_request
  pub whole : size ≤ length rest
  pub is : request ≡ request_of head (take size rest)

-- the length of the content can't be known
pub record HasBadLength (stream : List ℕ) : Type 0 where
  pub head : RequestHead
  pub rest : List ℕ
  pub begins : BeginsRequest stream head rest
  pub none : HasNoLength (fields_of head)

-- head and content have more bytes than a request may have
pub record IsContentLong (stream : List ℕ) : Type 0 where
  pub head : RequestHead
  pub rest : List ℕ
  pub size : ℕ
  pub sized : HasSized stream head rest size
  pub above : most_request < length (print_request head) + size

-- the stream ended inside the content
pub record IsContentCut (stream : List ℕ) : Type 0 where
  pub head : RequestHead
  pub rest : List ℕ
  pub size : ℕ
  pub sized : HasSized stream head rest size
  pub fits : length (print_request head) + size ≤ most_request
  pub short : length rest < size

abbrev pub IsCut : List ℕ → Type 0
IsCut stream = IsHeadCut stream ⊎ IsContentCut stream

-- What a fault says of the stream: one of the source, and want of memory, say nothing.
abbrev pub IsFaultOf : List ℕ → ApiFault → Type 0
IsFaultOf stream (faults.Rule rules.Head) = IsBadHead stream
IsFaultOf stream (faults.Rule rules.Length) = HasBadLength stream
IsFaultOf stream faults.TooLarge = IsHeadLong stream ⊎ IsContentLong stream
IsFaultOf stream faults.Cut = IsCut stream
IsFaultOf stream faults.Source = Unit {0}
IsFaultOf stream faults.NoMemory = Unit {0}

-- the kind of a fault that is counted
abbrev pub api_kind : ApiFault → Option EdgeFault
api_kind faults.Source = Some Failed
api_kind _ = None

-- What is left of a source decides the answer. Nothing was written to it, and what it gave and has left is the same stream as before.
pub record Hears (before now : Told) (result : Result ApiRequest ApiFault) : Type 0 where
  pub answer : MatchResult result (IsRequest before.left) (IsFaultOf before.left)
  pub sent : now.sent ≡ before.sent
  pub stream : stream_of now ≡ stream_of before
