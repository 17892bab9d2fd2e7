-- What the code holds of the bytes that came so far.
use Rattle.std.specs.Prelude.{◌≡◌, ℕ, ◌<◌, ◌≤◌, List, ◌++◌, length, drop, map, All, None}
use Rattle.form_urlencoded.specs.Form.{split_once}
use Rattle.httparse.specs.declared.spans.HeaderSpan.{HeaderSpan}
use Rattle.httparse.specs.declared.spans.RequestSpans.{RequestSpans}
use Rattle.httparse.specs.Grammar.{RequestHead, print_request}
use Rattle.httparse.specs.Spans.{IsHeaderWithin, IsWithin, header_bytes, span_bytes}
use Rattle.dm_edge.specs.Wire.{Told}
use Rattle.dm_call.specs.Asked.{kind_of}
use Rattle.dm_call.specs.declared.request.ApiRequest.{ApiRequest}
use Rattle.dm_hear.specs.Head.{BeginsRequest, most_request}
use Rattle.dm_hear.specs.Content.{fields_of}
use Rattle.dm_hear.specs.Heard.{IsCut, IsFaultOf, IsRequest, api_kind}
use Rattle.dm_hear.specs.declared.judge.Judged.{Judged}
use Rattle.dm_hear.specs.declared.judge.Judged.TheVariants as judged
use Rattle.dm_hear.specs.declared.judge.Parts.{Parts}

-- the code holds a whole head at the front
pub record HasWhole (front : List ℕ) (spans : RequestSpans) (fields : List HeaderSpan) : Type 0 where
  pub head : RequestHead
  pub begins : BeginsRequest front head (drop spans.len front)
  pub len_is : spans.len ≡ length (print_request head)
  pub len_fits : spans.len ≤ length front
  pub method_is : span_bytes front spans.method ≡ head.method
  pub target_is : span_bytes front spans.path ≡ head.target
  pub method : IsWithin (length front) spans.method
  pub path : IsWithin (length front) spans.path
  pub fields_are : map (header_bytes front) fields ≡ fields_of head
  pub within : All (IsHeaderWithin (length front)) fields

-- where the parts of a request lie
pub record ArePartsWithin (size : ℕ) (parts : Parts) : Type 0 where
  pub method : IsWithin size parts.method
  pub target : IsWithin size parts.target
  pub content : IsWithin size parts.content

-- the request with these parts
abbrev pub request_at : List ℕ → Parts → ApiRequest
request_at front parts = record {
  method = kind_of (span_bytes front parts.method);
  path = (split_once 63 (span_bytes front parts.target)).0;
  query = (split_once 63 (span_bytes front parts.target)).1;
  body = span_bytes front parts.content;
}

-- What is so of each stream that the bytes begin, and where more bytes are wanted, what a stream of these alone is.
abbrev pub Judges : List ℕ → Judged → Type 0
Judges front (judged.Whole parts) = ((more : List ℕ) → IsRequest (front ++ more) (request_at front parts)) × ArePartsWithin (length front) parts
Judges front (judged.Refused fault) = (api_kind fault ≡ None) × ((more : List ℕ) → IsFaultOf (front ++ more) fault)
Judges front judged.More = (length front < most_request) × IsCut front

-- so many bytes came of a source
pub record Came (before now : Told) (front : List ℕ) : Type 0 where
  pub given : now.given ≡ before.given ++ front
  pub left : before.left ≡ front ++ now.left
  pub sent : now.sent ≡ before.sent
