-- Content that stands in the stream as it is, against the whole stream.
use Rattle.std.proofs.Common.{◌≡◌, ℕ, ◌+◌, ◌<◌, ◌≤◌, List, [], ◌∷◌, ◌++◌, length, take, refl, sym, ap, ◌∙◌, subst, arith, Result, Ok, Err, IfOk, Some, append_assoc, length-append}
use Rattle.std.proofs.lemmas.List.{append-nil, length-take-le}
use Rattle.dm_edge.specs.Causes.{wire_cause}
use Rattle.dm_edge.specs.Wire.{Told, stream_of}
use Rattle.dm_edge.specs.declared.fault.WireFault.{WireFault}
use Rattle.dm_edge.specs.declared.fault.WireFault.TheVariants as wire
use Rattle.dm_edge.specs.declared.framing.Framing.TheVariants as framing
use Rattle.httparse.specs.Grammar.{ResponseHead}
use Rattle.dm_edge.specs.declared.wanted.Wanted.{Wanted}
use Rattle.dm_edge.specs.Begins.{BeginsContent, most_content}
use Rattle.dm_edge.specs.Reply.{IsFramedWhole, IsFramedFront, IsFramedShort, IsFramedOver, FramedBroke}
use Rattle.dm_policy.specs.declared.cause.Cause.{Cause}
use Rattle.dm_reply.specs.declared.got.Got.{Got}
use Rattle.dm_reply.specs.declared.got.Got.TheVariants as got
use Rattle.dm_reply.specs.declared.body.Body.TheVariants as body
use Rattle.dm_reply.specs.Ahead.{Grows, Stays}
use Rattle.dm_reply.specs.Content.{HasFramed}
use Rattle.dm_reply.specs.Steps.{Nexts, going, settled, FramedSays, EndSays}
use Rattle.dm_reply.proofs.StreamLemmas.{content_more, given_more, front_grown, at_end}

-- the bytes behind the head, where some of them came and some lay ahead
moved_on : (bytes content old piece front new : List ℕ) → bytes ≡ content ++ old → old ++ piece ≡ front ++ new
    → bytes ++ piece ≡ (content ++ front) ++ new
moved_on bytes content old piece front new is moved =
    ap (λ t. t ++ piece) is ∙ append_assoc content old piece ∙ ap (λ t. content ++ t) moved ∙ sym (append_assoc content front new)

count_on : (content buffer : List ℕ) (n given : ℕ) → given ≡ length content → n ≤ length buffer → given + n ≡ length (content ++ take n buffer)
count_on content buffer n given count within =
    omega (arith, length-append content (take n buffer), length-take-le n buffer within)

-- what a fault of the wire leaves of the content
pub stopped : {asked : Wanted} {head : ResponseHead} {stream content : List ℕ} → IsFramedFront asked head stream content → (fault : WireFault) → FramedBroke asked head stream content (wire_cause fault)
stopped front wire.Failed = front
stopped front wire.Timeout = front
stopped front wire.NoMemory = front

-- what was given of a counted content are first bytes of it
counted_at : {asked : Wanted} {head : ResponseHead} {given bytes content : List ℕ} {count : ℕ} (ahead : List ℕ)
    → BeginsContent asked given head (framing.Counted count) bytes → bytes ≡ content ++ ahead → length content ≤ count → length content ≤ most_content
    → IsFramedFront asked head given content
counted_at {asked} {head} {given} {bytes} {content} {count} ahead begins is within limit = record {
  framing = framing.Counted count;
  bytes = content;
  after = ahead;
  begins = subst (BeginsContent asked given head (framing.Counted count)) is begins;
  brings = (refl, within);
  limit = limit;
}

-- and of one that goes on to the connection's end
to_end_at : {asked : Wanted} {head : ResponseHead} {given bytes content : List ℕ} (ahead : List ℕ) → BeginsContent asked given head framing.ToEnd bytes
    → bytes ≡ content ++ ahead → length content ≤ most_content → IsFramedFront asked head given content
to_end_at {asked} {head} {given} {bytes} {content} ahead begins is limit = record {
  framing = framing.ToEnd;
  bytes = content;
  after = ahead;
  begins = subst (BeginsContent asked given head framing.ToEnd) is begins;
  brings = refl;
  limit = limit;
}

-- ---- counted

pub counted_on : (asked : Wanted) (head : ResponseHead) (before now : Told) (wanted given n : ℕ) (old new buffer content : List ℕ)
    → HasFramed asked head before.given (going old (body.Counted wanted) given) content → Nexts before now old new buffer n
    → n ≤ length buffer → given + n ≤ wanted → wanted ≤ most_content
    → HasFramed asked head now.given (going new (body.Counted wanted) (given + n)) (content ++ take n buffer)
counted_on asked head before now wanted given n old new buffer content has next within keeps limit =
    let count = count_on content buffer n given has.count within in
    let begins = given_more has.begins next.piece next.given in
    let moved = moved_on has.bytes content old next.piece (take n buffer) new has.holds.0 next.moved in
    let size : length (content ++ take n buffer) ≤ wanted = omega (arith, count, keeps) in
    let most : length (content ++ take n buffer) ≤ most_content = omega (arith, count, keeps, limit) in
    record {
      bytes = has.bytes ++ next.piece;
      begins = begins;
      holds = (moved, size);
      count = count;
      limit = most;
      unbroken = refl;
      front = counted_at new begins moved size most;
    }

pub counted_whole : (asked : Wanted) (head : ResponseHead) (told : Told) (wanted given : ℕ) (ahead content : List ℕ)
    → HasFramed asked head told.given (going ahead (body.Counted wanted) given) content → given ≡ wanted → IsFramedWhole asked head (stream_of told) content
counted_whole asked head told wanted given ahead content has all = record {
  framing = framing.Counted wanted;
  rest = has.bytes ++ told.left;
  begins = content_more has.begins told.left;
  whole = (ahead ++ told.left, ap (λ t. t ++ told.left) has.holds.0 ∙ append_assoc content ahead told.left, sym has.count ∙ all);
  limit = has.limit;
}

pub counted_front : (asked : Wanted) (head : ResponseHead) (before now : Told) (wanted given : ℕ) (ahead content : List ℕ)
    → HasFramed asked head before.given (going ahead (body.Counted wanted) given) content → Stays before now → IsFramedFront asked head (stream_of now) content
counted_front asked head before now wanted given ahead content has stays = record {
  framing = framing.Counted wanted;
  bytes = content;
  after = ahead ++ now.left;
  begins =
      let more = content_more has.begins now.left in
      subst (BeginsContent asked (stream_of now) head (framing.Counted wanted)) (ap (λ t. t ++ now.left) has.holds.0 ∙ append_assoc content ahead now.left)
      (subst (λ (g : List ℕ). BeginsContent asked (g ++ now.left) head (framing.Counted wanted) (has.bytes ++ now.left)) (sym stays.given) more);
  brings = (refl, has.holds.1);
  limit = has.limit;
}

pub counted_short : (asked : Wanted) (head : ResponseHead) (before now : Told) (wanted given : ℕ) (old new buffer content : List ℕ)
    → HasFramed asked head before.given (going old (body.Counted wanted) given) content → given < wanted → Nexts before now old new buffer 0
    → IsFramedShort asked head (stream_of now) content (Some wanted)
counted_short asked head before now wanted given old new buffer content has lacks next =
    let over = next.ended refl in
    let rest = moved_on has.bytes content old next.piece [] new has.holds.0 next.moved ∙ ap (λ t. (content ++ []) ++ t) over.1
    ∙ append-nil (content ++ []) ∙ append-nil content in
    record {
      framing = framing.Counted wanted;
      rest = content;
      begins =
          subst (λ (s : List ℕ). BeginsContent asked s head (framing.Counted wanted) content) (sym (at_end now over.0))
          (subst (BeginsContent asked now.given head (framing.Counted wanted)) rest (given_more has.begins next.piece next.given));
      short = (refl, omega (arith, has.count, lacks), refl);
      limit = has.limit;
    }

-- ---- to the connection's end

pub to_end_on : (asked : Wanted) (head : ResponseHead) (before now : Told) (given n : ℕ) (old new buffer content : List ℕ)
    → HasFramed asked head before.given (going old body.ToEnd given) content → Nexts before now old new buffer n
    → n ≤ length buffer → given + n ≤ most_content
    → HasFramed asked head now.given (going new body.ToEnd (given + n)) (content ++ take n buffer)
to_end_on asked head before now given n old new buffer content has next within keeps =
    let count = count_on content buffer n given has.count within in
    let begins = given_more has.begins next.piece next.given in
    let moved = moved_on has.bytes content old next.piece (take n buffer) new has.holds next.moved in
    let most : length (content ++ take n buffer) ≤ most_content = omega (arith, count, keeps) in
    record {
      bytes = has.bytes ++ next.piece;
      begins = begins;
      holds = moved;
      count = count;
      limit = most;
      unbroken = refl;
      front = to_end_at new begins moved most;
    }

pub to_end_front : (asked : Wanted) (head : ResponseHead) (before now : Told) (given : ℕ) (ahead content : List ℕ)
    → HasFramed asked head before.given (going ahead body.ToEnd given) content → Stays before now → IsFramedFront asked head (stream_of now) content
to_end_front asked head before now given ahead content has stays = record {
  framing = framing.ToEnd;
  bytes = content;
  after = ahead ++ now.left;
  begins =
      let more = content_more has.begins now.left in
      subst (BeginsContent asked (stream_of now) head framing.ToEnd) (ap (λ t. t ++ now.left) has.holds ∙ append_assoc content ahead now.left)
      (subst (λ (g : List ℕ). BeginsContent asked (g ++ now.left) head framing.ToEnd (has.bytes ++ now.left)) (sym stays.given) more);
  brings = refl;
  limit = has.limit;
}

-- at the end all that came was given
pub to_end_whole : (asked : Wanted) (head : ResponseHead) (now : Told) (given : ℕ) (content : List ℕ)
    → HasFramed asked head now.given (going [] body.ToEnd given) content → now.left ≡ [] → IsFramedWhole asked head (stream_of now) content
to_end_whole asked head now given content has over = record {
  framing = framing.ToEnd;
  rest = has.bytes;
  begins = subst (λ (s : List ℕ). BeginsContent asked s head framing.ToEnd has.bytes) (sym (at_end now over)) has.begins;
  whole = has.holds ∙ append-nil content;
  limit = has.limit;
}

-- where none came it is the end
pub to_end_ends : (asked : Wanted) (head : ResponseHead) (before now : Told) (given : ℕ) (old new buffer content : List ℕ)
    → HasFramed asked head before.given (going old body.ToEnd given) content → Nexts before now old new buffer 0
    → IsFramedWhole asked head (stream_of now) content × HasFramed asked head now.given (going new body.ToEnd given) content
to_end_ends asked head before now given old new buffer content has next =
    let over = next.ended refl in
    let read : HasFramed asked head now.given (going new body.ToEnd given) content = record {
      bytes = has.bytes ++ next.piece;
      begins = given_more has.begins next.piece next.given;
      holds = moved_on has.bytes content old next.piece [] new has.holds next.moved ∙ ap (λ t. t ++ new) (append-nil content);
      count = has.count;
      limit = has.limit;
      unbroken = refl;
      front = front_grown has.front next.piece next.given;
    } in
    (to_end_whole asked head now given content (subst (λ (a : List ℕ). HasFramed asked head now.given (going a body.ToEnd given) content) over.1 read) over.0, read)

-- one byte more than a content may have
pub to_end_full : (asked : Wanted) (head : ResponseHead) (now : Told) (given : ℕ) (ahead content : List ℕ)
    → HasFramed asked head now.given (going ahead body.ToEnd given) content → given ≡ most_content → 0 < length ahead → IsFramedOver asked head (stream_of now) content
to_end_full asked head now given [] content has full some = absurd (omega (arith, some))
to_end_full asked head now given (more ∷ ahead) content has full some = record {
  framing = framing.ToEnd;
  bytes = content ++ more ∷ [];
  after = ahead ++ now.left;
  begins =
      subst (BeginsContent asked (stream_of now) head framing.ToEnd)
      (ap (λ t. t ++ now.left) (has.holds ∙ sym (append_assoc content (more ∷ []) ahead)) ∙ append_assoc (content ++ more ∷ []) ahead now.left)
      (content_more has.begins now.left);
  more = more;
  brings = refl;
  full = sym has.count ∙ full;
}

-- what came behind a content that has as many bytes as one may have
pub to_end_grown : (asked : Wanted) (head : ResponseHead) (before now : Told) (given n : ℕ) (old new content : List ℕ)
    → HasFramed asked head before.given (going old body.ToEnd given) content → Grows before now old new n
    → HasFramed asked head now.given (going new body.ToEnd given) content
to_end_grown asked head before now given n old new content has grows = record {
  bytes = has.bytes ++ grows.piece;
  begins = given_more has.begins grows.piece grows.given;
  holds = ap (λ t. t ++ grows.piece) has.holds ∙ append_assoc content old grows.piece ∙ ap (λ t. content ++ t) (sym grows.ahead);
  count = has.count;
  limit = has.limit;
  unbroken = refl;
  front = front_grown has.front grows.piece grows.given;
}

-- the answer at the end of a content that has as many bytes as one may have
pub end_says : (asked : Wanted) (head : ResponseHead) (before now : Told) (given : ℕ) (old new : List ℕ) (result : Result Got Cause) (buffer content : List ℕ)
    → given ≡ most_content → HasFramed asked head before.given (going old body.ToEnd given) content → IfOk result (λ answer. answer ≡ got.End)
    → ((content : List ℕ) → HasFramed asked head before.given (going old body.ToEnd most_content) content → EndSays asked head now (going new body.ToEnd most_content) result content)
    → FramedSays asked head now (settled (going new body.ToEnd given) result) result buffer content
end_says asked head before now given old new result buffer content full has no_bytes says =
    of_case result no_bytes (says content (subst (λ (n : ℕ). HasFramed asked head before.given (going old body.ToEnd n) content) full has))
  where
    of_case : (result : Result Got Cause) → IfOk result (λ answer. answer ≡ got.End) → EndSays asked head now (going new body.ToEnd most_content) result content
        → FramedSays asked head now (settled (going new body.ToEnd given) result) result buffer content
    of_case (Ok (got.Bytes n)) no_bytes said = absurd said
    of_case (Ok got.End) no_bytes said = (said.0, subst (λ (n : ℕ). HasFramed asked head now.given (going new body.ToEnd n) content) (sym full) said.1)
    of_case (Err cause) no_bytes said = (said, refl)
