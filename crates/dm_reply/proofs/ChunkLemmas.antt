-- Content that comes in chunks, against the whole stream.
use Rattle.std.proofs.Common.{◌≡◌, ℕ, ◌+◌, ◌-◌, ◌<◌, ◌≤◌, List, [], ◌∷◌, ◌++◌, length, take, drop, slice_range, None, refl, sym, ap, ◌∙◌, subst, arith, append_assoc, length-append, length-drop, get_or}
use Rattle.std.proofs.lemmas.List.{append-nil, length-take-le, take-append-drop, drop-drop}
use Rattle.dm_chunk.specs.Grammar.{IsChunked}
use Rattle.dm_chunk.specs.Fronts.{IsFrontOf, IsBadChunked}
use Rattle.dm_chunk.specs.declared.Chunks.{Chunks}
use Rattle.dm_chunk.specs.declared.Step.{Step}
use Rattle.dm_chunk.specs.declared.Step.TheVariants as steps
use Rattle.dm_chunk.specs.Decoded.{HasDecoded, Decodes}
use Rattle.dm_chunk.proofs.Texts.{chunked_more}
use Rattle.dm_chunk.proofs.LawLemmas.{bad_more}
use Rattle.dm_edge.specs.Wire.{Told, stream_of}
use Rattle.dm_edge.specs.declared.framing.Framing.TheVariants as framing
use Rattle.httparse.specs.Grammar.{ResponseHead}
use Rattle.dm_edge.specs.declared.wanted.Wanted.{Wanted}
use Rattle.dm_edge.specs.Begins.{BeginsContent, most_content}
use Rattle.dm_edge.specs.Reply.{IsFramedWhole, IsFramedFront, IsFramedShort, IsFramedBadly, IsFramedOver}
use Rattle.dm_reply.specs.declared.body.Body.TheVariants as body
use Rattle.dm_reply.specs.Ahead.{Grows, Stays}
use Rattle.dm_reply.specs.Content.{HasFramed}
use Rattle.dm_reply.specs.Unfinished.{IsFramedUnfinished}
use Rattle.dm_reply.specs.Steps.{going}
use Rattle.dm_reply.proofs.StreamLemmas.{content_more, given_more, front_grown, at_end}

-- a step's answer over what lies ahead, whatever was read and given before
abbrev pub Steps : Chunks → Chunks → List ℕ → Step → Type 0
Steps old new ahead step = (read content : List ℕ) → HasDecoded read content old → Decodes read content ahead step new

-- ---- the body is whole

pub chunks_end : (asked : Wanted) (head : ResponseHead) (told : Told) (given count : ℕ) (old new : Chunks) (ahead content : List ℕ)
    → HasFramed asked head told.given (going ahead (body.Chunked old) given) content → Steps old new ahead (steps.End count)
    → IsFramedWhole asked head (stream_of told) content × HasFramed asked head told.given (going (drop count ahead) (body.Chunked new) given) content
chunks_end asked head told given count old new ahead content has step =
    let chunks = has.holds in
    let said = step chunks.read content chunks.decoded in (
      record {
        framing = framing.Chunked;
        rest = has.bytes ++ told.left;
        begins = content_more has.begins told.left;
        whole = (
          drop count ahead ++ told.left,
          chunked_more has.bytes content (drop count ahead) told.left (subst (λ (t : List ℕ). IsChunked t content (drop count ahead)) (sym chunks.parts) said.0),
        );
        limit = has.limit;
      },
      record {
        bytes = has.bytes;
        begins = has.begins;
        holds = record {
          read = chunks.read ++ take count ahead;
          parts = chunks.parts ∙ ap (λ t. chunks.read ++ t) (sym (take-append-drop count ahead)) ∙ sym (append_assoc chunks.read (take count ahead) (drop count ahead));
          decoded = said.1;
        };
        count = has.count;
        limit = has.limit;
        unbroken = refl;
        front = has.front;
      },
    )

-- ---- no chunk goes on so

pub chunks_broken : (asked : Wanted) (head : ResponseHead) (told : Told) (given : ℕ) (old new : Chunks) (ahead content : List ℕ)
    → HasFramed asked head told.given (going ahead (body.Chunked old) given) content → Steps old new ahead steps.Broken
    → IsFramedBadly asked head (stream_of told) content
chunks_broken asked head told given old new ahead content has step =
    let chunks = has.holds in
    let said = step chunks.read content chunks.decoded in
    record {
      rest = has.bytes ++ told.left;
      begins = content_more has.begins told.left;
      bad = bad_more has.bytes content told.left (subst (λ (t : List ℕ). IsBadChunked t content) (sym chunks.parts) said.0);
      limit = has.limit;
    }

-- ---- data

-- the data at a place ahead, and what is before and behind it
data_at : (ahead : List ℕ) (from count : ℕ) → slice_range ahead from (from + count) ≡ take count (drop from ahead)
data_at ahead from count =
    let some : (from + count) - from ≡ count = omega arith in
    ap (λ k. take k (drop from ahead)) some

chunks_data : (asked : Wanted) (head : ResponseHead) (told : Told) (given from count : ℕ) (old new : Chunks) (ahead content buffer : List ℕ)
    → HasFramed asked head told.given (going ahead (body.Chunked old) given) content → Steps old new ahead (steps.Data from count)
    → from + count ≤ length ahead → given + count ≤ most_content → take count buffer ≡ take count (drop from ahead)
    → HasFramed asked head told.given (going (drop count (drop from ahead)) (body.Chunked new) (given + count)) (content ++ take count buffer)
chunks_data asked head told given from count old new ahead content buffer has step within keeps copied =
    let chunks = has.holds in
    let said = step chunks.read content chunks.decoded in
    let told_data = data_at ahead from count ∙ sym copied in
    let size = ap length copied in
    let sum : given + count ≡ length (content ++ take count buffer) =
    omega (arith, has.count, length-append content (take count buffer), size, length-take-le count (drop from ahead) (omega (arith, length-drop from ahead))) in
    record {
      bytes = has.bytes;
      begins = has.begins;
      holds = record {
        read = chunks.read ++ take (from + count) ahead;
        parts = chunks.parts ∙ ap (λ t. chunks.read ++ t) (sym (take-append-drop (from + count) ahead))
            ∙ sym (append_assoc chunks.read (take (from + count) ahead) (drop (from + count) ahead))
            ∙ ap (λ t. (chunks.read ++ take (from + count) ahead) ++ t) (behind_data ahead from count);
        decoded = subst (λ (t : List ℕ). HasDecoded (chunks.read ++ take (from + count) ahead) (content ++ t) new) told_data said.1;
      };
      count = sum;
      limit = omega (arith, sum, keeps);
      unbroken = refl;
      front = record {
        framing = framing.Chunked;
        bytes = chunks.read ++ take (from + count) ahead;
        after = drop (from + count) ahead;
        begins = subst (BeginsContent asked told.given head framing.Chunked)
            (chunks.parts ∙ ap (λ t. chunks.read ++ t) (sym (take-append-drop (from + count) ahead))
            ∙ sym (append_assoc chunks.read (take (from + count) ahead) (drop (from + count) ahead)))
            has.begins;
        brings = subst (λ (t : List ℕ). IsFrontOf (chunks.read ++ take (from + count) ahead) (content ++ t)) told_data said.0;
        limit = omega (arith, sum, keeps);
      };
    }
  where
    behind_data : (ahead : List ℕ) (from count : ℕ) → drop (from + count) ahead ≡ drop count (drop from ahead)
    behind_data ahead from count =
        sym (drop-drop count from ahead)

-- the data was given, and what is behind it lies ahead
pub chunks_given : (asked : Wanted) (head : ResponseHead) (told : Told) (given from count : ℕ) (old new : Chunks) (ahead behind content buffer : List ℕ)
    → HasFramed asked head told.given (going ahead (body.Chunked old) given) content → Steps old new ahead (steps.Data from count)
    → from + count ≤ length ahead → given + count ≤ most_content
    → take count buffer ≡ take count (drop from ahead) → behind ≡ drop count (drop from ahead)
    → HasFramed asked head told.given (going behind (body.Chunked new) (given + count)) (content ++ take count buffer)
chunks_given asked head told given from count old new ahead behind content buffer has step within keeps copied left =
    subst (λ (a : List ℕ). HasFramed asked head told.given (going a (body.Chunked new) (given + count)) (content ++ take count buffer)) (sym left)
    (chunks_data asked head told given from count old new ahead content buffer has step within keeps copied)

first : (xs : List ℕ) → 0 < length xs → take 1 xs ≡ get_or xs 0 0 ∷ []
first [] some = absurd (omega (arith, some))
first (x ∷ xs) some = refl

-- one byte more than a content may have
pub chunks_full : (asked : Wanted) (head : ResponseHead) (told : Told) (given from count : ℕ) (old new : Chunks) (ahead content : List ℕ)
    → HasFramed asked head told.given (going ahead (body.Chunked old) given) content → Steps old new ahead (steps.Data from count)
    → from + count ≤ length ahead → count ≡ 1 → given ≡ most_content
    → IsFramedOver asked head (stream_of told) content
chunks_full asked head told given from count old new ahead content has step within one full =
    let chunks = has.holds in
    let said = step chunks.read content chunks.decoded in
    let bytes = chunks.read ++ take (from + count) ahead in
    let byte = get_or (drop from ahead) 0 0 in
    let only = data_at ahead from count ∙ ap (λ k. take k (drop from ahead)) one ∙ first (drop from ahead) (omega (arith, length-drop from ahead)) in
    record {
      framing = framing.Chunked;
      bytes = bytes;
      after = drop (from + count) ahead ++ told.left;
      begins = subst (BeginsContent asked (stream_of told) head framing.Chunked)
          (ap (λ t. t ++ told.left) (chunks.parts ∙ ap (λ t. chunks.read ++ t) (sym (take-append-drop (from + count) ahead))
          ∙ sym (append_assoc chunks.read (take (from + count) ahead) (drop (from + count) ahead)))
          ∙ append_assoc bytes (drop (from + count) ahead) told.left)
          (content_more has.begins told.left);
      more = byte;
      brings = subst (λ (t : List ℕ). IsFrontOf bytes (content ++ t)) only said.0;
      full = sym has.count ∙ full;
    }

-- ---- more is needed

-- all that is ahead was framing
pub chunks_more : (asked : Wanted) (head : ResponseHead) (told : Told) (given : ℕ) (old new : Chunks) (ahead content : List ℕ)
    → HasFramed asked head told.given (going ahead (body.Chunked old) given) content → Steps old new ahead steps.More
    → HasFramed asked head told.given (going [] (body.Chunked new) given) content
chunks_more asked head told given old new ahead content has step =
    let chunks = has.holds in
    let said = step chunks.read content chunks.decoded in
    record {
      bytes = has.bytes;
      begins = has.begins;
      holds = record { read = chunks.read ++ ahead; parts = chunks.parts ∙ sym (append-nil (chunks.read ++ ahead)); decoded = said.1 };
      count = has.count;
      limit = has.limit;
      unbroken = refl;
      front = has.front;
    }

-- what came then lies ahead
pub chunks_grown : (asked : Wanted) (head : ResponseHead) (before now : Told) (given n : ℕ) (old new : Chunks) (ahead more content : List ℕ)
    → HasFramed asked head before.given (going ahead (body.Chunked old) given) content → Steps old new ahead steps.More → Grows before now [] more n
    → HasFramed asked head now.given (going more (body.Chunked new) given) content
chunks_grown asked head before now given n old new ahead more content has step grows =
    let rest = chunks_more asked head before given old new ahead content has step in
    let chunks = rest.holds in
    record {
      bytes = rest.bytes ++ grows.piece;
      begins = given_more rest.begins grows.piece grows.given;
      holds = record {
        read = chunks.read;
        parts = ap (λ t. t ++ grows.piece) (chunks.parts ∙ append-nil chunks.read) ∙ ap (λ t. chunks.read ++ t) (sym grows.ahead);
        decoded = chunks.decoded;
      };
      count = has.count;
      limit = has.limit;
      unbroken = refl;
      front = front_grown has.front grows.piece grows.given;
    }

-- the bytes so far are a front of a body
chunks_front : (asked : Wanted) (head : ResponseHead) (given : List ℕ) (n : ℕ) (old new : Chunks) (ahead content : List ℕ)
    → (has : HasFramed asked head given (going ahead (body.Chunked old) n) content) → Steps old new ahead steps.More → IsFrontOf has.bytes content
chunks_front asked head given n old new ahead content has step =
    let chunks = has.holds in
    subst (λ (t : List ℕ). IsFrontOf t content) (sym chunks.parts) (step chunks.read content chunks.decoded).0

pub chunks_stopped : (asked : Wanted) (head : ResponseHead) (before now : Told) (given : ℕ) (old new : Chunks) (ahead content : List ℕ)
    → HasFramed asked head before.given (going ahead (body.Chunked old) given) content → Steps old new ahead steps.More → Stays before now
    → IsFramedFront asked head (stream_of now) content
chunks_stopped asked head before now given old new ahead content has step stays = record {
  framing = framing.Chunked;
  bytes = has.bytes;
  after = now.left;
  begins = subst (λ (g : List ℕ). BeginsContent asked (g ++ now.left) head framing.Chunked (has.bytes ++ now.left)) (sym stays.given) (content_more has.begins now.left);
  brings = chunks_front asked head before.given given old new ahead content has step;
  limit = has.limit;
}

-- all that came is a front, and was read
pub chunks_unfinished : (asked : Wanted) (head : ResponseHead) (before now : Told) (given : ℕ) (old new : Chunks) (ahead content : List ℕ)
    → HasFramed asked head before.given (going ahead (body.Chunked old) given) content → Steps old new ahead steps.More → Stays before now
    → IsFramedUnfinished asked head now.given content
chunks_unfinished asked head before now given old new ahead content has step stays = record {
  framing = framing.Chunked;
  bytes = has.bytes;
  begins = subst (λ (g : List ℕ). BeginsContent asked g head framing.Chunked has.bytes) (sym stays.given) has.begins;
  brings = chunks_front asked head before.given given old new ahead content has step;
  lacks = tt;
}

pub chunks_short : (asked : Wanted) (head : ResponseHead) (before now : Told) (given : ℕ) (old new : Chunks) (ahead more content : List ℕ)
    → HasFramed asked head before.given (going ahead (body.Chunked old) given) content → Steps old new ahead steps.More → Grows before now [] more 0
    → IsFramedShort asked head (stream_of now) content None
chunks_short asked head before now given old new ahead more content has step grows = record {
  framing = framing.Chunked;
  rest = has.bytes;
  begins = subst (λ (s : List ℕ). BeginsContent asked s head framing.Chunked has.bytes)
      (sym (at_end now (grows.ended refl) ∙ grows.given ∙ ap (λ t. before.given ++ t) (none grows.piece grows.size) ∙ append-nil before.given)) has.begins;
  short = (chunks_front asked head before.given given old new ahead content has step, refl);
  limit = has.limit;
}
  where
    none : (xs : List ℕ) → length xs ≡ 0 → xs ≡ []
    none [] e = refl
    none (x ∷ xs) e = absurd (omega (arith, e))
