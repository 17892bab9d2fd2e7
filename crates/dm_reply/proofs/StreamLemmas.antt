-- What a wire gives goes on under more bytes, and ends with the stream.
use Rattle.std.proofs.Common.{◌≡◌, ℕ, List, [], ◌++◌, sym, ap, ◌∙◌, subst, append_assoc}
use Rattle.std.proofs.lemmas.List.{append-nil}
use Rattle.httparse.specs.Grammar.{ResponseHead}
use Rattle.dm_edge.specs.Wire.{Told, stream_of}
use Rattle.dm_edge.specs.declared.framing.Framing.{Framing}
use Rattle.dm_edge.specs.declared.wanted.Wanted.{Wanted}
use Rattle.dm_edge.specs.Begins.{BeginsContent}
use Rattle.dm_edge.specs.Reply.{IsFramedFront}
use Rattle.dm_head.proofs.PassLemmas.{has_more}

pub content_more : {wanted : Wanted} {stream rest : List ℕ} {head : ResponseHead} {framing : Framing} → BeginsContent wanted stream head framing rest
    → (more : List ℕ) → BeginsContent wanted (stream ++ more) head framing (rest ++ more)
content_more b more = record { has = has_more b.has more; ok = b.ok; good = b.good; fits = b.fits }

-- the same head, where more was given
pub given_more : {wanted : Wanted} {given given2 rest : List ℕ} {head : ResponseHead} {framing : Framing} → BeginsContent wanted given head framing rest
    → (piece : List ℕ) → given2 ≡ given ++ piece → BeginsContent wanted given2 head framing (rest ++ piece)
given_more {wanted} {given} {given2} {rest} {head} {framing} b piece same =
    subst (λ (g : List ℕ). BeginsContent wanted g head framing (rest ++ piece)) (sym same) (content_more b piece)

-- first bytes of a content are so whatever follows
pub front_more : {wanted : Wanted} {head : ResponseHead} {stream content : List ℕ} → IsFramedFront wanted head stream content → (more : List ℕ)
    → IsFramedFront wanted head (stream ++ more) content
front_more {wanted} {head} {stream} {content} f more = record {
  framing = f.framing;
  bytes = f.bytes;
  after = f.after ++ more;
  begins = subst (λ (rest : List ℕ). BeginsContent wanted (stream ++ more) head f.framing rest) (append_assoc f.bytes f.after more) (content_more f.begins more);
  brings = f.brings;
  limit = f.limit;
}

-- and where more was given
pub front_grown : {wanted : Wanted} {head : ResponseHead} {given given2 content : List ℕ} → IsFramedFront wanted head given content → (piece : List ℕ)
    → given2 ≡ given ++ piece → IsFramedFront wanted head given2 content
front_grown {wanted} {head} {given} {given2} {content} f piece same =
    subst (λ (g : List ℕ). IsFramedFront wanted head g content) (sym same) (front_more f piece)

-- the stream of a wire that came to its end
pub at_end : (now : Told) → now.left ≡ [] → stream_of now ≡ now.given
at_end now over = ap (λ t. now.given ++ t) over ∙ append-nil now.given
