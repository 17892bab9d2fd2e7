-- What a reading leaves, by how it ends; and a writing.
use Rattle.std.proofs.Common.{◌≡◌, ◌∙◌, ℕ, ◌+◌, ◌<◌, List, [], ◌++◌, length, take, drop, Ok, Err, refl, sym, ap, subst, append_assoc}
use Rattle.std.proofs.Math.Seq.{take-add}
use Rattle.std.proofs.lemmas.List.{append-nil, take_at}
use Rattle.dm_edge.specs.Wire.{Told, stream_of}
use Rattle.dm_edge.specs.declared.fault.EdgeFault.{EdgeFault}
use Rattle.dm_conns.specs.Conn.{Puts, Reads}
use Rattle.dm_call.specs.declared.request.ApiRequest.{ApiRequest}
use Rattle.dm_hear.specs.Heard.{Hears, IsCut, IsFaultOf, IsRequest}
use Rattle.dm_hear.specs.Held.{Came}
use Rattle.dm_hear.specs.Written.{WritesAll, Wrote}
use Rattle.dm_hear.specs.declared.fault.ApiFault.{ApiFault}
use Rattle.dm_hear.specs.declared.fault.ApiFault.TheVariants as faults

-- n bytes more came
pub came_more : (before mid now : Told) (old new : List ℕ) (filled n : ℕ) → Came before mid (take filled old) → take filled new ≡ take filled old
    → Reads mid now (Ok n) (drop filled new) → Came before now (take (filled + n) new)
came_more before mid now old new filled n came kept reads =
    let front : take (filled + n) new ≡ take filled old ++ take n (drop filled new) = take-add filled n new ∙ ap (λ t. t ++ take n (drop filled new)) kept in
    record {
      given = reads.bytes.given ∙ ap (λ t. t ++ take n (drop filled new)) came.given ∙ append_assoc before.given (take filled old) (take n (drop filled new))
          ∙ ap (λ t. before.given ++ t) (sym front);
      left = came.left ∙ ap (λ t. take filled old ++ t) reads.bytes.left ∙ sym (append_assoc (take filled old) (take n (drop filled new)) now.left)
          ∙ ap (λ t. t ++ now.left) (sym front);
      sent = reads.sent ∙ came.sent;
    }

same_stream : (before now : Told) (front : List ℕ) → Came before now front → stream_of now ≡ stream_of before
same_stream before now front came =
    ap (λ t. t ++ now.left) came.given ∙ append_assoc before.given front now.left ∙ ap (λ t. before.given ++ t) (sym came.left)

pub heard_ok : (before now : Told) (front : List ℕ) (request : ApiRequest) → Came before now front → IsRequest (front ++ now.left) request → Hears before now (Ok request)
heard_ok before now front request came is = record {
  answer = subst (λ (s : List ℕ). IsRequest s request) (sym came.left) is;
  sent = came.sent;
  stream = same_stream before now front came;
}

pub heard_err : (before now : Told) (front : List ℕ) (fault : ApiFault) → Came before now front → IsFaultOf (front ++ now.left) fault → Hears before now (Err fault)
heard_err before now front fault came is = record {
  answer = subst (λ (s : List ℕ). IsFaultOf s fault) (sym came.left) is;
  sent = came.sent;
  stream = same_stream before now front came;
}

-- the source ended there
pub heard_cut : (before mid now : Told) (front buffer : List ℕ) (n : ℕ) → n ≡ 0 → Came before mid front → Reads mid now (Ok n) buffer → 0 < length buffer → IsCut front → Hears before now (Err faults.Cut)
heard_cut before mid now front buffer n none came had some cut =
    let reads = subst (λ (m : ℕ). Reads mid now (Ok m) buffer) none had in
    let left : now.left ≡ [] = sym reads.bytes.left ∙ reads.bytes.end refl some in
    let whole : Came before now front = record {
      given = reads.bytes.given ∙ append-nil mid.given ∙ came.given;
      left = came.left ∙ ap (λ t. front ++ t) reads.bytes.left;
      sent = reads.sent ∙ came.sent;
    } in
    heard_err before now front faults.Cut whole (subst IsCut (sym (ap (λ t. front ++ t) left ∙ append-nil front)) cut)

-- a vector whose slice was written over holds what was written
pub written_over : (new items : List ℕ) (len : ℕ) → length new ≡ length items → length items ≡ len → take len (new ++ drop (length new) items) ≡ new
written_over new items len same is = take_at new (drop (length new) items) len (same ∙ is)

-- ---- writing

pub wrote_more : (before mid now : Told) (bytes rest : List ℕ) (done n : ℕ) → rest ≡ drop done bytes → Wrote before mid (take done bytes) → Puts mid now (Ok n) rest
    → Wrote before now (take (done + n) bytes)
wrote_more before mid now bytes rest done n rest_is wrote puts = record {
  given = puts.given ∙ wrote.given;
  left = puts.left ∙ wrote.left;
  sent = puts.sent ∙ ap (λ t. t ++ take n rest) wrote.sent ∙ append_assoc before.sent (take done bytes) (take n rest)
      ∙ ap (λ t. before.sent ++ t) (ap (λ t. take done bytes ++ take n t) rest_is ∙ sym (take-add done n bytes));
}

pub wrote_err : (before mid now : Told) (bytes rest : List ℕ) (done : ℕ) (fault : EdgeFault) → rest ≡ drop done bytes → Wrote before mid (take done bytes) → Puts mid now (Err fault) rest
    → WritesAll before now (Err fault) bytes
wrote_err before mid now bytes rest done fault rest_is wrote puts = record {
  given = puts.given ∙ wrote.given;
  left = puts.left ∙ wrote.left;
  sent = (
    done + puts.sent.0,
    puts.sent.1 ∙ ap (λ t. t ++ take puts.sent.0 rest) wrote.sent ∙ append_assoc before.sent (take done bytes) (take puts.sent.0 rest)
        ∙ ap (λ t. before.sent ++ t) (ap (λ t. take done bytes ++ take puts.sent.0 t) rest_is ∙ sym (take-add done puts.sent.0 bytes)),
  );
}
