-- What lies ahead, in the buffer.
use Rattle.std.proofs.Common.{◌≡◌, ℕ, ◌+◌, ◌-◌, ◌<◌, ◌≤◌, List, [], ◌++◌, length, take, drop, slice_range, sym, ap, ◌∙◌, subst, arith, length-drop, append_assoc, Result, Ok, Err, IfOk, MatchResult}
use Rattle.std.proofs.lemmas.List.{append-nil, take-append-le, length-take-le, drop-take, drop-drop}
use Rattle.std.proofs.Math.Seq.{take-append-add}
use borrow.Rule.Slice.PartMut.{put_mid}
use Rattle.dm_edge.specs.Wire.{Told, Receives}
use Rattle.dm_edge.specs.declared.fault.WireFault.{WireFault}
use Rattle.dm_reply.specs.Ahead.{Grows, Stays, Continues}

-- what lies ahead without its first bytes
pub drop_ahead : (xs : List ℕ) (start n end : ℕ) → start + n ≤ end
    → slice_range xs (start + n) end ≡ drop n (slice_range xs start end)
drop_ahead xs start n end h =
    let more : end - start ≡ n + (end - (start + n)) = omega arith in
    sym (ap (λ k. drop n (take k (drop start xs))) more ∙ drop-take n (end - (start + n)) (drop start xs)
    ∙ ap (take (end - (start + n))) (drop-drop n start xs))

-- what was received stands behind what stood there
pub received_behind : (end n : ℕ) (buffer piece : List ℕ) → end ≤ length buffer → n ≤ length piece
    → take (end + n) (put_mid end (length buffer - end) buffer piece) ≡ take end buffer ++ take n piece
received_behind end n buffer piece in_buffer in_piece =
    let front = length-take-le end buffer in_buffer in
    let post = drop (length buffer - end) (drop end buffer) in
    subst (λ (k : ℕ). take (k + n) (take end buffer ++ (piece ++ post)) ≡ take end buffer ++ take n piece) front
    (take-append-add (take end buffer) (piece ++ post) n ∙ ap (λ t. take end buffer ++ t) (take-append-le n piece post in_piece))

pub range_size : (xs : List ℕ) (start end : ℕ) → end ≤ length xs → length (slice_range xs start end) ≡ end - start
range_size xs start end h =
    length-take-le (end - start) (drop start xs) (omega (arith, length-drop start xs))

-- a receive behind so many bytes of a buffer
pub receive_grows : (result : Result ℕ WireFault) (before now : Told) (end : ℕ) (buffer piece : List ℕ)
    → end < length buffer → length piece ≡ length (slice_range buffer end (length buffer)) → Receives before now result piece
    → IfOk result (λ n. n ≤ length (slice_range buffer end (length buffer)))
    → MatchResult result (λ n. Grows before now (take end buffer) (take (end + n) (put_mid end (length buffer - end) buffer piece)) n) (λ _. Stays before now)
receive_grows (Ok n) before now end buffer piece room size got within = record {
  piece = take n piece;
  size = length-take-le n piece (omega (arith, size, within));
  ahead = received_behind end n buffer piece (omega arith) (omega (arith, size, within));
  given = got.given.0;
  ended = λ none. got.given.2 none (omega (arith, size, range_size buffer end (length buffer) (omega arith)));
}
receive_grows (Err fault) before now end buffer piece room size got within = record { given = got.given.0; left = got.given.1 }

pub continues_none : (told : Told) (ahead : List ℕ) → Continues told told ahead ahead
continues_none told ahead = record { piece = []; ahead = sym (append-nil ahead); given = sym (append-nil told.given) }

-- one more receive
pub continues_then : (before first now : Told) (old between new : List ℕ) (n : ℕ) → Continues before first old between → Grows first now between new n
    → Continues before now old new
continues_then before first now old between new n on grows = record {
  piece = on.piece ++ grows.piece;
  ahead = grows.ahead ∙ ap (λ t. t ++ grows.piece) on.ahead ∙ append_assoc old on.piece grows.piece;
  given = grows.given ∙ ap (λ t. t ++ grows.piece) on.given ∙ append_assoc before.given on.piece grows.piece;
}

-- a receive that failed
pub continues_stays : (before first now : Told) (old between new : List ℕ) → Continues before first old between → Stays first now → new ≡ between → Continues before now old new
continues_stays before first now old between new on stays same = record { piece = on.piece; ahead = same ∙ on.ahead; given = stays.given ∙ on.given }
