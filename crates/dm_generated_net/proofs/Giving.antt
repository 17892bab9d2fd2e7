-- What a receive of a generated wire gives: the next bytes of its stream, and none only at the end.
use Rattle.std.proofs.Common.{◌≡◌, ℕ, ◌+◌, ◌-◌, ◌*◌, ◌%◌, ◌^◌, ◌<◌, ◌≤◌, Bool, true, false, cond, List, [], ◌++◌, length, take, drop, min, Ok, refl, sym, ap, ◌∙◌, arith, add-zero, length-append, length-drop}
use Rattle.std.proofs.Math.Seq.{drop-append-add, take-add}
use Rattle.std.specs.Prelude.{nat_le, nat_lt, ◌&&◌}
use Rattle.std.proofs.lemmas.Bool.{cond-true, false≢true, leb-true, ltb-true}
use Rattle.std.proofs.lemmas.List.{drop-append-le, drop-drop, nil_from_length, take-append-drop, take-append-le}
use Rattle.dm_edge.specs.Wire.{Told, Receives}
use Rattle.dm_generated.specs.Content.{bytes_from, size_of}
use Rattle.dm_generated.specs.Replies.{body_of, brought, count_of, first_of, head_of, is_cut, is_reply, stream_with}
use Rattle.dm_generated.specs.declared.reply.Reply.{Reply}
use Rattle.dm_generated.specs.declared.reply.Reply.TheVariants as replies
use Rattle.dm_generated.proofs.Bytes.{bytes_drop, bytes_length, bytes_take}
use Rattle.dm_generated.proofs.Heads.{size_small}
use Rattle.dm_generated.proofs.Printed.{has_part, has_whole}
use Rattle.dm_generated_net.specs.Wired.{GivesNext}

-- nothing is brought of nothing
brings_nothing : (n w : ℕ) → brought n w 0 ≡ 0
brings_nothing n w = by (is_cut w)
  where
    by : (t : Bool) → cond t (min 0 (65536 * (w + 1) + n % 65536)) 0 ≡ 0
    by true = omega arith
    by false = refl

-- no more is brought than there is
pub brought_most : (n w count : ℕ) → brought n w count ≤ count
brought_most n w count = by (is_cut w)
  where
    by : (t : Bool) → cond t (min count (65536 * (w + 1) + n % 65536)) count ≤ count
    by true = omega arith
    by false = omega arith

-- the places and the counts of a reply are small
both : (x y : Bool) → (x && y) ≡ true → (x ≡ true) × (y ≡ true)
both true y e = (refl, e)
both false y e = absurd (false≢true e)

pub first_small : (n : ℕ) (reply : Reply) → is_reply n reply ≡ true → first_of reply < 2 ^ 23
first_small n replies.Nothing good = omega arith
first_small n replies.Whole good = omega arith
first_small n (replies.Part first last) good =
    let parts = both (nat_lt n (2 ^ 32)) (nat_le first last && nat_lt last (size_of n)) good in
    let places = both (nat_le first last) (nat_lt last (size_of n)) parts.1 in
    let order = leb-true first last places.0 in
    let below = ltb-true last (size_of n) places.1 in
    omega (arith, order, below, size_small n)

body_is : (n w : ℕ) (reply : Reply) → body_of n w reply ≡ bytes_from n (first_of reply) (brought n w (count_of n reply))
body_is n w replies.Nothing = ap (bytes_from n 0) (sym (brings_nothing n w))
body_is n w replies.Whole = refl
body_is n w (replies.Part first last) = refl

pub stream_is : (n w : ℕ) (reply : Reply) → is_reply n reply ≡ true → stream_with n w reply ≡ head_of n reply ++ bytes_from n (first_of reply) (brought n w (count_of n reply))
stream_is n w reply good = cond-true (is_reply n reply) (head_of n reply ++ body_of n w reply) [] good ∙ ap (λ (body : List ℕ). head_of n reply ++ body) (body_is n w reply)

pub stream_length : (n w : ℕ) (reply : Reply) → is_reply n reply ≡ true → length (stream_with n w reply) ≡ length (head_of n reply) + brought n w (count_of n reply)
stream_length n w reply good =
    omega (arith, ap length (stream_is n w reply good), length-append (head_of n reply) (bytes_from n (first_of reply) (brought n w (count_of n reply))), bytes_length n (first_of reply) (brought n w (count_of n reply)))

-- a stream is short
pub stream_small : (n w : ℕ) (reply : Reply) → is_reply n reply ≡ true → length (stream_with n w reply) < 2 ^ 32
stream_small n w replies.Nothing good = omega arith
stream_small n w replies.Whole good =
    let head = has_whole n w (ltb-true n (2 ^ 32) good) in
    omega (arith, stream_length n w replies.Whole good, head.final.begins.size, brought_most n w (size_of n), size_small n)
stream_small n w (replies.Part first last) good =
    let parts = both (nat_lt n (2 ^ 32)) (nat_le first last && nat_lt last (size_of n)) good in
    let places = both (nat_le first last) (nat_lt last (size_of n)) parts.1 in
    let below = ltb-true last (size_of n) places.1 in
    let head = has_part n w first last (ltb-true n (2 ^ 32) parts.0) (leb-true first last places.0) below in
    omega (arith, stream_length n w (replies.Part first last) good, head.final.begins.size, brought_most n w (last - first + 1), below, size_small n)

-- bytes of the head
pub by_head : (n w : ℕ) (reply : Reply) (head : List ℕ) (given room count : ℕ) (buffer : List ℕ) → is_reply n reply ≡ true → head ≡ head_of n reply → given < length head
    → count ≡ min room (length (drop given head)) → take count buffer ≡ take count (drop given head) → GivesNext (stream_with n w reply) given room count buffer
by_head n w reply head given room count buffer good is inside size bytes =
    let body = bytes_from n (first_of reply) (brought n w (count_of n reply)) in
    let stream : stream_with n w reply ≡ head ++ body = stream_is n w reply good ∙ ap (λ (xs : List ℕ). xs ++ body) (sym is) in
    let few : given ≤ length head = omega arith in
    let rest : drop given (stream_with n w reply) ≡ drop given head ++ body = ap (drop given) stream ∙ drop-append-le given head body few in
    let left = length-drop given head in
    let long : length (stream_with n w reply) ≡ length head + length body = ap length stream ∙ length-append head body in
    let inner : count ≤ length (drop given head) = omega (arith, size) in
    record {
      fits = omega (arith, size);
      bytes = bytes ∙ sym (take-append-le count (drop given head) body inner) ∙ ap (take count) (sym rest);
      within = omega (arith, size, left, long, inside);
      ended = λ none some. absurd (omega (arith, size, none, some, left, inside));
    }

-- bytes of the content
pub by_body : (n w : ℕ) (reply : Reply) (head : List ℕ) (given at room count : ℕ) (buffer : List ℕ) → is_reply n reply ≡ true → head ≡ head_of n reply → given ≡ length head + at
    → at ≤ brought n w (count_of n reply) → count ≡ min room (brought n w (count_of n reply) - at) → take count buffer ≡ bytes_from n (first_of reply + at) count → GivesNext (stream_with n w reply) given room count buffer
by_body n w reply head given at room count buffer good is place inside size bytes =
    let first = first_of reply in
    let total = brought n w (count_of n reply) in
    let stream : stream_with n w reply ≡ head ++ bytes_from n first total = stream_is n w reply good ∙ ap (λ (xs : List ℕ). xs ++ bytes_from n first total) (sym is) in
    let rest : drop given (stream_with n w reply) ≡ bytes_from n (first + at) (total - at) =
    ap (λ (k : ℕ). drop k (stream_with n w reply)) place ∙ ap (drop (length head + at)) stream ∙ drop-append-add head (bytes_from n first total) at ∙ bytes_drop n first total at inside in
    let long : length (stream_with n w reply) ≡ length head + total = ap length stream ∙ length-append head (bytes_from n first total) ∙ ap (λ (k : ℕ). length head + k) (bytes_length n first total) in
    let inner : count ≤ total - at = omega (arith, size) in
    record {
      fits = omega (arith, size);
      bytes = bytes ∙ sym (bytes_take n (first + at) (total - at) count inner) ∙ ap (take count) (sym rest);
      within = omega (arith, size, place, long, inside);
      ended = λ none some. nil_from_length (drop given (stream_with n w reply)) (omega (arith, ap length rest, bytes_length n (first + at) (total - at), size, none, some));
    }

abbrev pub told_at : ℕ → List ℕ → List ℕ → Told
told_at given stream sent = record { given = take given stream; left = drop given stream; sent = sent }

pub received : (given room n : ℕ) (stream sent buffer : List ℕ) → GivesNext stream given room n buffer → length buffer ≡ room → Receives (told_at given stream sent) (told_at (given + n) stream sent) (Ok n) buffer
received given room n stream sent buffer gives long = record {
  sent = refl;
  given = (
    take-add given n stream ∙ ap (λ xs. take given stream ++ xs) (sym gives.bytes),
    λ _. rw gives.bytes (rw (← drop-drop n given stream) (sym (take-append-drop n (drop given stream)))),
    λ none some. rw (none, add-zero) (gives.ended none (omega (arith, some, long))),
    λ none _. rw (none, add-zero) refl,
  );
}
