-- A byte before what may stand behind the next place, and what it leads from.
use Rattle.std.proofs.Common.{◌≡◌, ℕ, zero, suc, ◌+◌, ◌-◌, ◌*◌, ◌^◌, ◌<◌, ◌≤◌, Bool, true, false, cond, eqb, ltb, ◌&&◌, List, [], ◌∷◌, ◌++◌, length, add-zero, refl, sym, ap, ◌∙◌, subst, arith}
use Rattle.std.specs.Char.{digit_value}
use Rattle.std.proofs.lemmas.Bool.{eqb-true, ltb-true}
use Rattle.dm_types.specs.Bytes.{is_blank}
use Rattle.dm_chunk.specs.Bytes.{is_hex, hexadecimal}
use Rattle.dm_chunk.specs.Grammar.{section_text}
use Rattle.dm_chunk.specs.Machine.{after, brings, behind_size, digit_taken, no_digit, opened, data_goes, data_brings, spend}
use Rattle.dm_chunk.specs.declared.place.Place.{Place}
use Rattle.dm_chunk.specs.declared.place.Place.TheVariants.{Digits, Blanks, Extension, LineEnd, Data, DataEnd, TrailerStart, Trailer, TrailerEnd, LastEnd, Done, Broken}
use Rattle.dm_chunk.proofs.ListLemmas.{head_is, tail_is, both_true, line_byte_from}
use Rattle.dm_chunk.proofs.Places.{Behind, Section, Unbroken, InTrailer, Sized, InLineEnd, InExtension, InBlanks, InDigits, InDataEnd, From, if_from, unspent}
use Rattle.dm_chunk.proofs.Bodies.{whole_of_digits}
use Rattle.dm_chunk.proofs.Forward.{small_more, hex_more, NoBreak, no_break_first, no_break_second, section_regroup, section_length}

-- ---- places that can be reached

abbrev pub Sound : Place → Type 0
Sound (Digits count size) = (count ≤ 15) × (size < 16 ^ count)
Sound (Blanks size spare) = Unit {0}
Sound (Extension size spare) = Unit {0}
Sound (LineEnd size) = Unit {0}
Sound (Data left) = Unit {0}
Sound DataEnd = Unit {0}
Sound (TrailerStart spare) = Unit {0}
Sound (Trailer spare) = Unit {0}
Sound (TrailerEnd spare) = Unit {0}
Sound (LastEnd spare) = Unit {0}
Sound Done = Unit {0}
Sound Broken = Unit {0}

sound_if : (x : Bool) (p q : Place) → (x ≡ true → Sound p) → (x ≡ false → Sound q) → Sound (cond x p q)
sound_if true p q on off = on refl
sound_if false p q on off = off refl

sound_spend : (spare count : ℕ) (place : ℕ → Place) → Sound (place (spare - count)) → Sound (spend spare count place)
sound_spend spare count place s = sound_if (ltb spare count) Broken (place (spare - count)) (λ _. tt) (λ _. s)

sound_digit : (count size digit : ℕ) → (count ≤ 15) × (size < 16 ^ count) → digit < 16 → Sound (digit_taken count size digit)
sound_digit count size digit s lt =
    sound_if (ltb count 15 && ltb size (2 ^ 60)) (Digits (count + 1) (16 * size + digit)) Broken
    (λ h. let below = ltb-true count 15 (both_true (ltb count 15) (ltb size (2 ^ 60)) h).0 in (omega arith, small_more count size digit s.1 lt))
    (λ _. tt)

sound_behind : (size spare b : ℕ) → Sound (behind_size size spare b)
sound_behind size spare b =
    sound_if (eqb b 13) (LineEnd size) _ (λ _. tt) (λ _.
    sound_if (is_blank b) (spend spare 1 (Blanks size)) _ (λ _. sound_spend spare 1 (Blanks size) tt) (λ _.
    sound_if (eqb b 59) (spend spare 1 (Extension size)) Broken (λ _. sound_spend spare 1 (Extension size) tt) (λ _. tt)))

sound_opened : (size : ℕ) → Sound (opened size)
sound_opened zero = tt
sound_opened (suc size) = tt

sound_data : (left b : ℕ) → Sound (data_goes left b)
sound_data zero b = sound_if (eqb b 13) DataEnd Broken (λ _. tt) (λ _. tt)
sound_data (suc left) b = tt

pub sound_after : (p : Place) (b : ℕ) → Sound p → Sound (after p b)
sound_after (Digits count size) b s =
    sound_if (is_hex b) (digit_taken count size (digit_value b)) (no_digit count size b)
    (λ h. sound_digit count size (digit_value b) s (ltb-true (digit_value b) 16 h))
    (λ _. sound_if (eqb count 0) Broken (behind_size size (16382 - count) b) (λ _. tt) (λ _. sound_behind size (16382 - count) b))
sound_after (Blanks size spare) b s = sound_behind size spare b
sound_after (Extension size spare) b s =
    sound_if (eqb b 13) (LineEnd size) _ (λ _. tt) (λ _. sound_if (eqb b 10) Broken (spend spare 1 (Extension size)) (λ _. tt) (λ _. sound_spend spare 1 (Extension size) tt))
sound_after (LineEnd size) b s = sound_if (eqb b 10) (opened size) Broken (λ _. sound_opened size) (λ _. tt)
sound_after (Data left) b s = sound_data left b
sound_after DataEnd b s = sound_if (eqb b 10) (Digits 0 0) Broken (λ _. (omega arith, omega arith)) (λ _. tt)
sound_after (TrailerStart spare) b s = sound_if (eqb b 13) (LastEnd spare) (spend spare 3 Trailer) (λ _. tt) (λ _. sound_spend spare 3 Trailer tt)
sound_after (Trailer spare) b s = sound_if (eqb b 13) (TrailerEnd spare) (spend spare 1 Trailer) (λ _. tt) (λ _. sound_spend spare 1 Trailer tt)
sound_after (TrailerEnd spare) b s =
    sound_if (eqb b 10) (TrailerStart spare) _ (λ _. tt) (λ _.
    sound_if (eqb b 13) (spend spare 1 TrailerEnd) (spend spare 2 Trailer) (λ _. sound_spend spare 1 TrailerEnd tt) (λ _. sound_spend spare 2 Trailer tt))
sound_after (LastEnd spare) b s =
    sound_if (eqb b 10) Done _ (λ _. tt) (λ _.
    sound_if (eqb b 13) (spend spare 3 TrailerEnd) (spend spare 4 Trailer) (λ _. sound_spend spare 3 TrailerEnd tt) (λ _. sound_spend spare 4 Trailer tt))
sound_after Done b s = tt
sound_after Broken b s = tt

-- ---- chunk lines

opened_back : (n : ℕ) (w content : List ℕ) → From (opened n) w content → Sized n w content
opened_back zero w content s = s
opened_back (suc n) w content s = s

-- this byte and then the text
starts : (b c : ℕ) (w : List ℕ) → eqb b c ≡ true → ◌≡◌ {A = List ℕ} (b ∷ w) (c ∷ w)
starts b c w h = ap (λ (x : ℕ). x ∷ w) (eqb-true b c h)

line_end_back : (n b : ℕ) (w content : List ℕ) → From (after (LineEnd n) b) w content → InLineEnd n (b ∷ w) content
line_end_back n b w content f =
    if_from (eqb b 10) (opened n) Broken w content (InLineEnd n (b ∷ w) content) f
    (λ h g. record { rest = w; parts = starts b 10 w h; follows = opened_back n w content g })
    (λ h g. absurd g)

data_end_back : (b : ℕ) (w content : List ℕ) → From (after DataEnd b) w content → InDataEnd (b ∷ w) content
data_end_back b w content f =
    if_from (eqb b 10) (Digits 0 0) Broken w content (InDataEnd (b ∷ w) content) f
    (λ h g. record { rest = w; parts = starts b 10 w h; follows = whole_of_digits w content g })
    (λ h g. absurd g)

data_back : (left b : ℕ) (w content : List ℕ) → From (data_goes left b) w content → Behind left (b ∷ w) (data_brings left b ++ content)
data_back zero b w content f =
    if_from (eqb b 13) DataEnd Broken w content (Behind zero (b ∷ w) content) f
    (λ h g. record { bytes = []; more = g.rest; rest = content; parts = starts b 13 w h ∙ ap (λ (x : List ℕ). 13 ∷ x) g.parts; size_is = refl; follows = g.follows; joined = refl })
    (λ h g. absurd g)
data_back (suc left) b w content f = record {
  bytes = b ∷ f.bytes;
  more = f.more;
  rest = f.rest;
  parts = ap (λ (x : List ℕ). b ∷ x) f.parts;
  size_is = ap suc f.size_is;
  follows = f.follows;
  joined = ap (λ (x : List ℕ). b ∷ x) f.joined;
}

extension_back : (n spare b : ℕ) (w content : List ℕ) → From (after (Extension n spare) b) w content → InExtension n spare (b ∷ w) content
extension_back n spare b w content f =
    if_from (eqb b 13) (LineEnd n) (cond (eqb b 10) Broken (spend spare 1 (Extension n))) w content (InExtension n spare (b ∷ w) content) f
    (λ h g. record { bytes = []; rest = g.rest; each = tt; parts = starts b 13 w h ∙ ap (λ (x : List ℕ). 13 ∷ x) g.parts; within = omega arith; follows = g.follows })
    (λ h g. if_from (eqb b 10) Broken (spend spare 1 (Extension n)) w content (InExtension n spare (b ∷ w) content) g (λ i k. absurd k) (λ i k.
    let u = unspent spare 1 (Extension n) w content k in
    let e = u.follows in
    let sum = u.sum in
    let within = e.within in
    record { bytes = b ∷ e.bytes; rest = e.rest; each = (line_byte_from b h i, e.each); parts = ap (λ (x : List ℕ). b ∷ x) e.parts; within = omega arith; follows = e.follows }))

behind_back : (n spare b : ℕ) (w content : List ℕ) → From (behind_size n spare b) w content → InBlanks n spare (b ∷ w) content
behind_back n spare b w content f =
    if_from (eqb b 13) (LineEnd n) (cond (is_blank b) (spend spare 1 (Blanks n)) (cond (eqb b 59) (spend spare 1 (Extension n)) Broken)) w content (InBlanks n spare (b ∷ w) content) f
    (λ h g. record { blanks = []; extension = []; rest = g.rest; each = tt; is = tt; parts = starts b 13 w h ∙ ap (λ (x : List ℕ). 13 ∷ x) g.parts; within = omega arith; follows = g.follows })
    (λ h g. if_from (is_blank b) (spend spare 1 (Blanks n)) (cond (eqb b 59) (spend spare 1 (Extension n)) Broken) w content (InBlanks n spare (b ∷ w) content) g
    (λ i k.
    let u = unspent spare 1 (Blanks n) w content k in
    let e = u.follows in
    let sum = u.sum in
    let within = e.within in
    record { blanks = b ∷ e.blanks; extension = e.extension; rest = e.rest; each = (i, e.each); is = e.is; parts = ap (λ (x : List ℕ). b ∷ x) e.parts; within = omega arith; follows = e.follows })
    (λ i k. if_from (eqb b 59) (spend spare 1 (Extension n)) Broken w content (InBlanks n spare (b ∷ w) content) k
    (λ j m.
    let u = unspent spare 1 (Extension n) w content m in
    let e = u.follows in
    let sum = u.sum in
    let within = e.within in
    record { blanks = []; extension = b ∷ e.bytes; rest = e.rest; each = tt; is = (eqb-true b 59 j, e.each); parts = ap (λ (x : List ℕ). b ∷ x) e.parts; within = omega arith; follows = e.follows })
    (λ j m. absurd m)))

-- a digit before others
one_digit : (count size b : ℕ) (w content : List ℕ) → is_hex b ≡ true → InDigits (count + 1) (16 * size + digit_value b) w content → (count ≤ 15) × (size < 16 ^ count) → InDigits count size (b ∷ w) content
one_digit count size b w content hex d s =
    let some = d.some in
    let most = d.most in
    let k : ℕ = length d.digits in
    let next : ℕ = 16 * size + digit_value b in
    let sum : 16382 - (count + 1 + k) ≡ 16382 - (count + suc k) = omega arith in
    record {
      digits = b ∷ d.digits;
      behind = d.behind;
      each = (hex, d.each);
      some = omega arith;
      most = omega arith;
      small = s.1;
      parts = ap (λ (x : List ℕ). b ∷ x) d.parts;
      follows =
          subst (λ (n : ℕ). InBlanks n (16382 - (count + suc k)) d.behind content) (sym (hex_more size (digit_value b) k (hexadecimal d.digits)))
          (subst (λ (n : ℕ). InBlanks (next * 16 ^ k + hexadecimal d.digits) n d.behind content) sum d.follows);
    }

-- no digit more
last_digit : (count size b : ℕ) (w content : List ℕ) → eqb count 0 ≡ false → InBlanks size (16382 - count) (b ∷ w) content → (count ≤ 15) × (size < 16 ^ count) → InDigits count size (b ∷ w) content
last_digit count size b w content some f s =
    let size_is : size ≡ size * 16 ^ 0 + 0 = omega arith in
    let below = s.0 in
    record {
      digits = [];
      behind = b ∷ w;
      each = tt;
      some = above count some;
      most = omega arith;
      small = s.1;
      parts = refl;
      follows = subst (λ (n : ℕ). InBlanks (size * 16 ^ 0 + 0) (16382 - n) (b ∷ w) content) (sym (add-zero count)) (subst (λ (n : ℕ). InBlanks n (16382 - count) (b ∷ w) content) size_is f);
    }
  where
    above : (c : ℕ) → eqb c 0 ≡ false → 0 < c + 0
    above zero e = absurd cc
    above (suc c) e = omega arith

digits_back : (count size b : ℕ) (w content : List ℕ) → (count ≤ 15) × (size < 16 ^ count) → From (after (Digits count size) b) w content → InDigits count size (b ∷ w) content
digits_back count size b w content s f =
    if_from (is_hex b) (digit_taken count size (digit_value b)) (no_digit count size b) w content (InDigits count size (b ∷ w) content) f
    (λ h g. if_from (ltb count 15 && ltb size (2 ^ 60)) (Digits (count + 1) (16 * size + digit_value b)) Broken w content (InDigits count size (b ∷ w) content) g
    (λ i k. one_digit count size b w content h k s)
    (λ i k. absurd k))
    (λ h g. if_from (eqb count 0) Broken (behind_size size (16382 - count) b) w content (InDigits count size (b ∷ w) content) g
    (λ i k. absurd k)
    (λ i k. last_digit count size b w content i (behind_back size (16382 - count) b w content k) s))

-- ---- trailers

unbroken_more : (b : ℕ) (bytes w v : List ℕ) → NoBreak b w → w ≡ bytes ++ v → Unbroken bytes → Unbroken (b ∷ bytes)
unbroken_more b bytes w v whole e unbroken [] behind h =
    let first = head_is b 13 bytes (10 ∷ behind) h in
    let rest = tail_is b 13 bytes (10 ∷ behind) h in
    whole (behind ++ v) (ap (λ (x : ℕ). x ∷ w) first ∙ ap (λ (x : List ℕ). 13 ∷ x) (e ∙ ap (λ (x : List ℕ). x ++ v) rest))
unbroken_more b bytes w v whole e unbroken (x ∷ before) behind h = unbroken before behind (tail_is b x bytes (before ++ 13 ∷ 10 ∷ behind) h)

-- one byte more in a trailer line
add_byte : (left b : ℕ) (w content : List ℕ) → NoBreak b w → InTrailer left w content → InTrailer (1 + left) (b ∷ w) content
add_byte left b w content whole h =
    let within = h.within in
    record {
      bytes = b ∷ h.bytes;
      lines = h.lines;
      unbroken = unbroken_more b h.bytes w (13 ∷ 10 ∷ section_text h.lines) whole h.parts h.unbroken;
      each = h.each;
      parts = ap (λ (x : List ℕ). b ∷ x) h.parts;
      within = omega arith;
      none = h.none;
    }

-- and its first one
begin_line : (left b : ℕ) (w content : List ℕ) → NoBreak b w → InTrailer left w content → Section (3 + left) (b ∷ w) content
begin_line left b w content whole h =
    let within = h.within in
    let len = section_length (b ∷ h.bytes) h.lines in
    record {
      lines = (b ∷ h.bytes) ∷ h.lines;
      each = (record { some = omega arith; unbroken = unbroken_more b h.bytes w (13 ∷ 10 ∷ section_text h.lines) whole h.parts h.unbroken }, h.each);
      parts = ap (λ (x : List ℕ). b ∷ x) h.parts ∙ sym (section_regroup (b ∷ h.bytes) h.lines);
      within = omega arith;
      none = h.none;
    }

start_back : (spare b : ℕ) (w content : List ℕ) → From (after (TrailerStart spare) b) w content → Section spare (b ∷ w) content
start_back spare b w content f =
    if_from (eqb b 13) (LastEnd spare) (spend spare 3 Trailer) w content (Section spare (b ∷ w) content) f
    (λ h g. subst (λ (x : ℕ). Section spare (x ∷ w) content) (sym (eqb-true b 13 h)) g)
    (λ h g.
    let u = unspent spare 3 Trailer w content g in
    subst (λ (n : ℕ). Section n (b ∷ w) content) (sym u.sum) (begin_line u.left b w content (no_break_first b w h) u.follows))

trailer_back : (spare b : ℕ) (w content : List ℕ) → From (after (Trailer spare) b) w content → InTrailer spare (b ∷ w) content
trailer_back spare b w content f =
    if_from (eqb b 13) (TrailerEnd spare) (spend spare 1 Trailer) w content (InTrailer spare (b ∷ w) content) f
    (λ h g. subst (λ (x : ℕ). InTrailer spare (x ∷ w) content) (sym (eqb-true b 13 h)) g)
    (λ h g.
    let u = unspent spare 1 Trailer w content g in
    subst (λ (n : ℕ). InTrailer n (b ∷ w) content) (sym u.sum) (add_byte u.left b w content (no_break_first b w h) u.follows))

-- the line ends here
close_line : (spare : ℕ) (w content : List ℕ) → Section spare w content → InTrailer spare (13 ∷ 10 ∷ w) content
close_line spare w content s =
    let within = s.within in
    record {
      bytes = [];
      lines = s.lines;
      unbroken = unbroken_none;
      each = s.each;
      parts = ap (λ (x : List ℕ). 13 ∷ 10 ∷ x) s.parts;
      within = omega arith;
      none = s.none;
    }
  where
    unbroken_none : Unbroken []
    unbroken_none [] behind e = absurd cc
    unbroken_none (x ∷ before) behind e = absurd cc

trailer_end_back : (spare b : ℕ) (w content : List ℕ) → From (after (TrailerEnd spare) b) w content → InTrailer spare (13 ∷ b ∷ w) content
trailer_end_back spare b w content f =
    if_from (eqb b 10) (TrailerStart spare) (cond (eqb b 13) (spend spare 1 TrailerEnd) (spend spare 2 Trailer)) w content (InTrailer spare (13 ∷ b ∷ w) content) f
    (λ h g. subst (λ (x : ℕ). InTrailer spare (13 ∷ x ∷ w) content) (sym (eqb-true b 10 h)) (close_line spare w content g))
    (λ h g. if_from (eqb b 13) (spend spare 1 TrailerEnd) (spend spare 2 Trailer) w content (InTrailer spare (13 ∷ b ∷ w) content) g
    (λ i k.
    let u = unspent spare 1 TrailerEnd w content k in
    let one = subst (λ (x : ℕ). InTrailer u.left (x ∷ w) content) (sym (eqb-true b 13 i)) u.follows in
    subst (λ (n : ℕ). InTrailer n (13 ∷ b ∷ w) content) (sym u.sum) (add_byte u.left 13 (b ∷ w) content (no_break_second 13 b w h) one))
    (λ i k.
    let u = unspent spare 2 Trailer w content k in
    let one = add_byte u.left b w content (no_break_first b w i) u.follows in
    let sum : 1 + (1 + u.left) ≡ spare = let s = u.sum in omega arith in
    subst (λ (n : ℕ). InTrailer n (13 ∷ b ∷ w) content) sum (add_byte (1 + u.left) 13 (b ∷ w) content (no_break_second 13 b w h) one)))

last_back : (spare b : ℕ) (w content : List ℕ) → From (after (LastEnd spare) b) w content → Section spare (13 ∷ b ∷ w) content
last_back spare b w content f =
    if_from (eqb b 10) Done (cond (eqb b 13) (spend spare 3 TrailerEnd) (spend spare 4 Trailer)) w content (Section spare (13 ∷ b ∷ w) content) f
    (λ h g. record {
      lines = [];
      each = tt;
      parts = ap (λ (x : List ℕ). 13 ∷ x) (starts b 10 w h ∙ ap (λ (x : List ℕ). 10 ∷ x) g.0);
      within = omega arith;
      none = g.1;
    })
    (λ h g. if_from (eqb b 13) (spend spare 3 TrailerEnd) (spend spare 4 Trailer) w content (Section spare (13 ∷ b ∷ w) content) g
    (λ i k.
    let u = unspent spare 3 TrailerEnd w content k in
    let one = subst (λ (x : ℕ). InTrailer u.left (x ∷ w) content) (sym (eqb-true b 13 i)) u.follows in
    subst (λ (n : ℕ). Section n (13 ∷ b ∷ w) content) (sym u.sum) (begin_line u.left 13 (b ∷ w) content (no_break_second 13 b w h) one))
    (λ i k.
    let u = unspent spare 4 Trailer w content k in
    let one = add_byte u.left b w content (no_break_first b w i) u.follows in
    let sum : 3 + (1 + u.left) ≡ spare = let s = u.sum in omega arith in
    subst (λ (n : ℕ). Section n (13 ∷ b ∷ w) content) sum (begin_line (1 + u.left) 13 (b ∷ w) content (no_break_second 13 b w h) one)))

-- ---- by places

pub back : (p : Place) (b : ℕ) (w content : List ℕ) → Sound p → From (after p b) w content → From p (b ∷ w) (brings p b ++ content)
back (Digits count size) b w content s f = digits_back count size b w content s f
back (Blanks size spare) b w content s f = behind_back size spare b w content f
back (Extension size spare) b w content s f = extension_back size spare b w content f
back (LineEnd size) b w content s f = line_end_back size b w content f
back (Data left) b w content s f = data_back left b w content f
back DataEnd b w content s f = data_end_back b w content f
back (TrailerStart spare) b w content s f = start_back spare b w content f
back (Trailer spare) b w content s f = trailer_back spare b w content f
back (TrailerEnd spare) b w content s f = trailer_end_back spare b w content f
back (LastEnd spare) b w content s f = last_back spare b w content f
back Done b w content s f = absurd f
back Broken b w content s f = absurd f
