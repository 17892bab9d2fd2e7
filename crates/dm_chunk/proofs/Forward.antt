-- One byte of what may stand behind a place leads to the next place, and the rest may stand behind that.
use Rattle.std.proofs.Common.{◌≡◌, ℕ, zero, suc, ◌+◌, ◌-◌, ◌*◌, ◌^◌, ◌<◌, ◌≤◌, Bool, true, false, eqb, ltb, ◌&&◌, List, [], ◌∷◌, ◌++◌, length, append_assoc, length-append, add-zero, add-one, inl, inr, refl, sym, ap, ◌∙◌, subst, arith}
use Rattle.std.specs.List.{flat_map, AllByRecursion}
use Rattle.std.specs.Char.{digit_value}
use Rattle.std.proofs.lemmas.Bool.{both_ways, eqb-true, eq-eqb, lt-ltb, ltb-true}
use Rattle.std.proofs.Math.Nat.{pow-suc, pow-le-pow_right, mul_assoc, add-mul}
use Rattle.dm_types.specs.Bytes.{is_blank, Each}
use Rattle.dm_chunk.specs.Bytes.{is_line_byte, is_hex, hexadecimal}
use Rattle.dm_chunk.specs.Grammar.{IsExtension, IsTrailer, trailer_text, section_text}
use Rattle.dm_chunk.specs.Machine.{after, brings, behind_size, digit_taken, no_digit, opened, data_goes, data_brings, spend}
use Rattle.dm_chunk.specs.declared.place.Place.{Place}
use Rattle.dm_chunk.specs.declared.place.Place.TheVariants.{Digits, Blanks, Extension, LineEnd, Data, DataEnd, TrailerStart, Trailer, TrailerEnd, LastEnd, Done, Broken}
use Rattle.dm_chunk.proofs.ListLemmas.{head_is, tail_is, blank_is, line_byte_is}
use Rattle.dm_chunk.proofs.Places.{IsWhole, Section, Unbroken, InTrailer, Sized, InLineEnd, InBlanks, InDataEnd, From, from_if, spent}
use Rattle.dm_chunk.proofs.Bodies.{digits_of_whole}

-- the rest stands behind the place, and the front is data
pub record Goes (place : Place) (front w content : List ℕ) : Type 0 where
  pub rest : List ℕ
  pub follows : From place w rest
  pub joined : content ≡ front ++ rest

pub plain : (place : Place) (w content : List ℕ) → From place w content → Goes place [] w content
plain place w content f = record { rest = content; follows = f; joined = refl }

clash : (x : Bool) → x ≡ true → x ≡ false → ⊥
clash x h g = both_ways x g h

-- at this one byte
at_byte : (P : ℕ → List ℕ → Type 0) (b c : ℕ) (w v : List ℕ) → ◌≡◌ {A = List ℕ} (b ∷ w) (c ∷ v) → P c v → P b w
at_byte P b c w v e f =
    subst (λ (x : ℕ). P x w) (sym (head_is b c w v e)) (subst (λ (x : List ℕ). P c x) (sym (tail_is b c w v e)) f)

opened_from : (n : ℕ) (w content : List ℕ) → Sized n w content → From (opened n) w content
opened_from zero w content s = s
opened_from (suc n) w content s = s

line_end_goes : (n b : ℕ) (w content : List ℕ) → InLineEnd n (b ∷ w) content → From (after (LineEnd n) b) w content
line_end_goes n b w content h = at_byte (λ x v. From (after (LineEnd n) x) v content) b 10 w h.rest h.parts (opened_from n h.rest content h.follows)

data_end_goes : (b : ℕ) (w content : List ℕ) → InDataEnd (b ∷ w) content → From (after DataEnd b) w content
data_end_goes b w content h = at_byte (λ x v. From (after DataEnd x) v content) b 10 w h.rest h.parts (digits_of_whole h.rest content h.follows)

data_by : (left : ℕ) (bytes more rest : List ℕ) (b : ℕ) (w content : List ℕ) → length bytes ≡ left → b ∷ w ≡ bytes ++ 13 ∷ 10 ∷ more → IsWhole more rest → content ≡ bytes ++ rest → Goes (data_goes left b) (data_brings left b) w content
data_by zero [] more rest b w content len e f joined =
    subst (λ (x : List ℕ). Goes (data_goes zero b) [] w x) (sym joined) (plain (data_goes zero b) w rest (at_byte (λ x v. From (data_goes zero x) v rest) b 13 w (10 ∷ more) e (record { rest = more; parts = refl; follows = f })))
data_by zero (x ∷ bytes) more rest b w content len e f joined = absurd (omega (arith, len))
data_by (suc left) [] more rest b w content len e f joined = absurd (omega (arith, len))
data_by (suc left) (x ∷ bytes) more rest b w content len e f joined = record {
  rest = bytes ++ rest;
  follows = record { bytes = bytes; more = more; rest = rest; parts = tail_is b x w (bytes ++ 13 ∷ 10 ∷ more) e; size_is = omega (arith, len); follows = f; joined = refl };
  joined = joined ∙ ap (λ (c : ℕ). c ∷ (bytes ++ rest)) (sym (head_is b x w (bytes ++ 13 ∷ 10 ∷ more) e));
}

-- ---- chunk lines

extension_by : (bytes : List ℕ) (n spare b : ℕ) (w rest content : List ℕ) → Each is_line_byte bytes → b ∷ w ≡ bytes ++ 13 ∷ 10 ∷ rest → length bytes ≤ spare → Sized n rest content → From (after (Extension n spare) b) w content
extension_by [] n spare b w rest content each e within f =
    at_byte (λ x v. From (after (Extension n spare) x) v content) b 13 w (10 ∷ rest) e (record { rest = rest; parts = refl; follows = f })
extension_by (x ∷ bytes) n spare b w rest content each e within f =
    let is = line_byte_is x each.0 in
    at_byte (λ y v. From (after (Extension n spare) y) v content) b x w (bytes ++ 13 ∷ 10 ∷ rest) e
    (from_if (eqb x 13) (LineEnd n) _ (bytes ++ 13 ∷ 10 ∷ rest) content (λ h. absurd (clash (eqb x 13) h is.0)) (λ _.
    from_if (eqb x 10) Broken _ (bytes ++ 13 ∷ 10 ∷ rest) content (λ h. absurd (clash (eqb x 10) h is.1)) (λ _.
    spent spare 1 (spare - 1) (Extension n) (bytes ++ 13 ∷ 10 ∷ rest) content (omega arith) (record { bytes = bytes; rest = rest; each = each.1; parts = refl; within = omega arith; follows = f }))))

behind_by : (blanks extension : List ℕ) (n spare b : ℕ) (w rest content : List ℕ) → Each is_blank blanks → IsExtension extension → b ∷ w ≡ blanks ++ (extension ++ 13 ∷ 10 ∷ rest) → length blanks + length extension ≤ spare → Sized n rest content → From (behind_size n spare b) w content
behind_by [] [] n spare b w rest content each is e within f =
    at_byte (λ x v. From (behind_size n spare x) v content) b 13 w (10 ∷ rest) e (record { rest = rest; parts = refl; follows = f })
behind_by [] (x ∷ bytes) n spare b w rest content each is e within f =
    at_byte (λ y v. From (behind_size n spare y) v content) b 59 w (bytes ++ 13 ∷ 10 ∷ rest) (e ∙ ap (λ (y : ℕ). y ∷ (bytes ++ 13 ∷ 10 ∷ rest)) is.0)
    (spent spare 1 (spare - 1) (Extension n) (bytes ++ 13 ∷ 10 ∷ rest) content (omega arith) (record { bytes = bytes; rest = rest; each = is.1; parts = refl; within = omega arith; follows = f }))
behind_by (x ∷ blanks) extension n spare b w rest content each is e within f =
    let v : List ℕ = blanks ++ (extension ++ 13 ∷ 10 ∷ rest) in
    let g : From (Blanks n (spare - 1)) v content = record { blanks = blanks; extension = extension; rest = rest; each = each.1; is = is; parts = refl; within = omega arith; follows = f } in
    let taken = spent spare 1 (spare - 1) (Blanks n) v content (omega arith) g in
    at_byte (λ y u. From (behind_size n spare y) u content) b x w v e (elim (blank_is x each.0) [
      | inl h ↦ subst (λ (y : ℕ). From (behind_size n spare y) v content) (sym h) taken
      | inr h ↦ subst (λ (y : ℕ). From (behind_size n spare y) v content) (sym h) taken
    ])

behind_goes : (n spare b : ℕ) (w content : List ℕ) → InBlanks n spare (b ∷ w) content → From (behind_size n spare b) w content
behind_goes n spare b w content h = behind_by h.blanks h.extension n spare b w h.rest content h.each h.is h.parts h.within h.follows

-- no blank, semicolon or CR is a digit
no_hex_by : (blanks extension : List ℕ) (b : ℕ) (w rest : List ℕ) → Each is_blank blanks → IsExtension extension → b ∷ w ≡ blanks ++ (extension ++ 13 ∷ 10 ∷ rest) → is_hex b ≡ false
no_hex_by [] [] b w rest each is e = ap is_hex (head_is b 13 w (10 ∷ rest) e)
no_hex_by [] (x ∷ bytes) b w rest each is e = ap is_hex (head_is b x w (bytes ++ 13 ∷ 10 ∷ rest) e ∙ is.0)
no_hex_by (x ∷ blanks) extension b w rest each is e =
    let same = head_is b x w (blanks ++ (extension ++ 13 ∷ 10 ∷ rest)) e in
    elim (blank_is x each.0) [ inl h ↦ ap is_hex (same ∙ h) | inr h ↦ ap is_hex (same ∙ h) ]

-- one digit more
spread : (size digit p h : ℕ) → size * (p * 16) + (digit * p + h) ≡ (16 * size + digit) * p + h
spread size digit p h =
    let a : size * (p * 16) ≡ size * p * 16 = sym (mul_assoc size p 16) in
    let b : (16 * size + digit) * p ≡ 16 * size * p + digit * p = add-mul (16 * size) digit p in
    let c : 16 * size * p ≡ 16 * (size * p) = mul_assoc 16 size p in
    omega arith

pub hex_more : (size digit k h : ℕ) → size * 16 ^ suc k + (digit * 16 ^ k + h) ≡ (16 * size + digit) * 16 ^ k + h
hex_more size digit k h = ap (λ (x : ℕ). size * x + (digit * 16 ^ k + h)) (pow-suc 16 k) ∙ spread size digit (16 ^ k) h

pub small_more : (count size digit : ℕ) → size < 16 ^ count → digit < 16 → 16 * size + digit < 16 ^ (count + 1)
small_more count size digit small lt =
    let more : 16 ^ (count + 1) ≡ 16 ^ count * 16 = rw add-one (pow-suc 16 count) in
    omega arith

small_fits : (count size : ℕ) → size < 16 ^ count → count < 15 → size < 2 ^ 60
small_fits count size small lt =
    let least : 0 < 16 = omega arith in
    let short : count ≤ 14 = omega arith in
    let bound = pow-le-pow_right {n = 16} least {i = count} {j = 14} short in
    omega arith

both_from : (x y : Bool) → x ≡ true → y ≡ true → (x && y) ≡ true
both_from x y e f = ap (λ (z : Bool). z && y) e ∙ f

digit_by : (digits behind : List ℕ) (count size b : ℕ) (w content : List ℕ) → Each is_hex digits → 0 < count + length digits → count + length digits ≤ 15 → size < 16 ^ count → b ∷ w ≡ digits ++ behind
    → InBlanks (size * 16 ^ length digits + hexadecimal digits) (16382 - (count + length digits)) behind content → From (after (Digits count size) b) w content
digit_by [] behind count size b w content each some most small e f =
    let size_is : size * 16 ^ 0 + 0 ≡ size = omega arith in
    let g : InBlanks size (16382 - count) (b ∷ w) content =
    subst (λ (x : List ℕ). InBlanks size (16382 - count) x content) (sym e) (subst (λ (n : ℕ). InBlanks n (16382 - count) behind content) size_is (subst (λ (n : ℕ). InBlanks (size * 16 ^ 0 + 0) (16382 - n) behind content) (add-zero count) f)) in
    let other = no_hex_by g.blanks g.extension b w g.rest g.each g.is g.parts in
    from_if (is_hex b) (digit_taken count size (digit_value b)) (no_digit count size b) w content (λ h. absurd (clash (is_hex b) h other)) (λ _.
    from_if (eqb count 0) Broken (behind_size size (16382 - count) b) w content (λ h. absurd (let none = eqb-true count 0 h in omega arith)) (λ _. behind_goes size (16382 - count) b w content g))
digit_by (d ∷ ds) behind count size b w content each some most small e f =
    let v : List ℕ = ds ++ behind in
    let fits = small_fits count size small (omega arith) in
    let digit = ltb-true (digit_value d) 16 each.0 in
    let next : ℕ = 16 * size + digit_value d in
    let sum : 16382 - (count + suc (length ds)) ≡ 16382 - (count + 1 + length ds) = omega arith in
    let g : InBlanks (next * 16 ^ length ds + hexadecimal ds) (16382 - (count + 1 + length ds)) behind content =
    subst (λ (n : ℕ). InBlanks n (16382 - (count + 1 + length ds)) behind content) (hex_more size (digit_value d) (length ds) (hexadecimal ds))
    (subst (λ (n : ℕ). InBlanks (size * 16 ^ suc (length ds) + (digit_value d * 16 ^ length ds + hexadecimal ds)) n behind content) sum f) in
    let q : From (Digits (count + 1) next) v content = record {
      digits = ds;
      behind = behind;
      each = each.1;
      some = omega arith;
      most = omega arith;
      small = small_more count size (digit_value d) small digit;
      parts = refl;
      follows = g;
    } in
    at_byte (λ x u. From (after (Digits count size) x) u content) b d w v e
    (from_if (is_hex d) (digit_taken count size (digit_value d)) (no_digit count size d) v content
    (λ _. from_if (ltb count 15 && ltb size (2 ^ 60)) (Digits (count + 1) next) Broken v content (λ _. q)
    (λ h. absurd (clash (ltb count 15 && ltb size (2 ^ 60)) (both_from (ltb count 15) (ltb size (2 ^ 60)) (lt-ltb count 15 (omega arith)) (lt-ltb size (2 ^ 60) fits)) h)))
    (λ h. absurd (clash (is_hex d) each.0 h)))

-- ---- trailers

-- a byte that begins no CR LF, with what follows it
abbrev pub NoBreak : ℕ → List ℕ → Type 0
NoBreak b w = (v : List ℕ) → b ∷ w ≡ 13 ∷ 10 ∷ v → ⊥

pub no_break_first : (b : ℕ) (w : List ℕ) → eqb b 13 ≡ false → NoBreak b w
no_break_first b w h v e = clash (eqb b 13) (eq-eqb b 13 (head_is b 13 w (10 ∷ v) e)) h

pub no_break_second : (b c : ℕ) (w : List ℕ) → eqb c 10 ≡ false → NoBreak b (c ∷ w)
no_break_second b c w h v e = clash (eqb c 10) (eq-eqb c 10 (head_is c 10 w v (tail_is b 13 (c ∷ w) (10 ∷ v) e))) h

pub section_least : (ls : List (List ℕ)) → 2 ≤ length (section_text ls)
section_least ls = let e = length-append (flat_map trailer_text ls) (13 ∷ 10 ∷ []) in omega arith

pub section_regroup : (l : List ℕ) (ls : List (List ℕ)) → section_text (l ∷ ls) ≡ l ++ 13 ∷ 10 ∷ section_text ls
section_regroup l ls =
    append_assoc (trailer_text l) (flat_map trailer_text ls) (13 ∷ 10 ∷ []) ∙ append_assoc l (13 ∷ 10 ∷ []) (section_text ls)

pub section_length : (l : List ℕ) (ls : List (List ℕ)) → length (section_text (l ∷ ls)) ≡ length l + (2 + length (section_text ls))
section_length l ls =
    let e = ap length (section_regroup l ls) in
    let f = length-append l (13 ∷ 10 ∷ section_text ls) in
    omega arith

-- the rest of a trailer line, with less to spare
record Less (spare count : ℕ) (w content : List ℕ) : Type 0 where
  left : ℕ
  sum : spare ≡ count + left
  follows : InTrailer left w content

-- the bytes of a trailer line, one byte less
pass_by : (bytes : List ℕ) (spare b : ℕ) (w content : List ℕ) (lines : List (List ℕ)) → NoBreak b w → Unbroken bytes → AllByRecursion IsTrailer lines → b ∷ w ≡ bytes ++ 13 ∷ 10 ∷ section_text lines → length bytes + length (section_text lines) ≤ spare + 2 → content ≡ [] → Less spare 1 w content
pass_by [] spare b w content lines whole unbroken each e within none = absurd (whole (section_text lines) e)
pass_by (x ∷ bytes) spare b w content lines whole unbroken each e within none =
    let least : 2 ≤ length (section_text lines) = section_least lines in
    record {
      left = spare - 1;
      sum = omega arith;
      follows = record {
        bytes = bytes;
        lines = lines;
        unbroken = λ before behind h. unbroken (x ∷ before) behind (ap (λ (y : List ℕ). x ∷ y) h);
        each = each;
        parts = tail_is b x w (bytes ++ 13 ∷ 10 ∷ section_text lines) e;
        within = omega arith;
        none = none;
      };
    }

pass : (spare b : ℕ) (w content : List ℕ) → NoBreak b w → InTrailer spare (b ∷ w) content → Less spare 1 w content
pass spare b w content whole h = pass_by h.bytes spare b w content h.lines whole h.unbroken h.each h.parts h.within h.none

-- the first byte of a trailer line
enter_line : (line : List ℕ) (lines : List (List ℕ)) (spare b : ℕ) (w content : List ℕ) → IsTrailer line → AllByRecursion IsTrailer lines → b ∷ w ≡ section_text (line ∷ lines) → length (section_text (line ∷ lines)) ≤ spare + 2 → content ≡ [] → Less spare 3 w content
enter_line [] lines spare b w content is each e within none = absurd (let some = is.some in omega arith)
enter_line (x ∷ bytes) lines spare b w content is each e within none =
    let least : 2 ≤ length (section_text lines) = section_least lines in
    let len = section_length (x ∷ bytes) lines in
    record {
      left = spare - 3;
      sum = omega arith;
      follows = record {
        bytes = bytes;
        lines = lines;
        unbroken = λ before behind h. is.unbroken (x ∷ before) behind (ap (λ (y : List ℕ). x ∷ y) h);
        each = each;
        parts = tail_is b x w (bytes ++ 13 ∷ 10 ∷ section_text lines) (e ∙ section_regroup (x ∷ bytes) lines);
        within = omega arith;
        none = none;
      };
    }

enter_by : (lines : List (List ℕ)) (spare b : ℕ) (w content : List ℕ) → NoBreak b w → AllByRecursion IsTrailer lines → b ∷ w ≡ section_text lines → length (section_text lines) ≤ spare + 2 → content ≡ [] → Less spare 3 w content
enter_by [] spare b w content whole each e within none = absurd (whole [] e)
enter_by (l ∷ ls) spare b w content whole each e within none = enter_line l ls spare b w content each.0 each.1 e within none

enter : (spare b : ℕ) (w content : List ℕ) → NoBreak b w → Section spare (b ∷ w) content → Less spare 3 w content
enter spare b w content whole h = enter_by h.lines spare b w content whole h.each h.parts h.within h.none

-- a line that CR LF begins has no other bytes
breaks : (bytes w v : List ℕ) → Unbroken bytes → ◌≡◌ {A = List ℕ} (13 ∷ 10 ∷ w) (bytes ++ 13 ∷ 10 ∷ v) → (bytes ≡ []) × (w ≡ v)
breaks [] w v unbroken e = (refl, tail_is 10 10 w v (tail_is 13 13 (10 ∷ w) (10 ∷ v) e))
breaks (x ∷ []) w v unbroken e = absurd (let wrong : 10 ≡ 13 = head_is 10 13 w (10 ∷ v) (tail_is 13 x (10 ∷ w) (13 ∷ 10 ∷ v) e) in omega arith)
breaks (x ∷ y ∷ bytes) w v unbroken e =
    let more : List ℕ = bytes ++ 13 ∷ 10 ∷ v in
    let first = head_is 13 x (10 ∷ w) (y ∷ more) e in
    let second = head_is 10 y w more (tail_is 13 x (10 ∷ w) (y ∷ more) e) in
    absurd (unbroken [] bytes (ap (λ (z : ℕ). z ∷ y ∷ bytes) (sym first) ∙ ap (λ (z : ℕ). 13 ∷ z ∷ bytes) (sym second)))

ends_line : (spare : ℕ) (w content : List ℕ) → InTrailer spare (13 ∷ 10 ∷ w) content → Section spare w content
ends_line spare w content h =
    let broken = breaks h.bytes w (section_text h.lines) h.unbroken h.parts in
    let within = h.within in
    record { lines = h.lines; each = h.each; parts = broken.1; within = omega arith; none = h.none }

ends_by : (lines : List (List ℕ)) (w : List ℕ) → AllByRecursion IsTrailer lines → ◌≡◌ {A = List ℕ} (13 ∷ 10 ∷ w) (section_text lines) → w ≡ []
ends_by [] w each e = tail_is 10 10 w [] (tail_is 13 13 (10 ∷ w) (10 ∷ []) e)
ends_by (l ∷ ls) w each e =
    let broken = breaks l w (section_text ls) each.0.unbroken (e ∙ section_regroup l ls) in
    let some = each.0.some in
    let none : length l ≡ 0 = ap length broken.0 in
    absurd (omega arith)

start_goes : (spare b : ℕ) (w content : List ℕ) → Section spare (b ∷ w) content → From (after (TrailerStart spare) b) w content
start_goes spare b w content h =
    from_if (eqb b 13) (LastEnd spare) (spend spare 3 Trailer) w content (λ e. subst (λ (x : ℕ). Section spare (x ∷ w) content) (eqb-true b 13 e) h) (λ e.
    let less = enter spare b w content (no_break_first b w e) h in
    spent spare 3 less.left Trailer w content less.sum less.follows)

trailer_goes : (spare b : ℕ) (w content : List ℕ) → InTrailer spare (b ∷ w) content → From (after (Trailer spare) b) w content
trailer_goes spare b w content h =
    from_if (eqb b 13) (TrailerEnd spare) (spend spare 1 Trailer) w content (λ e. subst (λ (x : ℕ). InTrailer spare (x ∷ w) content) (eqb-true b 13 e) h) (λ e.
    let less = pass spare b w content (no_break_first b w e) h in
    spent spare 1 less.left Trailer w content less.sum less.follows)

trailer_end_goes : (spare b : ℕ) (w content : List ℕ) → InTrailer spare (13 ∷ b ∷ w) content → From (after (TrailerEnd spare) b) w content
trailer_end_goes spare b w content h =
    from_if (eqb b 10) (TrailerStart spare) _ w content (λ e. ends_line spare w content (subst (λ (x : ℕ). InTrailer spare (13 ∷ x ∷ w) content) (eqb-true b 10 e) h)) (λ e.
    let less = pass spare 13 (b ∷ w) content (no_break_second 13 b w e) h in
    from_if (eqb b 13) (spend spare 1 TrailerEnd) (spend spare 2 Trailer) w content
    (λ f. spent spare 1 less.left TrailerEnd w content less.sum (subst (λ (x : ℕ). InTrailer less.left (x ∷ w) content) (eqb-true b 13 f) less.follows))
    (λ f.
    let again = pass less.left b w content (no_break_first b w f) less.follows in
    let first = less.sum in
    let second = again.sum in
    spent spare 2 again.left Trailer w content (omega arith) again.follows))

last_goes : (spare b : ℕ) (w content : List ℕ) → Section spare (13 ∷ b ∷ w) content → From (after (LastEnd spare) b) w content
last_goes spare b w content h =
    from_if (eqb b 10) Done _ w content (λ e. (ends_by h.lines w h.each (ap (λ (x : ℕ). 13 ∷ x ∷ w) (sym (eqb-true b 10 e)) ∙ h.parts), h.none)) (λ e.
    let less = enter spare 13 (b ∷ w) content (no_break_second 13 b w e) h in
    from_if (eqb b 13) (spend spare 3 TrailerEnd) (spend spare 4 Trailer) w content
    (λ f. spent spare 3 less.left TrailerEnd w content less.sum (subst (λ (x : ℕ). InTrailer less.left (x ∷ w) content) (eqb-true b 13 f) less.follows))
    (λ f.
    let again = pass less.left b w content (no_break_first b w f) less.follows in
    let first = less.sum in
    let second = again.sum in
    spent spare 4 again.left Trailer w content (omega arith) again.follows))

-- ---- by places

pub forward : (p : Place) (b : ℕ) (w content : List ℕ) → From p (b ∷ w) content → Goes (after p b) (brings p b) w content
forward (Digits count size) b w content h = plain (after (Digits count size) b) w content (digit_by h.digits h.behind count size b w content h.each h.some h.most h.small h.parts h.follows)
forward (Blanks size spare) b w content h = plain (after (Blanks size spare) b) w content (behind_goes size spare b w content h)
forward (Extension size spare) b w content h = plain (after (Extension size spare) b) w content (extension_by h.bytes size spare b w h.rest content h.each h.parts h.within h.follows)
forward (LineEnd size) b w content h = plain (after (LineEnd size) b) w content (line_end_goes size b w content h)
forward (Data left) b w content h = data_by left h.bytes h.more h.rest b w content h.size_is h.parts h.follows h.joined
forward DataEnd b w content h = plain (after DataEnd b) w content (data_end_goes b w content h)
forward (TrailerStart spare) b w content h = plain (after (TrailerStart spare) b) w content (start_goes spare b w content h)
forward (Trailer spare) b w content h = plain (after (Trailer spare) b) w content (trailer_goes spare b w content h)
forward (TrailerEnd spare) b w content h = plain (after (TrailerEnd spare) b) w content (trailer_end_goes spare b w content h)
forward (LastEnd spare) b w content h = plain (after (LastEnd spare) b) w content (last_goes spare b w content h)
forward Done b w content h = absurd cc
forward Broken b w content h = absurd h
