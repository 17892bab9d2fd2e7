-- What begins a text is told by it: numbers, repetitions, the parts of a range, the unit.
use Rattle.std.proofs.Common.{◌≡◌, ℕ, ◌<◌, ◌≤◌, Bool, true, false, List, [], ◌∷◌, ◌++◌, map, codes, length, take, drop, Option, Some, None, refl, sym, ap, ◌∙◌, subst, arith}
use Rattle.std.specs.Prelude.{IfSome}
use Rattle.std.specs.List.{flat_map, AllByRecursion, IsSplitAt}
use Rattle.std.specs.Char.{is_ascii_digit, to_ascii_lowercase}
use Rattle.std.proofs.lemmas.List.{append-nil, append_assoc, take_at, drop_at, length-map, length-append}
use Rattle.std.proofs.lemmas.Bool.Decides.{nat_tests}
use Rattle.dm_types.specs.Bytes.{is_blank, Each, Stops, Cuts}
use Rattle.dm_tag.specs.Number.{decimal, IsNumber, BeginsNumber}
use Rattle.dm_tag.specs.Range.{IsTotal, IsPart, IsUnsatisfied, IsRange, IsContentRange}
use Rattle.dm_tag.specs.Units.{BeginsUnit, IsBytesUnit}
use Rattle.dm_tag.specs.declared.range.ContentRange.{ContentRange}
use Rattle.dm_tag.specs.declared.range.ContentRange.TheVariants.{Part, Unsatisfied}
use Rattle.dm_tag.specs.Length.{Repeat, spelled, Repeats, BeginsRepeat, IsTail, IsLength}
use Rattle.dm_tag.proofs.CutLemmas.{cons_tail, run_one}

-- parts of one length
pub same_parts : (a b x y : List ℕ) → length a ≡ length b → a ++ x ≡ b ++ y → (a ≡ b) × (x ≡ y)
same_parts a b x y len e = (
  sym (take_at a x (length b) len) ∙ ap (take (length b)) e ∙ take_at b y (length b) refl,
  sym (drop_at a x (length b) len) ∙ ap (drop (length b)) e ∙ drop_at b y (length b) refl,
)

pub cut_one : (kind : ℕ → Bool) (bytes a b x y : List ℕ) → Cuts kind bytes a x → Cuts kind bytes b y → (a ≡ b) × (x ≡ y)
cut_one kind bytes a b x y p q = run_one kind a b x y p.each q.each p.stops q.stops (sym p.parts ∙ q.parts)

-- ---- units

-- a unit has five letters
pub unit_length : (unit : List ℕ) → map to_ascii_lowercase unit ≡ codes "bytes" → length unit ≡ 5
unit_length unit h = sym (length-map unit to_ascii_lowercase) ∙ ap length h

-- the five bytes that were cut off are the unit
pub unit_cut : (bytes u r rest : List ℕ) → IsSplitAt bytes 5 u r → (begins : BeginsUnit bytes rest) → (u ≡ begins.unit) × (r ≡ rest)
unit_cut bytes u r rest cut begins =
    let len = unit_length begins.unit begins.is_bytes in
    (cut.1 ∙ ap (take 5) begins.parts ∙ take_at begins.unit rest 5 len, cut.2 ∙ ap (drop 5) begins.parts ∙ drop_at begins.unit rest 5 len)

pub unit_one : (bytes x y : List ℕ) → BeginsUnit bytes x → BeginsUnit bytes y → x ≡ y
unit_one bytes x y a b = (same_parts a.unit b.unit x y (unit_length a.unit a.is_bytes ∙ sym (unit_length b.unit b.is_bytes)) (sym a.parts ∙ b.parts)).1

lower_b : (u : ℕ) → to_ascii_lowercase u ≡ 98 → is_blank u ≡ false
lower_b u h = grind (arith, nat_tests)

heads : (a b : ℕ) (x y : List ℕ) → a ∷ x ≡ b ∷ y → a ≡ b
heads a b x y e = cc

unit_stops : (unit rest : List ℕ) → map to_ascii_lowercase unit ≡ codes "bytes" → Stops is_blank (unit ++ rest)
unit_stops [] rest h = absurd cc
unit_stops (u ∷ us) rest h = lower_b u (heads (to_ascii_lowercase u) 98 (map to_ascii_lowercase us) (codes "ytes") h)

-- a unit with blanks round it, read from the left
pub record UnitSteps (piece : List ℕ) : Type 0 where
  pub before : List ℕ
  pub unit : List ℕ
  pub after : List ℕ
  pub first : Cuts is_blank piece before unit
  pub begins : BeginsUnit unit after
  pub blank : Each is_blank after

pub unit_steps : (piece : List ℕ) → IsBytesUnit piece → UnitSteps piece
unit_steps piece u = record {
  before = u.before;
  unit = u.unit ++ u.after;
  after = u.after;
  first = record { parts = u.parts; each = u.blank_before; stops = unit_stops u.unit u.after u.bytes };
  begins = record { unit = u.unit; parts = refl; is_bytes = u.bytes };
  blank = u.blank_after;
}

pub unit_from : (piece before unit after : List ℕ) → Cuts is_blank piece before unit → BeginsUnit unit after → Each is_blank after → IsBytesUnit piece
unit_from piece before unit after first begins blank = record {
  before = before;
  unit = begins.unit;
  after = after;
  parts = first.parts ∙ ap (λ (x : List ℕ). before ++ x) begins.parts;
  blank_before = first.each;
  bytes = begins.is_bytes;
  blank_after = blank;
}

pub unit_after : (piece before unit after : List ℕ) → Cuts is_blank piece before unit → BeginsUnit unit after → IsBytesUnit piece → Each is_blank after
unit_after piece before unit after first begins u =
    let s = unit_steps piece u in
    let same = cut_one is_blank piece s.before before s.unit unit s.first first in
    subst (Each is_blank) (unit_one unit s.after after (subst (λ (x : List ℕ). BeginsUnit x s.after) same.1 s.begins) begins) s.blank

pub unit_none : (piece before unit : List ℕ) → Cuts is_blank piece before unit → ((rest : List ℕ) → BeginsUnit unit rest → ⊥) → IsBytesUnit piece → ⊥
unit_none piece before unit first none u =
    let s = unit_steps piece u in
    let same = cut_one is_blank piece s.before before s.unit unit s.first first in
    none s.after (subst (λ (x : List ℕ). BeginsUnit x s.after) same.1 s.begins)

-- ---- numbers

pub number_one : (bytes : List ℕ) (m n : ℕ) (x y : List ℕ) → BeginsNumber bytes m x → BeginsNumber bytes n y → (m ≡ n) × (x ≡ y)
number_one bytes m n x y a b =
    let same = run_one is_ascii_digit a.digits b.digits x y a.number.each b.number.each a.stops b.stops (sym a.parts ∙ b.parts) in
    (a.number.value ∙ ap decimal same.0 ∙ sym b.number.value, same.1)

pub whole_begins : (bytes : List ℕ) (n : ℕ) → IsNumber bytes n → BeginsNumber bytes n []
whole_begins bytes n h = record { digits = bytes; number = h; parts = sym (append-nil bytes); stops = tt }

-- the digits that a cut gave are those of the number
pub cut_digits_is : (bytes digits rest : List ℕ) (n : ℕ) (r : List ℕ) → Cuts is_ascii_digit bytes digits rest → BeginsNumber bytes n r → (0 < length digits) × (length digits ≤ 19)
cut_digits_is bytes digits rest n r cut b =
    let same = run_one is_ascii_digit digits b.digits rest r cut.each b.number.each cut.stops b.stops (sym cut.parts ∙ b.parts) in
    (subst (λ (x : List ℕ). 0 < length x) (sym same.0) b.number.some, subst (λ (x : List ℕ). length x ≤ 19) (sym same.0) b.number.most)

-- ---- ranges

pub total_one : (text : List ℕ) (a b : Option ℕ) → IsTotal text a → IsTotal text b → a ≡ b
total_one text None None p q = refl
total_one text None (Some n) p q = absurd (no_star n (subst (λ (x : List ℕ). IsNumber x n) p q))
  where
    no_star : (n : ℕ) → IsNumber (codes "*") n → ⊥
    no_star n h = absurd cc
total_one text (Some n) None p q = absurd (no_star n (subst (λ (x : List ℕ). IsNumber x n) q p))
  where
    no_star : (n : ℕ) → IsNumber (codes "*") n → ⊥
    no_star n h = absurd cc
total_one text (Some m) (Some n) p q = ap (λ (k : ℕ). Some k) (p.value ∙ sym q.value)

pub lawful_same : (first f last l : ℕ) (total t : Option ℕ) → first ≡ f → last ≡ l → total ≡ t → f ≤ l → IfSome t (λ k. l < k) → (first ≤ last) × IfSome total (λ k. last < k)
lawful_same first f last l total t p q r order below =
    (omega arith, subst (λ (o : Option ℕ). IfSome o (λ k. last < k)) (sym r) (subst (λ (n : ℕ). IfSome t (λ k. n < k)) (sym q) below))

-- a range, read from the left
pub record PartSteps (text : List ℕ) (first last : ℕ) (total : Option ℕ) : Type 0 where
  pub after_first : List ℕ
  pub after_last : List ℕ
  pub is_first : BeginsNumber text first (45 ∷ after_first)
  pub is_last : BeginsNumber after_first last (47 ∷ after_last)
  pub is_total : IsTotal after_last total
  pub in_order : first ≤ last
  pub below : IfSome total (λ t. last < t)

pub steps_of : (text : List ℕ) (first last : ℕ) (total : Option ℕ) → IsPart text first last total → PartSteps text first last total
steps_of text first last total p = record {
  after_first = p.last_text ++ 47 ∷ p.total_text;
  after_last = p.total_text;
  is_first = record { digits = p.first_text; number = p.is_first; parts = p.parts; stops = refl };
  is_last = record { digits = p.last_text; number = p.is_last; parts = refl; stops = refl };
  is_total = p.is_total;
  in_order = p.in_order;
  below = p.below;
}

-- ---- repetitions

comma_longer : (before more rest : List ℕ) → length rest < length ((before ++ 44 ∷ more) ++ rest)
comma_longer before more rest = let whole = length-append (before ++ 44 ∷ more) rest in let front = length-append before (44 ∷ more) in omega arith

pub repeat_shorter : (n : ℕ) (bytes rest : List ℕ) → BeginsRepeat n bytes rest → length rest < length bytes
repeat_shorter n bytes rest b = subst (λ (x : List ℕ). length rest < length x) (sym b.parts) (comma_longer b.again.before (b.again.after ++ b.again.digits) rest)

digit_no_blank : (d : ℕ) → is_ascii_digit d ≡ true → is_blank d ≡ false
digit_no_blank d h = grind (arith, nat_tests)

blank_no_digit : (b : ℕ) → is_blank b ≡ true → is_ascii_digit b ≡ false
blank_no_digit b h = grind (arith, nat_tests)

digits_stop : (digits rest : List ℕ) (n : ℕ) → IsNumber digits n → Stops is_blank (digits ++ rest)
digits_stop [] rest n h = absurd (omega (arith, h.some))
digits_stop (d ∷ ds) rest n h = digit_no_blank d h.each.0

-- a repetition, read from the left
pub record RepeatSteps (n : ℕ) (bytes rest : List ℕ) : Type 0 where
  pub before : List ℕ
  pub after_comma : List ℕ
  pub after : List ℕ
  pub digits : List ℕ
  pub first : Cuts is_blank bytes before (44 ∷ after_comma)
  pub second : Cuts is_blank after_comma after digits
  pub number : BeginsNumber digits n rest

pub repeat_steps : (n : ℕ) (bytes rest : List ℕ) → BeginsRepeat n bytes rest → RepeatSteps n bytes rest
repeat_steps n bytes rest b =
    let again = b.again in
    let more : (again.after ++ again.digits) ++ rest ≡ again.after ++ (again.digits ++ rest) = append_assoc again.after again.digits rest in
    record {
      before = again.before;
      after_comma = again.after ++ (again.digits ++ rest);
      after = again.after;
      digits = again.digits ++ rest;
      first = record {
        parts = b.parts ∙ append_assoc again.before (44 ∷ (again.after ++ again.digits)) rest ∙ ap (λ (x : List ℕ). again.before ++ 44 ∷ x) more;
        each = b.repeats.before;
        stops = refl;
      };
      second = record { parts = refl; each = b.repeats.after; stops = digits_stop again.digits rest n b.repeats.number };
      number = record { digits = again.digits; number = b.repeats.number; parts = refl; stops = b.stops };
    }

pub repeat_from : (n : ℕ) (bytes before after_comma after digits rest : List ℕ) → Cuts is_blank bytes before (44 ∷ after_comma) → Cuts is_blank after_comma after digits → BeginsNumber digits n rest → BeginsRepeat n bytes rest
repeat_from n bytes before after_comma after digits rest first second number = record {
  again = record { before = before; after = after; digits = number.digits };
  repeats = record { before = first.each; after = second.each; number = number.number };
  parts =
      first.parts ∙ ap (λ (x : List ℕ). before ++ 44 ∷ x) (second.parts ∙ ap (λ (x : List ℕ). after ++ x) number.parts ∙ sym (append_assoc after number.digits rest))
      ∙ sym (append_assoc before (44 ∷ (after ++ number.digits)) rest);
  stops = number.stops;
}

repeat_one : (n : ℕ) (bytes x y : List ℕ) → BeginsRepeat n bytes x → BeginsRepeat n bytes y → x ≡ y
repeat_one n bytes x y a b =
    let p = repeat_steps n bytes x a in
    let q = repeat_steps n bytes y b in
    let comma = cons_tail 44 p.after_comma q.after_comma (cut_one is_blank bytes p.before q.before _ _ p.first q.first).1 in
    let digits = (cut_one is_blank q.after_comma p.after q.after p.digits q.digits (subst (λ (z : List ℕ). Cuts is_blank z p.after p.digits) comma p.second) q.second).1 in
    (number_one q.digits n n x y (subst (λ (z : List ℕ). BeginsNumber z n x) digits p.number) q.number).1

spelled_stops : (n : ℕ) (again : Repeat) (rest : List ℕ) → Repeats n again → Stops is_ascii_digit (spelled again ++ rest)
spelled_stops n again rest h = go again.before h.before
  where
    go : (before : List ℕ) → Each is_blank before → Stops is_ascii_digit ((before ++ 44 ∷ (again.after ++ again.digits)) ++ rest)
    go [] each = refl
    go (b ∷ bs) each = blank_no_digit b each.0

repeats_stop : (n : ℕ) (repeats : List Repeat) → AllByRecursion (Repeats n) repeats → Stops is_ascii_digit (flat_map spelled repeats)
repeats_stop n [] h = tt
repeats_stop n (again ∷ repeats) h = spelled_stops n again (flat_map spelled repeats) h.0

pub tail_stops : (n : ℕ) (bytes : List ℕ) → IsTail n bytes → Stops is_ascii_digit bytes
tail_stops n bytes h = subst (Stops is_ascii_digit) (sym h.text) (repeats_stop n h.repeats h.each)

pub tail_nil : (n : ℕ) → IsTail n []
tail_nil n = record { repeats = []; each = tt; text = refl }

-- a repetition, and a tail
pub tail_cons : (n : ℕ) (bytes rest : List ℕ) → BeginsRepeat n bytes rest → IsTail n rest → IsTail n bytes
tail_cons n bytes rest b h = record { repeats = b.again ∷ h.repeats; each = (b.repeats, h.each); text = b.parts ∙ ap (λ (x : List ℕ). spelled b.again ++ x) h.text }

tail_parts : (n : ℕ) (bytes : List ℕ) (repeats : List Repeat) → AllByRecursion (Repeats n) repeats → bytes ≡ flat_map spelled repeats → (bytes ≡ [] → ⊥) → (rest : List ℕ) × BeginsRepeat n bytes rest × IsTail n rest
tail_parts n bytes [] each text some = absurd (some text)
tail_parts n bytes (again ∷ repeats) each text some =
    (flat_map spelled repeats, record { again = again; repeats = each.0; parts = text; stops = repeats_stop n repeats each.1 }, record { repeats = repeats; each = each.1; text = refl })

pub tail_begins : (n : ℕ) (bytes : List ℕ) → IsTail n bytes → (bytes ≡ [] → ⊥) → (rest : List ℕ) × BeginsRepeat n bytes rest × IsTail n rest
tail_begins n bytes h some = tail_parts n bytes h.repeats h.each h.text some

spelled_some : (before more rest : List ℕ) → (before ++ 44 ∷ more) ++ rest ≡ [] → ⊥
spelled_some [] more rest e = absurd cc
spelled_some (b ∷ before) more rest e = absurd cc

pub repeat_some : (n : ℕ) (bytes rest : List ℕ) → BeginsRepeat n bytes rest → bytes ≡ [] → ⊥
repeat_some n bytes rest b e = spelled_some b.again.before (b.again.after ++ b.again.digits) rest (sym b.parts ∙ e)

pub tail_rest : (n : ℕ) (bytes rest : List ℕ) → BeginsRepeat n bytes rest → IsTail n bytes → IsTail n rest
tail_rest n bytes rest b h =
    let parts = tail_begins n bytes h (repeat_some n bytes rest b) in
    subst (IsTail n) (repeat_one n bytes parts.0 rest parts.1 b) parts.2

-- a length, read from the left
pub length_begins : (value : List ℕ) (n : ℕ) → IsLength value n → (tail : List ℕ) × BeginsNumber value n tail × IsTail n tail
length_begins value n h = (h.tail, record { digits = h.digits; number = h.number; parts = h.text; stops = tail_stops n h.tail h.is_tail }, h.is_tail)

pub length_from : (value : List ℕ) (n : ℕ) (tail : List ℕ) → BeginsNumber value n tail → IsTail n tail → IsLength value n
length_from value n tail b h = record { digits = b.digits; tail = tail; number = b.number; is_tail = h; text = b.parts }

-- what the tail of a length is, where its number was read
pub length_tail : (value : List ℕ) (m n : ℕ) (rest : List ℕ) → BeginsNumber value m rest → IsLength value n → IsTail m rest
length_tail value m n rest begins is =
    let b = length_begins value n is in
    let one = number_one value m n rest b.0 begins b.1 in
    subst (λ (k : ℕ). IsTail k rest) (sym one.0) (subst (IsTail n) (sym one.1) b.2)

-- ---- the unit of a range

pub range_text : (value rest : List ℕ) (range : ContentRange) → BeginsUnit value rest → (is : IsContentRange value range) → rest ≡ 32 ∷ is.text
range_text value rest range begins is = unit_one value rest (32 ∷ is.text) begins (record { unit = is.unit; parts = is.parts; is_bytes = is.bytes })

pub range_none : (text : List ℕ) (range : ContentRange) → ((total : ℕ) → IsUnsatisfied text total → ⊥) → ((first last : ℕ) (total : Option ℕ) → IsPart text first last total → ⊥) → IsRange text range → ⊥
range_none text (Part first last total) u p h = p first last total h
range_none text (Unsatisfied total) u p h = u total h
