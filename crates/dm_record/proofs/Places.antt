-- What reading an entry answers, and that it can answer nothing else.
use Rattle.std.proofs.Common.{◌≡◌, ℕ, suc, ◌+◌, ◌-◌, ◌<◌, ◌≤◌, List, [], ◌∷◌, ◌++◌, length, get_or, take, drop, Result, Ok, Err, refl, sym, ap, subst, ◌∙◌, append_assoc, arith, ◌⊎◌, inl, inr, IfOk}
use Rattle.std.proofs.lemmas.List.{take_at, take-append-drop, length-append, length-take, append-nil}
use Rattle.std.proofs.Math.Seq.{take-add}
use Rattle.std.proofs.lemmas.Bool.{cases_lt}
use Rattle.dm_types.specs.declared.entry.Entry.{Entry}
use Rattle.dm_record.specs.declared.fault.RecordFault.{RecordFault}
use Rattle.dm_record.specs.declared.fault.RecordFault.TheVariants as faults
use Rattle.dm_record.specs.declared.fault.Stop.TheVariants as stops
use Rattle.dm_record.specs.Spelling.{spelling_of}
use Rattle.dm_record.specs.Limits.{IsBytes, IsEntry, BeginsWithEntry, BeginsEntry, IsCut, IsBadAt, Answers, UnlessMemory}
use Rattle.dm_record.specs.Reading.{Reading, entry_at, with_place, record_at}
use Rattle.dm_record.proofs.Exact.{Strays, assoc_back, ok_or_err, ok_is}
use Rattle.dm_record.proofs.ExactEntries.{entry_exact}

abbrev Outcome : Type 0
Outcome = Result (Entry × ℕ) RecordFault

pub are_bytes : (bytes : List ℕ) → ((i : ℕ) → get_or bytes i 0 < 256) → IsBytes bytes
are_bytes [] below = tt
are_bytes (b ∷ bytes) below = (below 0, are_bytes bytes (λ i. below (suc i)))

pub rest_within : (bytes : List ℕ) (entry : Entry) (rest : List ℕ) → IsBytes bytes → entry_at bytes ≡ Ok (entry, rest) → length rest ≤ length bytes
rest_within bytes entry rest good e =
    let parts = (entry_exact.found bytes entry rest good e).1 in
    let whole : length bytes ≡ length (spelling_of entry) + length rest = ap length parts ∙ length-append (spelling_of entry) rest in
    omega arith

pub left_within : (bytes : List ℕ) (left : ℕ) → IsBytes bytes → entry_at bytes ≡ Err (stops.Stray left) → left ≤ length bytes
left_within bytes left good e =
    let s = entry_exact.stops bytes (stops.Stray left) good e in
    let whole : length bytes ≡ length s.front + suc (length s.rest) = ap length s.parts ∙ length-append s.front (s.byte ∷ s.rest) in
    let size : left ≡ suc (length s.rest) = s.left_is in
    omega arith

-- ---- no spelling begins another

pub one_spelling : (a b : Entry) (x y : List ℕ) → IsEntry a → IsEntry b → spelling_of a ++ x ≡ spelling_of b ++ y → (a ≡ b) × (x ≡ y)
one_spelling a b x y p q e =
    let same = ok_is (a, x) (b, y) (sym (entry_exact.again a x p) ∙ ap entry_at e ∙ entry_exact.again b y q) in
    (ap (λ (z : Entry × List ℕ). z.0) same, ap (λ (z : Entry × List ℕ). z.1) same)

-- ---- what is answered is so

place_is : (bytes front rest : List ℕ) (byte left : ℕ) → bytes ≡ front ++ byte ∷ rest → left ≡ suc (length rest) → length bytes - left ≡ length front
place_is bytes front rest byte left parts left_is =
    let whole : length bytes ≡ length front + suc (length rest) = ap length parts ∙ length-append front (byte ∷ rest) in
    omega arith

found_so : (bytes : List ℕ) (entry : Entry) (rest : List ℕ) → IsEntry entry → bytes ≡ spelling_of entry ++ rest → Answers bytes (Ok (entry, length bytes - length rest))
found_so bytes entry rest fits parts =
    let whole : length bytes ≡ length (spelling_of entry) + length rest = ap length parts ∙ length-append (spelling_of entry) rest in
    let size : length bytes - length rest ≡ length (spelling_of entry) = omega arith in
    let front : take (length bytes - length rest) bytes ≡ spelling_of entry = ap (λ (n : ℕ). take n bytes) size ∙ ap (take (length (spelling_of entry))) parts ∙ take_at (spelling_of entry) rest (length (spelling_of entry)) refl in
    (fits, size, front)

stray_so : (bytes : List ℕ) (left : ℕ) → entry_at bytes ≡ Err (stops.Stray left) → Strays spelling_of IsEntry bytes left → Answers bytes (Err (faults.Bad (length bytes - left)))
stray_so bytes left e s =
    let place : length bytes - left ≡ length s.front = place_is bytes s.front s.rest s.byte left s.parts s.left_is in
    let whole : length bytes ≡ length s.front + suc (length s.rest) = ap length s.parts ∙ length-append s.front (s.byte ∷ s.rest) in
    let front : take (length s.front) bytes ≡ s.front = ap (take (length s.front)) s.parts ∙ take_at s.front (s.byte ∷ s.rest) (length s.front) refl in
    let regrouped : bytes ≡ (s.front ++ s.byte ∷ []) ++ s.rest = s.parts ∙ assoc_back s.front (s.byte ∷ []) s.rest in
    let size : length (s.front ++ s.byte ∷ []) ≡ length s.front + 1 = length-append s.front (s.byte ∷ []) in
    let longer : take (length s.front + 1) bytes ≡ s.front ++ s.byte ∷ [] = ap (take (length s.front + 1)) regrouped ∙ take_at (s.front ++ s.byte ∷ []) s.rest (length s.front + 1) size in
    let here : IsBadAt bytes (length s.front) = record {
      within = omega arith;
      no_entry = λ b. ok_or_err (entry_at bytes) (b.0, b.1) (stops.Stray left) (ap entry_at b.3 ∙ entry_exact.again b.0 b.1 b.2) e;
      goes_on = (s.value, s.more, s.fits, s.goes_on ∙ ap (λ (l : List ℕ). l ++ s.more) (sym front));
      stops = λ b. s.none b.0 b.1 b.2 (b.3 ∙ ap (λ (l : List ℕ). l ++ b.1) longer ∙ append_assoc s.front (s.byte ∷ []) b.1);
    } in
    subst (λ (n : ℕ). IsBadAt bytes n) (sym place) here

-- what was read is so
read_so : (bytes : List ℕ) (read : Reading Entry) → IsBytes bytes → entry_at bytes ≡ read → Answers bytes (with_place bytes read)
read_so bytes (Ok x) good e = let f = entry_exact.found bytes x.0 x.1 good e in found_so bytes x.0 x.1 f.0 f.1
read_so bytes (Err stops.Short) good e = let s = entry_exact.stops bytes stops.Short good e in (s.value, s.byte, s.more, s.fits, s.goes_on)
read_so bytes (Err (stops.Stray left)) good e = stray_so bytes left e (entry_exact.stops bytes (stops.Stray left) good e)
read_so bytes (Err stops.NoMemory) good e = tt

pub record_so : (bytes : List ℕ) → IsBytes bytes → Answers bytes (record_at bytes)
unfolding record_at
record_so bytes good = read_so bytes (entry_at bytes) good refl

read_never : (bytes : List ℕ) (read : Reading Entry) → IsBytes bytes → entry_at bytes ≡ read → with_place bytes read ≡ Err faults.NoMemory → ⊥
read_never bytes (Ok x) good e never = cc
read_never bytes (Err stops.Short) good e never = cc
read_never bytes (Err (stops.Stray left)) good e never = cc
read_never bytes (Err stops.NoMemory) good e never = entry_exact.stops bytes stops.NoMemory good e

record_never : (bytes : List ℕ) → IsBytes bytes → record_at bytes ≡ Err faults.NoMemory → ⊥
unfolding record_at
record_never bytes good never = read_never bytes (entry_at bytes) good refl never

-- ---- the answers leave each other out

shorter : (bytes : List ℕ) (m n : ℕ) → m ≤ n → BeginsEntry (take n bytes) → BeginsEntry (take m bytes)
shorter bytes m n le b =
    let sum : m + (n - m) ≡ n = omega arith in
    let parts : take n bytes ≡ take m bytes ++ take (n - m) (drop m bytes) = ap (λ (k : ℕ). take k bytes) (sym sum) ∙ take-add m (n - m) bytes in
    (b.0, take (n - m) (drop m bytes) ++ b.1, b.2, b.3 ∙ ap (λ (l : List ℕ). l ++ b.1) parts ∙ append_assoc (take m bytes) (take (n - m) (drop m bytes)) b.1)

cut_begins : (bytes : List ℕ) (n : ℕ) → IsCut bytes → BeginsEntry (take n bytes)
cut_begins bytes n cut =
    let parts : bytes ≡ take n bytes ++ drop n bytes = sym (take-append-drop n bytes) in
    (cut.0, drop n bytes ++ cut.1 ∷ cut.2, cut.3, cut.4 ∙ ap (λ (l : List ℕ). l ++ cut.1 ∷ cut.2) parts ∙ append_assoc (take n bytes) (drop n bytes) (cut.1 ∷ cut.2))

cut_or_whole : (bytes : List ℕ) → IsCut bytes → BeginsWithEntry bytes → ⊥
cut_or_whole bytes cut whole =
    let longer : spelling_of cut.0 ++ [] ≡ spelling_of whole.0 ++ (whole.1 ++ cut.1 ∷ cut.2) =
    append-nil (spelling_of cut.0) ∙ cut.4 ∙ ap (λ (l : List ℕ). l ++ cut.1 ∷ cut.2) whole.3 ∙ append_assoc (spelling_of whole.0) whole.1 (cut.1 ∷ cut.2) in
    let same = one_spelling cut.0 whole.0 [] (whole.1 ++ cut.1 ∷ cut.2) cut.3 whole.2 longer in
    let size : 0 ≡ length whole.1 + suc (length cut.2) = ap length same.1 ∙ length-append whole.1 (cut.1 ∷ cut.2) in
    omega arith

cut_or_bad : (bytes : List ℕ) (place : ℕ) → IsCut bytes → IsBadAt bytes place → ⊥
cut_or_bad bytes place cut bad = bad.stops (cut_begins bytes (place + 1) cut)

one_place : (bytes : List ℕ) (m n : ℕ) → IsBadAt bytes m → IsBadAt bytes n → m ≡ n
one_place bytes m n p q =
    elim (cases_lt m n) [
      | inl lt ↦ absurd (p.stops (shorter bytes (m + 1) n (omega arith) q.goes_on))
      | inr le ↦ elim (cases_lt n m) [
        | inl lt ↦ absurd (q.stops (shorter bytes (n + 1) m (omega arith) p.goes_on))
        | inr ge ↦ omega arith
      ]
    ]

begins : (bytes : List ℕ) (entry : Entry) (n : ℕ) → IsEntry entry → take n bytes ≡ spelling_of entry → BeginsWithEntry bytes
begins bytes entry n fits e = (entry, drop n bytes, fits, sym (take-append-drop n bytes) ∙ ap (λ (l : List ℕ). l ++ drop n bytes) e)

-- ---- each state of the bytes has its answer

whole_answer : (bytes : List ℕ) (entry : Entry) (rest : List ℕ) → IsEntry entry → bytes ≡ spelling_of entry ++ rest → record_at bytes ≡ Ok (entry, length (spelling_of entry))
unfolding record_at
whole_answer bytes entry rest fits parts =
    let read : entry_at bytes ≡ Ok (entry, rest) = ap entry_at parts ∙ entry_exact.again entry rest fits in
    let answer : with_place bytes (entry_at bytes) ≡ Ok (entry, length bytes - length rest) = ap (with_place bytes) read in
    let size : length bytes - length rest ≡ length (spelling_of entry) = (found_so bytes entry rest fits parts).1 in
    answer ∙ ap (λ (n : ℕ). Ok (entry, n)) size

cut_answer : (bytes : List ℕ) (answer : Outcome) → IsCut bytes → Answers bytes answer → (answer ≡ Err faults.NoMemory → ⊥) → answer ≡ Err faults.Short
cut_answer bytes (Ok x) cut so never = absurd (cut_or_whole bytes cut (begins bytes x.0 x.1 so.0 so.2))
cut_answer bytes (Err faults.Short) cut so never = refl
cut_answer bytes (Err (faults.Bad place)) cut so never = absurd (cut_or_bad bytes place cut so)
cut_answer bytes (Err faults.NoMemory) cut so never = absurd (never refl)

bad_answer : (bytes : List ℕ) (place : ℕ) (answer : Outcome) → IsBadAt bytes place → Answers bytes answer → (answer ≡ Err faults.NoMemory → ⊥) → answer ≡ Err (faults.Bad place)
bad_answer bytes place (Ok x) bad so never = absurd (bad.no_entry (begins bytes x.0 x.1 so.0 so.2))
bad_answer bytes place (Err faults.Short) bad so never = absurd (cut_or_bad bytes place so bad)
bad_answer bytes place (Err (faults.Bad other)) bad so never = ap (λ (n : ℕ). Err (faults.Bad n)) (one_place bytes other place so bad)
bad_answer bytes place (Err faults.NoMemory) bad so never = absurd (never refl)

-- ---- one of three

three_of : (bytes : List ℕ) (answer : Outcome) → Answers bytes answer → (answer ≡ Err faults.NoMemory → ⊥) → BeginsWithEntry bytes ⊎ (IsCut bytes ⊎ ((place : ℕ) × IsBadAt bytes place))
three_of bytes (Ok x) so never = inl (begins bytes x.0 x.1 so.0 so.2)
three_of bytes (Err faults.Short) so never = inr (inl so)
three_of bytes (Err (faults.Bad place)) so never = inr (inr (place, so))
three_of bytes (Err faults.NoMemory) so never = absurd (never refl)

pub three : (bytes : List ℕ) → IsBytes bytes → BeginsWithEntry bytes ⊎ (IsCut bytes ⊎ ((place : ℕ) × IsBadAt bytes place))
three bytes good = three_of bytes (record_at bytes) (record_so bytes good) (record_never bytes good)

-- ---- for a result that is the answer, unless memory ran out

pub answers : (bytes : List ℕ) (result : Outcome) → IsBytes bytes → UnlessMemory result (record_at bytes) → Answers bytes result
answers bytes (Ok x) good is = subst (λ (r : Outcome). Answers bytes r) (sym is) (record_so bytes good)
answers bytes (Err faults.Short) good is = subst (λ (r : Outcome). Answers bytes r) (sym is) (record_so bytes good)
answers bytes (Err (faults.Bad place)) good is = subst (λ (r : Outcome). Answers bytes r) (sym is) (record_so bytes good)
answers bytes (Err faults.NoMemory) good is = tt

pub within : (bytes : List ℕ) (result : Outcome) → Answers bytes result → IfOk result (λ found. found.1 ≤ length bytes)
within bytes (Ok x) so =
    let size : length (take x.1 bytes) ≡ x.1 = ap length so.2 ∙ sym so.1 in
    omega (arith, length-take x.1 bytes)
within bytes (Err fault) so = tt

unless : (result x y : Outcome) → x ≡ y → UnlessMemory result x → UnlessMemory result y
unless result x y e is = subst (λ (r : Outcome). UnlessMemory result r) e is

pub whole : (bytes : List ℕ) (result : Outcome) → UnlessMemory result (record_at bytes)
    → (entry : Entry) (rest : List ℕ) → IsEntry entry → bytes ≡ spelling_of entry ++ rest → UnlessMemory result (Ok (entry, length (spelling_of entry)))
whole bytes result is entry rest fits parts = unless result (record_at bytes) (Ok (entry, length (spelling_of entry))) (whole_answer bytes entry rest fits parts) is

pub cut : (bytes : List ℕ) (result : Outcome) → IsBytes bytes → UnlessMemory result (record_at bytes) → IsCut bytes → UnlessMemory result (Err faults.Short)
cut bytes result good is h = unless result (record_at bytes) (Err faults.Short) (cut_answer bytes (record_at bytes) h (record_so bytes good) (record_never bytes good)) is

pub bad : (bytes : List ℕ) (result : Outcome) → IsBytes bytes → UnlessMemory result (record_at bytes) → (place : ℕ) → IsBadAt bytes place → UnlessMemory result (Err (faults.Bad place))
bad bytes result good is place h = unless result (record_at bytes) (Err (faults.Bad place)) (bad_answer bytes place (record_at bytes) h (record_so bytes good) (record_never bytes good)) is
