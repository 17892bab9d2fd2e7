-- The lines of a head: its start line and one for each field.
use Rattle.std.proofs.Common.{◌≡◌, ℕ, suc, zero, ◌+◌, ◌<◌, ◌≤◌, Bool, true, false, List, [], ◌∷◌, ◌++◌, length, take, drop, get_or, refl, sym, ap, ◌∙◌, subst, arith, All, append_assoc, IsTrue, Option, Some, None, zero-add, inl, inr, if◌then◌else◌, ◌==◌}
use Rattle.std.specs.List.{flat_map}
use Rattle.std.specs.Char.{is_ascii_digit}
use Rattle.std.proofs.lemmas.Bool.{false≢true, ne_eqb, cases_lt}
use Rattle.std.proofs.lemmas.List.{take-append-drop, take-append-le, take_at, append-nil, append_cancel_right}
use Rattle.httparse.specs.Grammar.{LineEnd, crlf, lf, print_end, print_blank, print_version, print_reason, reason_phrase, Field, IsField, IsToken, AllPass, is_value_byte, print_field, ResponseHead, IsResponseHead, print_response, MayBecomeResponse}
use Rattle.dm_edge.specs.Head.{IsInLine, HasManyLines, most_fields}
use Rattle.dm_head.specs.Lines.{lines_begun, is_in_line}
use Rattle.dm_head.proofs.ManyLines.{start_of, token_in_line, printed, over, over_many, cut_at}

-- over the bytes so many lines begin, and the last one is open or not
pub record Passes (before : Bool) (bytes : List ℕ) (count : ℕ) (after : Bool) : Type 0 where
  pub begun : lines_begun before bytes ≡ count
  pub open_line : is_in_line before bytes ≡ after

at_byte : {X : Type 0} (byte : ℕ) (a b c : X) → IsInLine byte
    → (if byte == 10 then a else (if byte == 13 then b else c)) ≡ c
at_byte byte a b c is = rw (ne_eqb byte 10 is.1, ne_eqb byte 13 is.0) refl

-- the lines of two texts, one behind the other
begun_step : (feed return before : Bool) (xs ys : List ℕ)
    → lines_begun false (xs ++ ys) ≡ lines_begun false xs + lines_begun (is_in_line false xs) ys
    → lines_begun before (xs ++ ys) ≡ lines_begun before xs + lines_begun (is_in_line before xs) ys
    → lines_begun true (xs ++ ys) ≡ lines_begun true xs + lines_begun (is_in_line true xs) ys
    → (if feed then lines_begun false (xs ++ ys)
    else (if return then lines_begun before (xs ++ ys)
    else (if before then lines_begun true (xs ++ ys) else 1 + lines_begun true (xs ++ ys))))
    ≡ (if feed then lines_begun false xs
    else (if return then lines_begun before xs
    else (if before then lines_begun true xs else 1 + lines_begun true xs)))
    + lines_begun (if feed then is_in_line false xs else (if return then is_in_line before xs else is_in_line true xs)) ys
begun_step true return before xs ys outside same inside = outside
begun_step false true before xs ys outside same inside = same
begun_step false false true xs ys outside same inside = inside
begun_step false false false xs ys outside same inside = ap (λ n. 1 + n) inside ∙ omega arith

pub begun-append : (before : Bool) (xs ys : List ℕ)
    → lines_begun before (xs ++ ys) ≡ lines_begun before xs + lines_begun (is_in_line before xs) ys
begun-append before [] ys = sym (zero-add _)
begun-append before (x ∷ xs) ys =
    begun_step (x == 10) (x == 13) before xs ys (begun-append false xs ys) (begun-append before xs ys) (begun-append true xs ys)

open_step : (feed return before : Bool) (xs ys : List ℕ)
    → is_in_line false (xs ++ ys) ≡ is_in_line (is_in_line false xs) ys
    → is_in_line before (xs ++ ys) ≡ is_in_line (is_in_line before xs) ys
    → is_in_line true (xs ++ ys) ≡ is_in_line (is_in_line true xs) ys
    → (if feed then is_in_line false (xs ++ ys) else (if return then is_in_line before (xs ++ ys) else is_in_line true (xs ++ ys)))
    ≡ is_in_line (if feed then is_in_line false xs else (if return then is_in_line before xs else is_in_line true xs)) ys
open_step true return before xs ys outside same inside = outside
open_step false true before xs ys outside same inside = same
open_step false false before xs ys outside same inside = inside

pub open-append : (before : Bool) (xs ys : List ℕ)
    → is_in_line before (xs ++ ys) ≡ is_in_line (is_in_line before xs) ys
open-append before [] ys = refl
open-append before (x ∷ xs) ys =
    open_step (x == 10) (x == 13) before xs ys (open-append false xs ys) (open-append before xs ys) (open-append true xs ys)

pub passes : {before middle after : Bool} (xs ys : List ℕ) {m n : ℕ} → Passes before xs m middle → Passes middle ys n after
    → Passes before (xs ++ ys) (m + n) after
passes {before} {middle} xs ys {m} {n} p q = record {
  begun = begun-append before xs ys ∙ ap (λ k. k + lines_begun (is_in_line before xs) ys) p.begun
      ∙ ap (λ k. m + k) (ap (λ b. lines_begun b ys) p.open_line ∙ q.begun);
  open_line = open-append before xs ys ∙ ap (λ b. is_in_line b ys) p.open_line ∙ q.open_line;
}

pub first_in_line : (byte : ℕ) → IsInLine byte → Passes false (byte ∷ []) 1 true
first_in_line byte is = record {
  begun = at_byte byte 0 0 1 is;
  open_line = at_byte byte false false true is;
}

-- bytes of a line that has begun
pub all_in_line : (bytes : List ℕ) → ((i : ℕ) → i < length bytes → IsInLine (get_or bytes i 0)) → Passes true bytes 0 true
all_in_line [] all = record { begun = refl; open_line = refl }
all_in_line (b ∷ bs) all =
    let rest = all_in_line bs (λ i h. all (suc i) (omega arith)) in
    let here = all 0 (omega arith) in
    record {
      begun = at_byte b (lines_begun false bs) (lines_begun true bs) (lines_begun true bs) here ∙ rest.begun;
      open_line = at_byte b (is_in_line false bs) (is_in_line true bs) (is_in_line true bs) here ∙ rest.open_line;
    }

pub at_end : (end : LineEnd) → Passes true (print_end end) 0 false
at_end crlf = record { begun = refl; open_line = refl }
at_end lf = record { begun = refl; open_line = refl }

pub blank_end : (end : LineEnd) → Passes false (print_end end) 0 false
blank_end crlf = record { begun = refl; open_line = refl }
blank_end lf = record { begun = refl; open_line = refl }

pub blank_lines : (ends : List LineEnd) → Passes false (print_blank ends) 0 false
blank_lines [] = record { begun = refl; open_line = refl }
blank_lines (end ∷ ends) = passes (print_end end) (print_blank ends) (blank_end end) (blank_lines ends)

value_in_line : (byte : ℕ) → IsTrue (is_value_byte byte) → IsInLine byte
value_in_line byte is =
    (λ e. false≢true (subst (λ b. IsTrue (is_value_byte b)) e is), λ e. false≢true (subst (λ b. IsTrue (is_value_byte b)) e is))

digit_in_line : (byte : ℕ) → IsTrue (is_ascii_digit byte) → IsInLine byte
digit_in_line byte is =
    (λ e. false≢true (subst (λ b. IsTrue (is_ascii_digit b)) e is), λ e. false≢true (subst (λ b. IsTrue (is_ascii_digit b)) e is))

pub values_in_line : (bytes : List ℕ) → AllPass is_value_byte bytes → Passes true bytes 0 true
values_in_line bytes all = all_in_line bytes (λ i h. value_in_line (get_or bytes i 0) (all i 0 h))

token_line : (name : List ℕ) → IsToken name → Passes false name 1 true
token_line [] is = absurd (omega (arith, is.0))
token_line (c ∷ cs) is =
    passes (c ∷ []) cs (first_in_line c (token_in_line c (is.1 0 0 (omega arith))))
    (all_in_line cs (λ i h. token_in_line (get_or cs i 0) (is.1 (suc i) 0 (omega arith))))

colon_in_line : Passes true (58 ∷ []) 0 true
colon_in_line = record { begun = refl; open_line = refl }

space_in_line : Passes true (32 ∷ []) 0 true
space_in_line = record { begun = refl; open_line = refl }

pub field_line : (field : Field) → IsField field → Passes false (print_field field) 1 false
field_line field is =
    passes (field.name ++ 58 ∷ field.raw) (print_end field.end)
    (passes field.name (58 ∷ field.raw) (token_line field.name is.name) (passes (58 ∷ []) field.raw colon_in_line (values_in_line field.raw is.raw)))
    (at_end field.end)

pub field_lines : (fields : List Field) → All IsField fields → Passes false (flat_map print_field fields) (length fields) false
field_lines [] all = record { begun = refl; open_line = refl }
field_lines (f ∷ fs) all =
    subst (λ (n : ℕ). Passes false (print_field f ++ flat_map print_field fs) n false) (omega arith)
    (passes (print_field f) (flat_map print_field fs) (field_line f (all 0 f (omega arith))) (field_lines fs (λ i d h. all (suc i) d (omega arith))))

version_line : (minor : ℕ) → minor ≤ 1 → Passes false (print_version minor) 1 true
version_line minor small =
    passes (72 ∷ 84 ∷ 84 ∷ 80 ∷ 47 ∷ 49 ∷ 46 ∷ []) ((48 + minor) ∷ []) (record { begun = refl; open_line = refl })
    (all_in_line ((48 + minor) ∷ []) one)
  where
    one : (i : ℕ) → i < 1 → IsInLine (get_or ((48 + minor) ∷ []) i 0)
    one zero h = (λ e. omega arith, λ e. omega arith)
    one (suc i) h = absurd (omega arith)

reason_line : (reason : Option (List ℕ)) → AllPass is_value_byte (reason_phrase reason) → Passes true (print_reason reason) 0 true
reason_line None all = record { begun = refl; open_line = refl }
reason_line (Some phrase) all = passes (32 ∷ []) phrase space_in_line (values_in_line phrase all)

-- the start line, with the empty lines before it
pub start_line : (h : ResponseHead) → IsResponseHead h → Passes false (start_of h) 1 false
start_line h is =
    passes (print_blank h.blank) _ (blank_lines h.blank)
    (passes (print_version h.minor) _ (version_line h.minor is.minor)
    (passes (32 ∷ []) (h.digits ++ (print_reason h.reason ++ print_end h.line_end)) space_in_line
    (passes h.digits _ (all_in_line h.digits (λ i l. digit_in_line (get_or h.digits i 0) (is.digits.1 i 0 l)))
    (passes (print_reason h.reason) (print_end h.line_end) (reason_line h.reason is.reason) (at_end h.line_end)))))

pub head_lines : (h : ResponseHead) → IsResponseHead h → lines_begun false (print_response h ++ []) ≡ 1 + length h.fields
head_lines h is =
    ap (lines_begun false) (printed h [])
    ∙ (passes (start_of h) _ (start_line h is)
    (passes (flat_map print_field h.fields) _ (field_lines h.fields is.fields)
    (passes (print_end h.last) [] (blank_end h.last) (record { begun = refl; open_line = refl })))).begun
    ∙ omega arith

over_lines : (h : ResponseHead) → IsResponseHead h → (fields : List Field) → All IsField fields
    → Passes false (start_of h ++ flat_map print_field fields) (1 + length fields) false
over_lines h is fields all = passes (start_of h) (flat_map print_field fields) (start_line h is) (field_lines fields all)

-- where the first text is no longer, it begins the other
pub begins_other : (front more lines tail : List ℕ) → front ++ more ≡ lines ++ tail → length front ≤ length lines
    → lines ≡ front ++ drop (length front) lines
begins_other front more lines tail is shorter =
    sym (take-append-drop (length front) lines)
    ∙ ap (λ t. t ++ drop (length front) lines)
    (sym (take-append-le (length front) lines tail shorter) ∙ ap (take (length front)) (sym is) ∙ take_at front more (length front) refl)

-- where more lines begin than a head may have, one is too many
pub many_if_begun : (front : List ℕ) → MayBecomeResponse front → most_fields + 1 < lines_begun false front → HasManyLines front
many_if_begun front may begun =
    let more = may.0 in
    let h = may.1 in
    let is = may.2.0 in
    let grows = begun-append false front more in
    let whole = ap (lines_begun false) may.2.1 ∙ head_lines h is in
    let o = over h is (omega (arith, grows, whole)) in
    let lines = start_of h ++ flat_map print_field o.fields in
    let count = (over_lines h is o.fields o.all).begun in
    let text : front ++ more ≡ lines ++ o.byte ∷ o.tail = may.2.1 ∙ o.whole in
    let longer : length lines < length front = elim (cases_lt (length lines) (length front)) [
      | inl h ↦ h
      | inr shorter ↦ let e = ap (lines_begun false) (begins_other front more lines (o.byte ∷ o.tail) text shorter) ∙ begun-append false front (drop (length front) lines) in
          absurd (omega (arith, e, count, o.count))
    ] in
    let cut = cut_at front more lines o.tail o.byte longer text in
    over_many front cut.0 h is o cut.1

-- where one is too many, more lines begin
pub begun_if_many : (front : List ℕ) → HasManyLines front → most_fields + 1 < lines_begun false front
begun_if_many front m =
    let h = m.head in
    let is = m.reads.0 in
    let end = ap print_end m.last in
    let text : m.lines ++ print_end lf ≡ (start_of h ++ flat_map print_field h.fields) ++ print_end lf =
    m.reads.1 ∙ printed h [] ∙ ap (λ t. start_of h ++ (flat_map print_field h.fields ++ t)) (append-nil (print_end h.last) ∙ end)
    ∙ sym (append_assoc (start_of h) (flat_map print_field h.fields) (print_end lf)) in
    let lines = append_cancel_right m.lines (start_of h ++ flat_map print_field h.fields) (print_end lf) text in
    let passed = subst (λ (t : List ℕ). Passes false t (1 + length h.fields) false) (sym lines) (over_lines h is h.fields is.fields) in
    let first = passes m.lines (m.next ∷ []) passed (first_in_line m.next m.in_line) in
    let all : front ≡ (m.lines ++ m.next ∷ []) ++ m.rest = m.is ∙ sym (append_assoc m.lines (m.next ∷ []) m.rest) in
    omega (arith, ap (lines_begun false) all, begun-append false (m.lines ++ m.next ∷ []) m.rest, first.begun, m.count)
