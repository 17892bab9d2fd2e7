-- A head of too many fields, up to the first byte of the field that is too many.
use Rattle.std.proofs.Common.{◌≡◌, ℕ, suc, zero, ◌+◌, ◌<◌, ◌≤◌, ◌⊎◌, inl, inr, false, List, [], ◌∷◌, ◌++◌, length, take, drop, Some, None, refl, sym, ap, ◌∙◌, subst, arith, All, append_assoc, length-append}
use Rattle.std.specs.List.{flat_map}
use Rattle.std.proofs.lemmas.Bool.{cases_lt}
use Rattle.std.proofs.lemmas.List.{append-nil, append_cancel_left, append_cancel_right}
use Rattle.std.proofs.lemmas.List.Elements.{All-cons, All-nil}
use Rattle.std.specs.Char.{is_ascii_digit}
use Rattle.httparse.specs.Grammar.{AllPass, EndsInTarget, Field, IsField, IsRequestHead, IsResponseHead, LineEnd, MayBecomeRequest, ReadsRequest, RequestHead, ResponseHead, is_value_byte, lf, print_blank, print_end, print_field, print_request}
use Rattle.httparse.specs.Spans.{RequestExceeds}
use Rattle.dm_edge.specs.Head.{IsInLine, most_fields}
use Rattle.dm_head.specs.Lines.{lines_begun}
use Rattle.dm_head.proofs.LineLemmas.{Passes, begins_other, begun-append, blank_lines, field_lines, first_in_line, passes}
use Rattle.dm_head.proofs.ManyLines as reply
use Rattle.dm_hear.specs.Head.{HasManyLines}
use Rattle.dm_hear.proofs.RequestLines.{head_lines, printed, request_line, start_of, target_begun}

-- more fields than a head may have: so many, and the first byte of one more line
pub record IsOver (fields : List Field) (last : LineEnd) : Type 0 where
  pub fewer : List Field
  pub byte : ℕ
  pub tail : List ℕ
  pub all : All IsField fewer
  pub count : length fewer ≡ most_fields
  pub in_line : IsInLine byte
  pub whole : flat_map print_field fields ++ (print_end last ++ []) ≡ flat_map print_field fewer ++ byte ∷ tail
  pub some : 0 < length tail

-- a reply's head with these fields, since the fields alone matter
abbrev reply_with : List Field → LineEnd → ResponseHead
reply_with fields last = record { blank = []; minor = 1; digits = 50 ∷ 48 ∷ 48 ∷ []; reason = None; line_end = lf; fields = fields; last = last }

is_reply_with : (fields : List Field) (last : LineEnd) → All IsField fields → IsResponseHead (reply_with fields last)
is_reply_with fields last all = record {
  minor = omega arith;
  digits = (refl, three);
  reason = All-nil _;
  fields = all;
}
  where
    three : AllPass is_ascii_digit (50 ∷ 48 ∷ 48 ∷ [])
    three zero d h = refl
    three (suc zero) d h = refl
    three (suc (suc zero)) d h = refl
    three (suc (suc (suc i))) d h = absurd (omega arith)

pub over : (fields : List Field) (last : LineEnd) → All IsField fields → most_fields < length fields → IsOver fields last
over fields last all more =
    let g = reply_with fields last in
    let o = reply.over g (is_reply_with fields last all) more in
    record {
      fewer = o.fields;
      byte = o.byte;
      tail = o.tail;
      all = o.all;
      count = o.count;
      in_line = o.in_line;
      whole = append_cancel_left (reply.start_of g) _ _ (sym (reply.printed g []) ∙ o.whole ∙ append_assoc (reply.start_of g) (flat_map print_field o.fields) (o.byte ∷ o.tail));
      some = o.some;
    }

abbrev with_fields : RequestHead → List Field → RequestHead
with_fields h fields = record h { fields = fields; last = lf }

-- a head with these fields alone
reads_with_fields : (h : RequestHead) (fields : List Field) → IsRequestHead h → All IsField fields
    → ReadsRequest ((start_of h ++ flat_map print_field fields) ++ print_end lf) (with_fields h fields) []
reads_with_fields h fields is all = (
  record { method = is.method; target = is.target; target_text = is.target_text; minor = is.minor; fields = all },
  append_assoc (start_of h) (flat_map print_field fields) (print_end lf) ∙ sym (printed (with_fields h fields) []),
)

over_many : (text rest : List ℕ) (h : RequestHead) → IsRequestHead h → (o : IsOver h.fields h.last)
    → text ≡ (start_of h ++ flat_map print_field o.fewer) ++ o.byte ∷ rest → HasManyLines text
over_many text rest h is o text_is = record {
  lines = start_of h ++ flat_map print_field o.fewer;
  next = o.byte;
  rest = rest;
  is = text_is;
  head = with_fields h o.fewer;
  reads = reads_with_fields h o.fewer is o.all;
  last = refl;
  count = o.count;
  in_line = o.in_line;
}

-- the text of a head of too many fields
over_text : (h : RequestHead) (o : IsOver h.fields h.last) → print_request h ++ [] ≡ (start_of h ++ flat_map print_field o.fewer) ++ o.byte ∷ o.tail
over_text h o =
    printed h [] ∙ ap (λ (t : List ℕ). start_of h ++ t) o.whole ∙ sym (append_assoc (start_of h) (flat_map print_field o.fewer) (o.byte ∷ o.tail))

pub exceeds_many : {text : List ℕ} → RequestExceeds most_fields text → HasManyLines text
exceeds_many {text} x =
    let h = x.3 in
    let o = over h.fields h.last x.4.0.fields x.5 in
    let lines = start_of h ++ flat_map print_field o.fewer in
    let whole : x.0 ++ print_end lf ≡ lines ++ o.byte ∷ o.tail = x.4.1 ∙ over_text h o in
    let longer : length lines < length x.0 =
    omega (arith, ap length whole, length-append x.0 (print_end lf), length-append lines (o.byte ∷ o.tail), o.some) in
    let cut = reply.cut_at x.0 (print_end lf) lines o.tail o.byte longer whole in
    over_many text (cut.0 ++ x.1) h x.4.0 o
    (x.2 ∙ ap (λ t. t ++ x.1) cut.1 ∙ append_assoc lines (o.byte ∷ cut.0) x.1)

over_lines : (h : RequestHead) → IsRequestHead h → (fields : List Field) → All IsField fields
    → Passes false (start_of h ++ flat_map print_field fields) (1 + length fields) false
over_lines h is fields all = passes (start_of h) (flat_map print_field fields) (request_line h is) (field_lines fields all)

-- inside a target only one line has begun
one_begun : (front : List ℕ) → EndsInTarget front → lines_begun false front ≡ 1
one_begun front (blank, method, target, token, all, is) =
    let passed = passes (print_blank blank) (method ++ 32 ∷ target) (blank_lines blank) (target_begun method target token all) in
    ap (lines_begun false) (is ∙ append_assoc (print_blank blank) method (32 ∷ target)) ∙ passed.begun

many_of_head : (front more : List ℕ) (h : RequestHead) → ReadsRequest (front ++ more) h [] → most_fields + 1 < lines_begun false front → HasManyLines front
many_of_head front more h reads begun =
    let is = reads.0 in
    let grows = begun-append false front more in
    let whole = ap (lines_begun false) reads.1 ∙ head_lines h is in
    let o = over h.fields h.last is.fields (omega (arith, grows, whole)) in
    let lines = start_of h ++ flat_map print_field o.fewer in
    let count = (over_lines h is o.fewer o.all).begun in
    let text : front ++ more ≡ lines ++ o.byte ∷ o.tail = reads.1 ∙ over_text h o in
    let longer : length lines < length front = elim (cases_lt (length lines) (length front)) [
      | inl h ↦ h
      | inr shorter ↦ let e = ap (lines_begun false) (begins_other front more lines (o.byte ∷ o.tail) text shorter) ∙ begun-append false front (drop (length front) lines) in
          absurd (omega (arith, e, count, o.count))
    ] in
    let cut = reply.cut_at front more lines o.tail o.byte longer text in
    over_many front cut.0 h is o cut.1

-- where more lines begin than a head may have, one is too many
pub many_if_begun : (front : List ℕ) → MayBecomeRequest front → most_fields + 1 < lines_begun false front → HasManyLines front
many_if_begun front (inl may) begun = many_of_head front may.0 may.1 may.2 begun
many_if_begun front (inr inside) begun = absurd (omega (arith, one_begun front inside))

-- where one is too many, more lines begin
pub begun_if_many : (front : List ℕ) → HasManyLines front → most_fields + 1 < lines_begun false front
begun_if_many front m =
    let h = m.head in
    let is = m.reads.0 in
    let end = ap print_end m.last in
    let text : m.lines ++ print_end lf ≡ (start_of h ++ flat_map print_field h.fields) ++ print_end lf =
    m.reads.1 ∙ printed h [] ∙ ap (λ t. start_of h ++ (flat_map print_field h.fields ++ t)) (append-nil (print_end h.last) ∙ end)
    ∙ sym (append_assoc (start_of h) (flat_map print_field h.fields) (print_end lf)) in
    let lines = append_cancel_right m.lines (start_of h ++ flat_map print_field h.fields) (print_end lf) text in
    let passed = subst (λ (t : List ℕ). Passes false t (1 + length h.fields) false) (sym lines) (over_lines h is h.fields is.fields) in
    let first = passes m.lines (m.next ∷ []) passed (first_in_line m.next m.in_line) in
    let all : front ≡ (m.lines ++ m.next ∷ []) ++ m.rest = m.is ∙ sym (append_assoc m.lines (m.next ∷ []) m.rest) in
    omega (arith, ap (lines_begun false) all, begun-append false (m.lines ++ m.next ∷ []) m.rest, first.begun, m.count)

-- inside a target no line is one too many
pub few_inside : (front : List ℕ) → EndsInTarget front → HasManyLines front → ⊥
few_inside front inside many = omega (arith, one_begun front inside, begun_if_many front many)
