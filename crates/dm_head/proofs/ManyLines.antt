-- A head of too many fields, up to the first byte of the field that is too many.
use Rattle.std.proofs.Common.{◌≡◌, ℕ, suc, zero, ◌<◌, List, [], ◌∷◌, ◌++◌, length, take, drop, get_or, refl, sym, ap, ◌∙◌, subst, arith, All, append_assoc, length-append, IsTrue}
use Rattle.std.specs.List.{flat_map}
use Rattle.std.proofs.lemmas.Bool.{false≢true}
use Rattle.std.proofs.lemmas.List.{take-append-le, take-append-drop, append-nil, take_at, length-take-le}
use Rattle.std.proofs.lemmas.List.Elements.{All-take}
use Rattle.std.proofs.lemmas.Grind.{flat_map-append}
use Rattle.httparse.specs.Grammar.{LineEnd, crlf, lf, print_end, print_blank, print_version, print_reason, Field, IsField, is_token_byte, print_field, ResponseHead, IsResponseHead, print_response, ReadsResponse}
use Rattle.httparse.specs.Spans.{ResponseExceeds}
use Rattle.httparse.proofs.GrammarLemmas.{print_response-append}
use Rattle.dm_edge.specs.Head.{most_fields, HasManyLines, IsInLine}

-- the lines before the fields
abbrev pub start_of : ResponseHead → List ℕ
start_of h = print_blank h.blank ++ (print_version h.minor ++ 32 ∷ (h.digits ++ (print_reason h.reason ++ print_end h.line_end)))

abbrev pub with_fields : ResponseHead → List Field → ResponseHead
with_fields h fields = record h { fields = fields; last = lf }

pub printed : (h : ResponseHead) (rest : List ℕ)
    → print_response h ++ rest ≡ start_of h ++ (flat_map print_field h.fields ++ (print_end h.last ++ rest))
printed h rest =
    print_response-append h rest
    ∙ regroup (print_blank h.blank) (print_version h.minor) h.digits (print_reason h.reason) (print_end h.line_end)
    (flat_map print_field h.fields) (print_end h.last) rest
  where
    regroup : (a b c d e f g r : List ℕ)
        → a ++ (b ++ 32 ∷ (c ++ (d ++ (e ++ ((f ++ g) ++ r))))) ≡ (a ++ (b ++ 32 ∷ (c ++ (d ++ e)))) ++ (f ++ (g ++ r))
    regroup a b c d e f g r = simp append_assoc

-- a head with other fields is a head
pub is_with_fields : (h : ResponseHead) (fields : List Field) → IsResponseHead h → All IsField fields
    → IsResponseHead (with_fields h fields)
is_with_fields h fields is all = record { minor = is.minor; digits = is.digits; reason = is.reason; fields = all }

pub token_in_line : (byte : ℕ) → IsTrue (is_token_byte byte) → IsInLine byte
unfolding is_token_byte
token_in_line byte is =
    (λ e. false≢true (subst (λ b. IsTrue (is_token_byte b)) e is), λ e. false≢true (subst (λ b. IsTrue (is_token_byte b)) e is))

-- the first byte of a field's line
pub record FirstByte (field : Field) : Type 0 where
  pub byte : ℕ
  pub rest : List ℕ
  pub is : print_field field ≡ byte ∷ rest
  pub in_line : IsInLine byte

pub first_byte : (field : Field) → IsField field → FirstByte field
first_byte field is = of_name field.name refl is.name.0 is.name.1
  where
    of_name : (name : List ℕ) → field.name ≡ name → 0 < length field.name → All (λ b. IsTrue (is_token_byte b)) field.name → FirstByte field
    of_name [] e some all = absurd (omega (arith, ap length e))
    of_name (c ∷ cs) e some all = record {
      byte = c;
      rest = cs ++ 58 ∷ field.raw ++ print_end field.end;
      is = ap (λ n. n ++ 58 ∷ field.raw ++ print_end field.end) e;
      in_line = token_in_line c (subst (λ n. IsTrue (is_token_byte (get_or n 0 0))) e (all 0 0 some));
    }

-- a text that goes on past the first lines has the next byte
pub cut_at : (front more lines tail : List ℕ) (next : ℕ) → length lines < length front
    → front ++ more ≡ lines ++ next ∷ tail → (rest : List ℕ) × (front ≡ lines ++ next ∷ rest)
cut_at front more lines tail next longer is =
    let k = suc (length lines) in
    let first : take k front ≡ lines ++ next ∷ [] =
    sym (take-append-le k front more (omega arith))
    ∙ ap (take k) (is ∙ sym (append_assoc lines (next ∷ []) tail))
    ∙ take_at (lines ++ next ∷ []) tail k (length-append lines (next ∷ []) ∙ omega arith) in
    (drop k front, sym (take-append-drop k front) ∙ ap (λ t. t ++ drop k front) first ∙ append_assoc lines (next ∷ []) (drop k front))

-- the fields are so many, one more, and others
split_fields : (n : ℕ) (fields : List Field) → n < length fields → All IsField fields
    → (field : Field) × (others : List Field) × (fields ≡ take n fields ++ field ∷ others) × IsField field
split_fields n [] h all = absurd (omega arith)
split_fields zero (f ∷ fs) h all = (f, fs, refl, all 0 f (omega arith))
split_fields (suc n) (f ∷ fs) h all =
    let deeper = split_fields n fs (omega arith) (λ i d l. all (suc i) d (omega arith)) in
    (deeper.0, deeper.1, ap (λ t. f ∷ t) deeper.2, deeper.3)

some_end : (end : LineEnd) → 0 < length (print_end end)
some_end crlf = omega arith
some_end lf = omega arith

arranged : (s a p b e : List ℕ) (c : ℕ) (r : List ℕ) → p ≡ c ∷ r
    → s ++ ((a ++ (p ++ b)) ++ (e ++ [])) ≡ (s ++ a) ++ c ∷ (r ++ (b ++ e))
arranged s a p b e c r is = rw is (simp (append_assoc, append-nil))

-- a head with these fields alone
pub reads_with_fields : (h : ResponseHead) (fields : List Field) → IsResponseHead h → All IsField fields
    → ReadsResponse ((start_of h ++ flat_map print_field fields) ++ print_end lf) (with_fields h fields) []
reads_with_fields h fields is all = (
  is_with_fields h fields is all,
  append_assoc (start_of h) (flat_map print_field fields) (print_end lf) ∙ sym (printed (with_fields h fields) []),
)

-- a head with more fields than a head may have
pub record IsOver (h : ResponseHead) : Type 0 where
  pub fields : List Field
  pub byte : ℕ
  pub tail : List ℕ
  pub all : All IsField fields
  pub count : length fields ≡ most_fields
  pub in_line : IsInLine byte
  pub whole : print_response h ++ [] ≡ (start_of h ++ flat_map print_field fields) ++ byte ∷ tail
  pub some : 0 < length tail

pub over : (h : ResponseHead) → IsResponseHead h → most_fields < length h.fields → IsOver h
over h is more =
    let split = split_fields most_fields h.fields more is.fields in
    let fields = take most_fields h.fields in
    let first = first_byte split.0 split.3 in
    record {
      fields = fields;
      byte = first.byte;
      tail = first.rest ++ (flat_map print_field split.1 ++ print_end h.last);
      all = All-take IsField most_fields h.fields is.fields;
      count = length-take-le most_fields h.fields (omega arith);
      in_line = first.in_line;
      whole = printed h []
          ∙ ap (λ t. start_of h ++ (t ++ (print_end h.last ++ []))) (ap (flat_map print_field) split.2 ∙ flat_map-append print_field fields (split.0 ∷ split.1))
          ∙ arranged (start_of h) (flat_map print_field fields) (print_field split.0) (flat_map print_field split.1) (print_end h.last) first.byte first.rest first.is;
      some = omega (arith, length-append first.rest (flat_map print_field split.1 ++ print_end h.last), length-append (flat_map print_field split.1) (print_end h.last), some_end h.last);
    }

pub over_many : (text rest : List ℕ) (h : ResponseHead) → IsResponseHead h → (o : IsOver h)
    → text ≡ (start_of h ++ flat_map print_field o.fields) ++ o.byte ∷ rest → HasManyLines text
over_many text rest h is o text_is = record {
  lines = start_of h ++ flat_map print_field o.fields;
  next = o.byte;
  rest = rest;
  is = text_is;
  head = with_fields h o.fields;
  reads = reads_with_fields h o.fields is o.all;
  last = refl;
  count = o.count;
  in_line = o.in_line;
}

pub exceeds_many : {text : List ℕ} → ResponseExceeds most_fields text → HasManyLines text
exceeds_many {text} x =
    let o = over x.3 x.4.0 x.5 in
    let lines = start_of x.3 ++ flat_map print_field o.fields in
    let whole : x.0 ++ print_end lf ≡ lines ++ o.byte ∷ o.tail = x.4.1 ∙ o.whole in
    let longer : length lines < length x.0 =
    omega (arith, ap length whole, length-append x.0 (print_end lf), length-append lines (o.byte ∷ o.tail), o.some) in
    let cut = cut_at x.0 (print_end lf) lines o.tail o.byte longer whole in
    over_many text (cut.0 ++ x.1) x.3 x.4.0 o
    (x.2 ∙ ap (λ t. t ++ x.1) cut.1 ∙ append_assoc lines (o.byte ∷ cut.0) x.1)
