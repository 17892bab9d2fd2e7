-- Bytes that end inside a request target: found by a scan, and what can't begin a head otherwise.
use Rattle.std.proofs.Common.{◌≡◌, ◌≢◌, ◌∙◌, ℕ, suc, zero, ◌+◌, ◌-◌, ◌<◌, ◌≤◌, ◌⊎◌, inl, inr, Bool, true, false, ◌&&◌, ◌==◌, nat_lt, List, [], ◌∷◌, ◌++◌, length, take, drop, get_or, refl, sym, ap, subst, arith, All, append_assoc, length-append, IsTrue}
use Rattle.std.specs.List.{flat_map, list_all, position_or_len}
use Rattle.std.proofs.Math.Seq.{drop-append-add, get_or-append_seam, split_at}
use Rattle.std.proofs.lemmas.Bool.{cases_lt, eqb-true, false≢true, lt-ltb, ltb-true, ne_eqb}
use Rattle.std.proofs.lemmas.List.{append-nil, append_cancel_left, get_or_append_left, take_at}
use Rattle.std.proofs.lemmas.List.Elements.{All-nil}
use Rattle.std.proofs.lemmas.List.Sums.{AllPass-from_list_all, list_all-from_AllPass, passes_at_first, position_or_len_is}
use Rattle.httparse.specs.Grammar.{AllPass, EndsInTarget, IsRequestHead, IsToken, LineEnd, NeverHasRequest, RequestHead, crlf, is_token, is_token_byte, is_uri_byte, lf, print_blank, print_end, print_request, print_version}
use Rattle.std.proofs.lemmas.Str.{IsUtf8-from_ascii}
use Rattle.httparse.proofs.GrammarLemmas.{print_request-append}
use Rattle.dm_head.proofs.LineLemmas.{begins_other}
use Rattle.dm_head.proofs.ManyLines.{cut_at, token_in_line}
use Rattle.dm_target.specs.Target.{BeginsLine, Skips, is_front, space_in}

both : (a b : Bool) → (a && b) ≡ true → (a ≡ true) × (b ≡ true)
both true true is = (refl, refl)
both true false is = absurd (false≢true is)
both false b is = absurd (false≢true is)

and_true : (a b : Bool) → a ≡ true → b ≡ true → (a && b) ≡ true
and_true true b p q = q
and_true false b p q = absurd (false≢true p)

-- ---- a method, a space, and the front of a target

pub record Parts (line : List ℕ) : Type 0 where
  pub method : List ℕ
  pub target : List ℕ
  pub token : IsToken method
  pub all : AllPass is_uri_byte target
  pub is : line ≡ method ++ 32 ∷ target

token_of : (text : List ℕ) → is_token text ≡ true → IsToken text
token_of text is =
    let two = both (nat_lt 0 (length text)) (list_all is_token_byte text) is in
    (ltb-true 0 (length text) two.0, AllPass-from_list_all is_token_byte text two.1)

pub front_parts : (line : List ℕ) → is_front line ≡ true → Parts line
front_parts line is =
    let at = space_in line in
    let three = both (nat_lt at (length line) && is_token (take at line)) (list_all is_uri_byte (drop (at + 1) line)) is in
    let two = both (nat_lt at (length line)) (is_token (take at line)) three.0 in
    let within = ltb-true at (length line) two.0 in
    let space : get_or line at 0 ≡ 32 = eqb-true (get_or line at 0) 32 (passes_at_first (λ b. b == 32) line 0 within) in
    let next : suc at ≡ at + 1 = omega arith in
    record {
      method = take at line;
      target = drop (at + 1) line;
      token = token_of (take at line) two.1;
      all = AllPass-from_list_all is_uri_byte (drop (at + 1) line) three.1;
      is = split_at line at 0 within ∙ ap (λ (b : ℕ). take at line ++ b ∷ drop (suc at) line) space ∙ ap (λ (n : ℕ). take at line ++ 32 ∷ drop n line) next;
    }

no_space : (byte : ℕ) → IsTrue (is_token_byte byte) → (byte == 32) ≡ false
unfolding is_token_byte
no_space byte is = ne_eqb byte 32 (λ e. false≢true (subst (λ b. IsTrue (is_token_byte b)) e is))

pub parts_front : (method target : List ℕ) → IsToken method → AllPass is_uri_byte target → is_front (method ++ 32 ∷ target) ≡ true
parts_front method target token all =
    let line = method ++ 32 ∷ target in
    let size = length-append method (32 ∷ target) in
    let at : space_in line ≡ length method = position_or_len_is (λ b. b == 32) line (length method) 0 (omega (arith, size))
    (λ k h. ap (λ (b : ℕ). b == 32) (get_or_append_left method (32 ∷ target) 0 k h) ∙ no_space (get_or method k 0) (token.1 k 0 h))
    (λ _. ap (λ (b : ℕ). b == 32) (get_or-append_seam method 32 target 0)) in
    let within : nat_lt (space_in line) (length line) ≡ true = lt-ltb (space_in line) (length line) (omega (arith, at, size)) in
    let front : take (space_in line) line ≡ method = ap (λ (n : ℕ). take n line) at ∙ take_at method (32 ∷ target) (length method) refl in
    let behind : drop (space_in line + 1) line ≡ target = ap (λ (n : ℕ). drop (n + 1) line) at ∙ drop-append-add method (32 ∷ target) 1 in
    let first : is_token (take (space_in line) line) ≡ true =
    ap is_token front ∙ and_true (nat_lt 0 (length method)) (list_all is_token_byte method) (lt-ltb 0 (length method) token.0) (list_all-from_AllPass is_token_byte method token.1) in
    let last : list_all is_uri_byte (drop (space_in line + 1) line) ≡ true = ap (list_all is_uri_byte) behind ∙ list_all-from_AllPass is_uri_byte target all in
    and_true _ _ (and_true _ _ within first) last

-- ---- behind the empty lines

method_begins : (method target : List ℕ) → IsToken method → BeginsLine (method ++ 32 ∷ target)
method_begins [] target token end more is = absurd (omega (arith, token.0))
method_begins (c ∷ cs) target token crlf more is = (token_in_line c (token.1 0 0 (omega arith))).0 (ap (λ (t : List ℕ). get_or t 0 0) is)
method_begins (c ∷ cs) target token lf more is = (token_in_line c (token.1 0 0 (omega arith))).1 (ap (λ (t : List ℕ). get_or t 0 0) is)

same_line : (blank other : List LineEnd) (line rest : List ℕ) → print_blank blank ++ line ≡ print_blank other ++ rest → BeginsLine line → BeginsLine rest → line ≡ rest
same_line [] [] line rest is a b = is
same_line [] (end ∷ more) line rest is a b = absurd (a end (print_blank more ++ rest) (is ∙ append_assoc (print_end end) (print_blank more) rest))
same_line (end ∷ more) [] line rest is a b = absurd (b end (print_blank more ++ line) (sym is ∙ append_assoc (print_end end) (print_blank more) line))
same_line (crlf ∷ more) (crlf ∷ others) line rest is a b = same_line more others line rest (append_cancel_left (13 ∷ 10 ∷ []) _ _ is) a b
same_line (lf ∷ more) (lf ∷ others) line rest is a b = same_line more others line rest (append_cancel_left (10 ∷ []) _ _ is) a b
same_line (crlf ∷ more) (lf ∷ others) line rest is a b = absurd (omega (arith, ap (λ (t : List ℕ). get_or t 0 0) is))
same_line (lf ∷ more) (crlf ∷ others) line rest is a b = absurd (omega (arith, ap (λ (t : List ℕ). get_or t 0 0) is))

pub inside : (front line : List ℕ) → Skips front line → is_front line ≡ true → EndsInTarget front
inside front line s is =
    let p = front_parts line is in
    (s.blank, p.method, p.target, p.token, p.all, s.is ∙ ap (λ (t : List ℕ). print_blank s.blank ++ t) p.is ∙ sym (append_assoc (print_blank s.blank) p.method (32 ∷ p.target)))

pub outside : (front line : List ℕ) → Skips front line → is_front line ≡ false → EndsInTarget front → ⊥
outside front line s not (blank, method, target, token, all, is) =
    let whole = sym s.is ∙ is ∙ append_assoc (print_blank blank) method (32 ∷ target) in
    let same = same_line s.blank blank line (method ++ 32 ∷ target) whole s.begins (method_begins method target token) in
    false≢true (sym not ∙ ap is_front same ∙ parts_front method target token all)

-- ---- what can't begin a head, but for a target

abbrev plain_head : List LineEnd → List ℕ → RequestHead
plain_head blank method = record { blank = blank; method = method; target = 47 ∷ []; minor = 1; line_end = lf; fields = []; last = lf }

-- what may follow a method
abbrev rest_of : List ℕ
rest_of = 32 ∷ 47 ∷ 32 ∷ (print_version 1 ++ (10 ∷ 10 ∷ []))

plain_printed : (blank : List LineEnd) (method : List ℕ) → print_request (plain_head blank method) ++ [] ≡ (print_blank blank ++ method) ++ rest_of
plain_printed blank method = print_request-append (plain_head blank method) [] ∙ sym (append_assoc (print_blank blank) method rest_of)

is_plain_head : (blank : List LineEnd) (method : List ℕ) → IsToken method → IsRequestHead (plain_head blank method)
is_plain_head blank method token = record {
  method = token;
  target = (omega arith, one);
  target_text = IsUtf8-from_ascii (47 ∷ []) plain;
  minor = omega arith;
  fields = All-nil _;
}
  where
    plain : (i : ℕ) → get_or (47 ∷ []) i 0 < 128
    plain zero = omega arith
    plain (suc i) = omega arith

    one : AllPass is_uri_byte (47 ∷ [])
    one zero d h = refl
    one (suc i) d h = absurd (omega arith)

-- bytes up to a method's end can begin a head
may_begin : (front : List ℕ) (blank : List LineEnd) (method more : List ℕ) → IsToken method → print_blank blank ++ method ≡ front ++ more → NeverHasRequest front → ⊥
may_begin front blank method more token is none =
    none (more ++ rest_of) (plain_head blank method) []
    (is_plain_head blank method token, sym (append_assoc front more rest_of) ∙ ap (λ (t : List ℕ). t ++ rest_of) (sym is) ∙ sym (plain_printed blank method))

all_front : (xs ys : List ℕ) → AllPass is_uri_byte (xs ++ ys) → AllPass is_uri_byte xs
all_front xs ys all i d h =
    subst (λ (b : ℕ). IsTrue (is_uri_byte b)) (get_or_append_left xs ys d i h) (all i d (omega (arith, h, length-append xs ys)))

-- what can't begin a head, and doesn't end inside a target, does neither with more bytes
pub stays_outside : (front more : List ℕ) → NeverHasRequest front → (EndsInTarget front → ⊥) → EndsInTarget (front ++ more) → ⊥
stays_outside front more none out (blank, method, target, token, all, is) = elim (cases_lt (length (print_blank blank ++ method)) (length front)) [
  | inl longer ↦
      let cut = cut_at front more (print_blank blank ++ method) target 32 longer is in
      let rest = cut.0 in
      let tail : 32 ∷ (rest ++ more) ≡ 32 ∷ target = append_cancel_left (print_blank blank ++ method) _ _
      (sym (append_assoc (print_blank blank ++ method) (32 ∷ rest) more) ∙ ap (λ (t : List ℕ). t ++ more) (sym cut.1) ∙ is) in
      let same : rest ++ more ≡ target = append_cancel_left (32 ∷ []) _ _ tail in
      out (blank, method, rest, token, all_front rest more (subst (AllPass is_uri_byte) (sym same) all), cut.1)
  | inr shorter ↦
      may_begin front blank method (drop (length front) (print_blank blank ++ method)) token (begins_other front more (print_blank blank ++ method) (32 ∷ target) is shorter) none
]
