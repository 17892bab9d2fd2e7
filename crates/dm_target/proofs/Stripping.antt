-- Texts at the front of others, and the place of the first space.
use Rattle.std.proofs.Common.{◌≡◌, ◌∙◌, ℕ, ◌+◌, ◌<◌, Bool, true, false, ◌&&◌, nat_lt, List, [], ◌∷◌, ◌++◌, length, take, drop, Option, Some, None, refl, sym, ap, subst, arith, Bor, append_assoc}
use Rattle.std.specs.Prelude.{IfNone, IfSome, MatchOption}
use Rattle.std.specs.List.{list_all}
use Rattle.std.specs.Str.{bytes_eq}
use Rattle.std.proofs.lemmas.Bool.{false≢true, lt-ltb, ltb-true}
use Rattle.std.proofs.lemmas.List.{append-nil, take-append-drop, take_at}
use Rattle.std.proofs.lemmas.Grind.{flat_map-append}
use Rattle.std.proofs.lemmas.Slice.Eq.{bytes_eq-Decides}
use Rattle.httparse.specs.Grammar.{LineEnd, crlf, is_token, is_uri_byte, lf, print_blank, print_end}
use Rattle.dm_target.specs.Target.{BeginsEnd, BeginsLine, is_front, space_in}

pub stripped : (r : Option (Bor (List ℕ))) (line text : List ℕ)
    → MatchOption r (bytes_eq (take (length text) line) text ≡ false) (λ x. (bytes_eq (take (length text) line) text ≡ true) × (x.now ≡ drop (length text) line) × (length x.now + length text ≡ length line))
    → IfSome r (λ rest. line ≡ text ++ rest.now)
stripped None line text is = tt
stripped (Some x) line text is =
    let same = (bytes_eq-Decides (take (length text) line) text).0 is.0 in
    sym (take-append-drop (length text) line) ∙ ap (λ (t : List ℕ). t ++ drop (length text) line) same ∙ ap (λ (t : List ℕ). text ++ t) (sym is.1)

pub unstripped : (r : Option (Bor (List ℕ))) (line text : List ℕ)
    → MatchOption r (bytes_eq (take (length text) line) text ≡ false) (λ x. (bytes_eq (take (length text) line) text ≡ true) × (x.now ≡ drop (length text) line) × (length x.now + length text ≡ length line))
    → IfNone r ((more : List ℕ) → line ≡ text ++ more → ⊥)
unstripped None line text is = λ more e.
    let front : take (length text) line ≡ text = ap (take (length text)) e ∙ take_at text more (length text) refl in
    false≢true (sym is ∙ (bytes_eq-Decides (take (length text) line) text).1 front)
unstripped (Some x) line text is = tt

pub no_end : (line : List ℕ) → ((more : List ℕ) → line ≡ 10 ∷ more → ⊥) → ((more : List ℕ) → line ≡ 13 ∷ 10 ∷ more → ⊥) → BeginsLine line
no_end line feed return crlf more is = return more is
no_end line feed return lf more is = feed more is

same_test : (n : ℕ) → nat_lt n n ≡ false
same_test n = by (nat_lt n n) refl
  where
    by : (b : Bool) → nat_lt n n ≡ b → nat_lt n n ≡ false
    by true e = let less = ltb-true n n e in absurd (omega arith)
    by false e = e

-- whether a front stands there, by the place of the first space
pub front_at : (line : List ℕ) (at : ℕ) → space_in line ≡ at → at < length line → is_front line ≡ (is_token (take at line) && list_all is_uri_byte (drop (at + 1) line))
front_at line at found within =
    ap (λ (n : ℕ). nat_lt n (length line) && is_token (take n line) && list_all is_uri_byte (drop (n + 1) line)) found
    ∙ ap (λ (b : Bool). b && is_token (take at line) && list_all is_uri_byte (drop (at + 1) line)) (lt-ltb at (length line) within)

pub no_front : (line : List ℕ) → space_in line ≡ length line → is_front line ≡ false
no_front line none =
    ap (λ (n : ℕ). nat_lt n (length line) && is_token (take n line) && list_all is_uri_byte (drop (n + 1) line)) none
    ∙ ap (λ (b : Bool). b && is_token (take (length line) line) && list_all is_uri_byte (drop (length line + 1) line)) (same_test (length line))

pub one_more_end : (front line rest : List ℕ) (blank : List LineEnd) (end : LineEnd) → front ≡ print_blank blank ++ line → line ≡ print_end end ++ rest
    → front ≡ print_blank (blank ++ end ∷ []) ++ rest
one_more_end front line rest blank end is ends =
    let more : print_blank (blank ++ end ∷ []) ≡ print_blank blank ++ print_end end =
    flat_map-append print_end blank (end ∷ []) ∙ ap (λ (t : List ℕ). print_blank blank ++ t) (append-nil (print_end end)) in
    is ∙ ap (λ (t : List ℕ). print_blank blank ++ t) ends ∙ sym (append_assoc (print_blank blank) (print_end end) rest) ∙ ap (λ (t : List ℕ). t ++ rest) (sym more)
