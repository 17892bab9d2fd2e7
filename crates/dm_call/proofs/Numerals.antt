-- Digits that parse as a number.
use Rattle.std.proofs.Common.{◌≡◌, ℕ, ◌<◌, ◌≤◌, ◌^◌, Bool, true, false, ◌&&◌, List, [], ◌∷◌, length, drop, nat_lt, nat_le, Option, Some, None, Result, Ok, Err, refl, sym, ap, ◌∙◌, subst, arith, if◌then◌else◌, cond, ◌==◌}
use Rattle.std.specs.List.{list_all}
use Rattle.std.specs.Char.{is_ascii_digit, digit_value}
use Rattle.std.specs.Str.Parse.{AllDigits, IsNumeral, ParsesUnsigned, digits_value, without_leading_plus}
use Rattle.std.specs.Result.{result_ok}
use Rattle.std.proofs.lemmas.Bool.{false≢true, lt-ltb, le-leb, ltb-true}
use Rattle.dm_call.specs.Numbers.{is_number, number_of}

pub both : (a b : Bool) → (a && b) ≡ true → (a ≡ true) × (b ≡ true)
both true true is = (refl, refl)
both true false is = absurd (false≢true is)
both false b is = absurd (false≢true is)

and_true : (a b : Bool) → a ≡ true → b ≡ true → (a && b) ≡ true
and_true true b p q = q
and_true false b p q = absurd (false≢true p)

pub chosen : {X : Type 0} (b : Bool) (x y : X) → b ≡ true → (if b then x else y) ≡ x
chosen true x y is = refl
chosen false x y is = absurd (false≢true is)

pub passed : {X : Type 0} (b : Bool) (x y : X) → (b ≡ true → ⊥) → (if b then x else y) ≡ y
passed true x y never = absurd (never refl)
passed false x y never = refl

no_plus : (c : ℕ) → is_ascii_digit c ≡ true → (c == 43) ≡ false
no_plus c is = grind arith

ten : (c : ℕ) → is_ascii_digit c ≡ true → digit_value c < 10
ten c is = grind arith

first_drop : (b : Bool) (digits : List ℕ) → b ≡ false → drop (cond b 1 0) digits ≡ digits
first_drop true digits is = absurd (false≢true (sym is))
first_drop false digits is = refl

unsigned : (digits : List ℕ) → list_all is_ascii_digit digits ≡ true → without_leading_plus digits ≡ digits
unsigned [] all = refl
unsigned (c ∷ cs) all = first_drop (c == 43) (c ∷ cs) (no_plus c (both (is_ascii_digit c) (list_all is_ascii_digit cs) all).0)

all_digits : (digits : List ℕ) → list_all is_ascii_digit digits ≡ true → AllDigits 10 digits
all_digits [] all = tt
all_digits (c ∷ cs) all = let b = both (is_ascii_digit c) (list_all is_ascii_digit cs) all in (ten c b.0, all_digits cs b.1)

pub parsed : {E : Type 0} (digits : List ℕ) (r : Result ℕ E) → length digits ≤ 10 → list_all is_ascii_digit digits ≡ true → ParsesUnsigned 32 10 digits r → result_ok r ≡ number_of digits
parsed digits (Ok n) short all reads =
    let plain = unsigned digits all in
    let some : 0 < length digits = subst (λ (d : List ℕ). 0 < length d) plain reads.0.0.0 in
    let fits : digits_value 10 digits < 2 ^ 32 = subst (λ (d : List ℕ). digits_value 10 d < 2 ^ 32) plain reads.0.1 in
    let value : n ≡ digits_value 10 digits = reads.1 ∙ ap (digits_value 10) plain in
    let good : is_number digits ≡ true =
    and_true _ _ (and_true _ _ (and_true _ _ (lt-ltb 0 (length digits) some) (le-leb (length digits) 10 short)) all) (lt-ltb (digits_value 10 digits) (2 ^ 32) fits) in
    ap Some value ∙ sym (chosen (is_number digits) (Some (digits_value 10 digits)) None good)
parsed digits (Err e) short all reads =
    sym (passed (is_number digits) (Some (digits_value 10 digits)) None (λ good.
    let three = both (nat_lt 0 (length digits) && nat_le (length digits) 10 && list_all is_ascii_digit digits) (nat_lt (digits_value 10 digits) (2 ^ 32)) good in
    let two = both (nat_lt 0 (length digits) && nat_le (length digits) 10) (list_all is_ascii_digit digits) three.0 in
    let one = both (nat_lt 0 (length digits)) (nat_le (length digits) 10) two.0 in
    subst (λ (d : List ℕ). (IsNumeral 10 d × (digits_value 10 d < 2 ^ 32)) → ⊥) (unsigned digits all) reads
    ((ltb-true 0 (length digits) one.0, all_digits digits all), ltb-true (digits_value 10 digits) (2 ^ 32) three.1)))
