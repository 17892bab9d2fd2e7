-- The names of parts: a front, two numbers with a hyphen between, and an ending.
use Rattle.std.proofs.Common.{◌≡◌, ◌≢◌, ℕ, suc, ◌<◌, ◌≤◌, ◌^◌, List, [], ◌∷◌, ◌++◌, length, get_or, take, codes, refl, sym, ◌∙◌, ap, subst, Result, Ok, Err, IfSome, IfNone, arith, append_assoc, length-append, ⊎_elim}
use Rattle.std.specs.Fmt.{decimal}
use Rattle.std.specs.Str.Parse.{AllDigits, ParsesUnsigned, digits_value}
use Rattle.std.specs.Result.{result_ok}
use Rattle.std.proofs.lemmas.Fmt.{decimal_is_IsNumeral, decimal_injective, first_decimal, decimal_digit, decimal_nonempty, decimal-digits_value, parse-decimal, IsAscii-decimal}
use Rattle.std.proofs.lemmas.Str.Parse.{digit_at, parse_plain, numerals_by_value, tells_digits, IsNumeralModel}
use Rattle.std.proofs.lemmas.Str.{IsUtf8-from_ascii}
use Rattle.std.specs.Str.{IsUtf8}
use Rattle.std.proofs.lemmas.Bool.{cases_lt}
use Rattle.std.proofs.lemmas.List.{get_or_append_left, take_at, get_or_at}
use Rattle.dm_types.specs.Name.{part_name}
use Rattle.dm_part.specs.Naming.{OnePart}

-- no digit of a number is a hyphen
pub no_hyphen : (n k : ℕ) → n < 2 ^ 64 → k < length (decimal n) → get_or (decimal n) k 0 ≢ 45
no_hyphen n k small lt is = let digit = digit_at (decimal n) k (decimal_is_IsNumeral n small).0.1 lt in omega (arith, digit.0)

-- Where a hyphen stands behind two texts without one, the texts are the same.
same_cut : (a b c d : List ℕ) → a ++ 45 ∷ b ≡ c ++ 45 ∷ d → ((k : ℕ) → k < length a → get_or a k 0 ≢ 45) → ((k : ℕ) → k < length c → get_or c k 0 ≢ 45) → (a ≡ c) × (b ≡ d)
same_cut [] b [] d is lacks_a lacks_c = (refl, cc)
same_cut [] b (x ∷ c) d is lacks_a lacks_c = absurd (lacks_c 0 (omega arith) cc)
same_cut (x ∷ a) b [] d is lacks_a lacks_c = absurd (lacks_a 0 (omega arith) cc)
same_cut (x ∷ a) b (y ∷ c) d is lacks_a lacks_c =
    let tails : a ++ 45 ∷ b ≡ c ++ 45 ∷ d = cc in
    let heads : x ≡ y = cc in
    let rest = same_cut a b c d tails (λ k lt. lacks_a (suc k) (omega arith)) (λ k lt. lacks_c (suc k) (omega arith)) in
    let first = rest.0 in
    (cc, rest.1)

pub same_numbers : (id epoch other later : ℕ) → id < 2 ^ 64 → epoch < 2 ^ 64 → other < 2 ^ 64 → later < 2 ^ 64
    → decimal id ++ 45 ∷ decimal epoch ≡ decimal other ++ 45 ∷ decimal later → (id ≡ other) × (epoch ≡ later)
same_numbers id epoch other later a b c d is =
    let parts = same_cut (decimal id) (decimal epoch) (decimal other) (decimal later) is (λ k. no_hyphen id k a) (λ k. no_hyphen other k c) in
    (decimal_injective id other a c parts.0, decimal_injective epoch later b d parts.1)

-- a name in its three pieces
pub part_pieces : (id epoch : ℕ) → part_name id epoch ≡ codes "Unconfirmed " ++ ((decimal id ++ 45 ∷ decimal epoch) ++ codes ".crdownload")
part_pieces id epoch =
    ap (λ (xs : List ℕ). codes "Unconfirmed " ++ (xs ++ codes ".crdownload")) (append_assoc (decimal id) (45 ∷ []) (decimal epoch))

-- two texts before one ending
same_front : (a b ending : List ℕ) → a ++ ending ≡ b ++ ending → a ≡ b
same_front a b ending is =
    let long : length a ≡ length b = omega (arith, ap length is, length-append a ending, length-append b ending) in
    sym (take_at a ending (length a) refl) ∙ ap (take (length a)) is ∙ take_at b ending (length a) (sym long)

pub one_name : OnePart
one_name id epoch other later a b c d is =
    let whole = sym (part_pieces id epoch) ∙ is ∙ part_pieces other later in
    let tails : (decimal id ++ 45 ∷ decimal epoch) ++ codes ".crdownload" ≡ (decimal other ++ 45 ∷ decimal later) ++ codes ".crdownload" = cc in
    same_numbers id epoch other later (omega arith) (omega arith) (omega arith) (omega arith) (same_front _ _ (codes ".crdownload") tails)

-- no number begins with a plus, nor with a zero but 0 itself
pub no_sign : (digits : List ℕ) (n : ℕ) → n < 2 ^ 32 → digits ≡ decimal n → get_or digits 0 0 ≡ 43 → ⊥
no_sign digits n small is sign =
    let digit = digit_at (decimal n) 0 (decimal_is_IsNumeral n (omega arith)).0.1 (decimal_nonempty n (omega arith)) in
    let same : get_or (decimal n) 0 0 ≡ 43 = ap (λ (ds : List ℕ). get_or ds 0 0) (sym is) ∙ sign in
    omega (arith, digit.0)

pub no_zero : (digits : List ℕ) (n : ℕ) → n < 2 ^ 32 → digits ≡ decimal n → 1 < length digits → get_or digits 0 0 ≡ 48 → ⊥
no_zero digits n small is more zero_first =
    let same : get_or (decimal n) 0 0 ≡ 48 = ap (λ (ds : List ℕ). get_or ds 0 0) (sym is) ∙ zero_first in
    ⊎_elim
    (λ (some : 0 < n). omega (arith, first_decimal n some (omega arith)))
    (λ (none : n ≤ 0). let one : length (decimal n) ≡ 1 = ap length (decimal_digit n (omega arith)) in omega (arith, ap length is))
    (cases_lt 0 n)

-- what a number is read as, and from what
own : IsNumeralModel (AllDigits 10) (digits_value 10)
own = numerals_by_value (AllDigits 10) tells_digits

pub number_read : {E : Type 0} (digits text : List ℕ) (parsed : Result ℕ E) → text ≡ digits → ParsesUnsigned 32 10 text parsed
    → (get_or digits 0 0 ≢ 43) × (get_or digits 0 0 ≡ 48 → length digits ≡ 1) → IfSome (result_ok parsed) (λ n. digits ≡ decimal n)
number_read digits text (Err e) same parses plain = tt
number_read {E} digits text (Ok n) same parses plain =
    let mine : ParsesUnsigned {E = E} 32 10 digits (Ok n) = subst (λ (ds : List ℕ). ParsesUnsigned {E = E} 32 10 ds (Ok n)) same parses in
    let read = parse_plain own {E = E} 32 digits (Ok n) mine plain.0 in
    let spelled = decimal-digits_value own digits read.0.0 read.0.1 plain.1 (omega (arith, read.0.2)) in
    sym spelled ∙ ap decimal (sym read.1)

pub number_not_read : {E : Type 0} (digits text : List ℕ) (parsed : Result ℕ E) → text ≡ digits → ParsesUnsigned 32 10 text parsed
    → IfNone (result_ok parsed) ((n : ℕ) → n < 2 ^ 32 → digits ≢ decimal n)
number_not_read digits text (Ok n) same parses = tt
number_not_read {E} digits text (Err e) same parses = λ n small is. let found = parse-decimal {E = E} 32 n text (Err e) small (omega arith) (same ∙ is) parses in cc

-- digits are UTF-8
pub number_utf8 : (digits : List ℕ) (n : ℕ) → n < 2 ^ 32 → digits ≡ decimal n → IsUtf8 digits
number_utf8 digits n small is = subst IsUtf8 (sym is) (IsUtf8-from_ascii (decimal n) (IsAscii-decimal n (omega arith)))

-- the two numbers are cut at the first hyphen
pub cut_numbers : (text a b : List ℕ) → text ≡ a ++ 45 ∷ b → ((k : ℕ) → k < length a → get_or text k 0 ≢ 45)
    → (first second : ℕ) → first < 2 ^ 32 → text ≡ decimal first ++ 45 ∷ decimal second → (a ≡ decimal first) × (b ≡ decimal second)
cut_numbers text a b parts lacks first second small is =
    same_cut a b (decimal first) (decimal second) (sym parts ∙ is)
    (λ k lt hyphen. lacks k lt (ap (λ (xs : List ℕ). get_or xs k 0) parts ∙ get_or_append_left a (45 ∷ b) 0 k lt ∙ hyphen))
    (λ k. no_hyphen first k (omega arith))

pub no_cut : (text : List ℕ) → ((k : ℕ) → k < length text → get_or text k 0 ≢ 45) → (first second : ℕ) → text ≡ decimal first ++ 45 ∷ decimal second → ⊥
no_cut text lacks first second is =
    let long : length (decimal first) < length text = omega (arith, ap length is, length-append (decimal first) (45 ∷ decimal second)) in
    lacks (length (decimal first)) long (ap (λ (xs : List ℕ). get_or xs (length (decimal first)) 0) is ∙ get_or_at (decimal first) 45 (decimal second) 0 (length (decimal first)) refl)

-- the numbers of a part's name
pub same_numbers_text : (numbers : List ℕ) (id epoch : ℕ) → codes "Unconfirmed " ++ (numbers ++ codes ".crdownload") ≡ part_name id epoch → numbers ≡ decimal id ++ 45 ∷ decimal epoch
same_numbers_text numbers id epoch is =
    let whole = is ∙ part_pieces id epoch in
    let tails : numbers ++ codes ".crdownload" ≡ (decimal id ++ 45 ∷ decimal epoch) ++ codes ".crdownload" = cc in
    same_front _ _ (codes ".crdownload") tails
