-- The digits of a number, as each reader sees them.
use Rattle.std.proofs.Common.{◌≡◌, ℕ, zero, suc, ◌+◌, ◌-◌, ◌*◌, ◌^◌, ◌<◌, ◌≤◌, Bool, true, false, not, ◌&&◌, List, [], ◌∷◌, ◌++◌, length, get_or, codes, refl, sym, ap, ◌∙◌, subst, arith, append-nil}
use Rattle.std.specs.Char.{is_ascii_digit}
use Rattle.std.specs.Fmt.{decimal}
use Rattle.std.specs.List.{list_all}
use Rattle.std.specs.Str.{IsUtf8}
use Rattle.std.specs.Str.Parse.{AllDigits}
use Rattle.std.proofs.lemmas.Fmt.{IsAscii-decimal, decimal_is_IsNumeral, decimal_nonempty, digits_value-decimal, length-decimal-le}
use Rattle.std.proofs.lemmas.List.Sums.{AllPass-from_list_all}
use Rattle.std.proofs.lemmas.Str.{IsUtf8-from_ascii}
use Rattle.std.proofs.lemmas.Str.Parse.{IsNumeralModel, numerals_by_weight, tells_digits, digit_from_value}
use Rattle.dm_types.specs.Bytes.{Cuts, Each, Stops}
use Rattle.dm_tag.specs.Number.{IsNumber}
use Rattle.dm_tag.specs.Number as numbers
use Rattle.dm_tag.proofs.CutLemmas.{Each-from_list_all, run_one}

digits_are : (k : ℕ) → k < 10 → get_or (codes "0123456789") k 0 ≡ 48 + k
digits_are zero below = refl
digits_are (suc zero) below = refl
digits_are (suc (suc zero)) below = refl
digits_are (suc (suc (suc zero))) below = refl
digits_are (suc (suc (suc (suc zero)))) below = refl
digits_are (suc (suc (suc (suc (suc zero))))) below = refl
digits_are (suc (suc (suc (suc (suc (suc zero)))))) below = refl
digits_are (suc (suc (suc (suc (suc (suc (suc zero))))))) below = refl
digits_are (suc (suc (suc (suc (suc (suc (suc (suc zero)))))))) below = refl
digits_are (suc (suc (suc (suc (suc (suc (suc (suc (suc zero))))))))) below = refl
digits_are (suc (suc (suc (suc (suc (suc (suc (suc (suc (suc k)))))))))) below = absurd (omega arith)

-- a digit passes each test that the ten digits pass
digit_passes : (test : ℕ → Bool) (d : ℕ) → list_all test (codes "0123456789") ≡ true → 48 ≤ d → d ≤ 57 → test d ≡ true
digit_passes test d all low high =
    let same : get_or (codes "0123456789") (d - 48) 0 ≡ d = digits_are (d - 48) (omega arith) ∙ omega arith in
    ap test (sym same) ∙ AllPass-from_list_all test (codes "0123456789") all (d - 48) 0 (omega arith)

digits_pass : (test : ℕ → Bool) (ds : List ℕ) → list_all test (codes "0123456789") ≡ true → AllDigits 10 ds → list_all test ds ≡ true
digits_pass test [] all is = refl
digits_pass test (d ∷ ds) all is =
    let range = digit_from_value d is.0 in
    rw (digit_passes test d all range.0 range.1) (digits_pass test ds all is.1)

-- so the digits of a number do
pub decimal_passes : (test : ℕ → Bool) (n : ℕ) → list_all test (codes "0123456789") ≡ true → n < 2 ^ 64 → list_all test (decimal n) ≡ true
decimal_passes test n all small = digits_pass test (decimal n) all (decimal_is_IsNumeral n small).0.1

own : IsNumeralModel (AllDigits 10) numbers.decimal
own = numerals_by_weight (AllDigits 10) tells_digits numbers.decimal (record { empty = refl; more = λ c cs range. refl })

pub decimal_digits : (n : ℕ) → n < 2 ^ 64 → Each is_ascii_digit (decimal n)
decimal_digits n small = Each-from_list_all is_ascii_digit (decimal n) (decimal_passes is_ascii_digit n refl small)

-- a printed number is read as this number
pub number_is : (n : ℕ) → n < 2 ^ 62 → IsNumber (decimal n) n
number_is n small = record {
  each = decimal_digits n (omega arith);
  some = decimal_nonempty n (omega arith);
  most = length-decimal-le 19 n (omega arith) (omega arith) (omega arith);
  value = sym (digits_value-decimal own n (omega arith));
}

-- the digits at the front of a printed number are all of it
pub cut_number : (bytes digits rest : List ℕ) (n : ℕ) (more : List ℕ) → Cuts is_ascii_digit bytes digits rest → n < 2 ^ 64 → Stops is_ascii_digit more → bytes ≡ decimal n ++ more → (digits ≡ decimal n) × (rest ≡ more)
cut_number bytes digits rest n more cuts small stops is = run_one is_ascii_digit digits (decimal n) rest more cuts.each (decimal_digits n small) cuts.stops stops (sym cuts.parts ∙ is)

pub number_utf8 : (digits : List ℕ) (n : ℕ) → n < 2 ^ 64 → digits ≡ decimal n → IsUtf8 digits
number_utf8 digits n small is = subst IsUtf8 (sym is) (IsUtf8-from_ascii (decimal n) (IsAscii-decimal n small))
