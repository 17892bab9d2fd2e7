-- What decimal digits stand for, one digit more, and that it fits.
use Rattle.std.proofs.Common.{◌≡◌, ℕ, ◌+◌, ◌-◌, ◌*◌, ◌^◌, ◌<◌, ◌≤◌, List, [], ◌∷◌, ◌++◌, length, take, get_or, arith, true, add-one}
use Rattle.std.specs.Char.{is_ascii_digit}
use Rattle.std.proofs.lemmas.List.{length_push, take_more, length-take-le}
use Rattle.std.proofs.lemmas.Bool.Decides.{nat_tests}
use Rattle.std.proofs.Math.Nat.{pow-suc, pow-le-pow_right, mul-le-mul_right}
use Rattle.dm_types.specs.Bytes.{Each}
use Rattle.dm_tag.specs.Number.{decimal}
use Rattle.dm_tag.proofs.CutLemmas.{Each-take, Each-at}

pub decimal_push : (ds : List ℕ) (d : ℕ) → decimal (ds ++ d ∷ []) ≡ decimal ds * 10 + (d - 48)
decimal_push [] d = omega arith
decimal_push (c ∷ ds) d =
    let more : 10 ^ (length ds + 1) ≡ 10 ^ length ds * 10 = rw add-one (pow-suc 10 (length ds)) in
    rw (decimal_push ds d, length_push ds d, more) (omega arith)

pub digit_range : (d : ℕ) → is_ascii_digit d ≡ true → (48 ≤ d) × (d ≤ 57)
digit_range d h = grind (arith, nat_tests)

pub decimal_below : (ds : List ℕ) → Each is_ascii_digit ds → decimal ds < 10 ^ length ds
decimal_below [] h = omega arith
decimal_below (d ∷ ds) h =
    let small = digit_range d h.0 in
    let rest = decimal_below ds h.1 in
    let digit : d - 48 ≤ 9 = omega arith in
    let part = mul-le-mul_right {m = d - 48} {n = 9} (10 ^ length ds) digit in
    let more = pow-suc 10 (length ds) in
    omega arith

-- the digits so far, and one more of at most 19
pub decimal_more : (ds : List ℕ) (i : ℕ) → Each is_ascii_digit ds → length ds ≤ 19 → i < length ds
    → (decimal (take (i + 1) ds) ≡ decimal (take i ds) * 10 + (get_or ds i 0 - 48)) × (48 ≤ get_or ds i 0) × (get_or ds i 0 ≤ 57) × (decimal (take i ds) < 10 ^ 18)
decimal_more ds i each most lt =
    let range = digit_range (get_or ds i 0) (Each-at is_ascii_digit ds i 0 lt each) in
    let below = decimal_below (take i ds) (Each-take is_ascii_digit i ds each) in
    let len = length-take-le i ds (omega arith) in
    let least : 0 < 10 = omega arith in
    let short : length (take i ds) ≤ 18 = omega arith in
    let bound = pow-le-pow_right {n = 10} least {i = length (take i ds)} {j = 18} short in
    (rw (take_more ds i 0 lt) (decimal_push (take i ds) (get_or ds i 0)), range.0, range.1, omega arith)
