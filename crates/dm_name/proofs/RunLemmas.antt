-- What stands before and in a run at the end of a text.
use Rattle.std.proofs.Common.{◌≡◌, ℕ, ◌+◌, ◌-◌, ◌<◌, ◌≤◌, Bool, true, false, List, length, drop, get_or, sym, ap, ◌∙◌, arith}
use Rattle.std.specs.Prelude.{reverse}
use Rattle.std.specs.List.{suffix_len, All}
use Rattle.std.proofs.lemmas.List.{get_or-reverse, length-reverse, length-drop, get_or-drop}
use Rattle.std.proofs.lemmas.List.Elements.{All-from_get_or}
use Rattle.std.proofs.lemmas.List.Sums.{prefix_len_passes, prefix_len_stops, suffix_len-le-length}

-- the byte at a place of the run passes
pub in_run : (p : ℕ → Bool) (xs : List ℕ) (j : ℕ) → length xs - suffix_len p xs ≤ j → j < length xs → p (get_or xs j 0) ≡ true
in_run p xs j from within =
    let most = suffix_len-le-length p xs in
    let k = length xs - 1 - j in
    let back : length xs - 1 - k ≡ j = omega arith in
    let inside : k < suffix_len p xs = omega arith in
    let turned = get_or-reverse xs k 0 (omega arith) in
    ap p (ap (λ (i : ℕ). get_or xs i 0) (sym back) ∙ sym turned) ∙ prefix_len_passes p (reverse xs) k 0 inside

-- the byte before the run doesn't
pub before_run : (p : ℕ → Bool) (xs : List ℕ) → suffix_len p xs < length xs → p (get_or xs (length xs - suffix_len p xs - 1) 0) ≡ false
before_run p xs short =
    let k = suffix_len p xs in
    let back : length xs - 1 - k ≡ length xs - k - 1 = omega arith in
    let turned = get_or-reverse xs k 0 short in
    let there : k < length (reverse xs) = omega (arith, length-reverse xs) in
    ap p (ap (λ (i : ℕ). get_or xs i 0) (sym back) ∙ sym turned) ∙ prefix_len_stops p (reverse xs) 0 there

-- each byte of the run passes
pub all_in_run : (p : ℕ → Bool) (xs : List ℕ) → All (λ b. p b ≡ true) (drop (length xs - suffix_len p xs) xs)
all_in_run p xs =
    All-from_get_or (λ b. p b ≡ true) (drop (length xs - suffix_len p xs) xs) 0
    (λ i lt. let len = length-drop (length xs - suffix_len p xs) xs in ap p (get_or-drop (length xs - suffix_len p xs) xs i 0) ∙ in_run p xs (length xs - suffix_len p xs + i) (omega arith) (omega arith))
