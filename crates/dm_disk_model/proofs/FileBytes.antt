-- Bytes of one file: what a write leaves at each place.
use Rattle.std.proofs.Common.{◌≡◌, ⊎_elim, ℕ, ◌+◌, ◌-◌, ◌<◌, ◌≤◌, max, List, ◌++◌, length, get_or, take, drop, replicate, refl, sym, ◌∙◌, ap, arith, length-append, length-drop, get_or-take, get_or-drop}
use Rattle.std.proofs.lemmas.List.{get_or_append_left, get_or-append_right, get_or-replicate, get_or_past, length-take-le, length-replicate}
use Rattle.std.proofs.lemmas.Bool.{cases_lt}
use Rattle.dm_disk_model.specs.File.{overwrite, SameOutside}

-- the bytes with zeros behind, up to a place
padded : List ℕ → ℕ → List ℕ
padded old at = old ++ replicate (at - length old) 0

length-padded : (old : List ℕ) (at : ℕ) → at ≤ length (padded old at)
unfolding padded
length-padded old at = omega (arith, length-append old (replicate (at - length old) 0), length-replicate {A = ℕ} (at - length old) 0)

get_or-padded : (old : List ℕ) (at i : ℕ) → i < at → get_or (padded old at) i 0 ≡ get_or old i 0
unfolding padded
get_or-padded old at i lt =
    ⊎_elim
    (λ (short : i < length old). get_or_append_left old (replicate (at - length old) 0) 0 i short)
    (λ (far : length old ≤ i). get_or-append_right old (replicate (at - length old) 0) (length old) i 0 refl far ∙ get_or-replicate (at - length old) (i - length old) 0 0 (omega arith) ∙ sym (get_or_past old i 0 far))
    (cases_lt i (length old))

front : List ℕ → ℕ → List ℕ
front old at = take at (padded old at)

length-front : (old : List ℕ) (at : ℕ) → length (front old at) ≡ at
unfolding front
length-front old at = length-take-le at (padded old at) (length-padded old at)

overwrite_is : (old : List ℕ) (at : ℕ) (bytes : List ℕ) → overwrite old at bytes ≡ (front old at ++ bytes) ++ drop (at + length bytes) old
unfolding front padded
overwrite_is old at bytes = refl

length-middle : (old : List ℕ) (at : ℕ) (bytes : List ℕ) → length (front old at ++ bytes) ≡ at + length bytes
length-middle old at bytes = omega (arith, length-append (front old at) bytes, length-front old at)

pub length-overwrite : (old : List ℕ) (at : ℕ) (bytes : List ℕ) → length (overwrite old at bytes) ≡ max (length old) (at + length bytes)
length-overwrite old at bytes =
    ap length (overwrite_is old at bytes) ∙ omega (arith, length-append (front old at ++ bytes) (drop (at + length bytes) old), length-middle old at bytes, length-drop (at + length bytes) old)

pub overwrite_before : (old : List ℕ) (at : ℕ) (bytes : List ℕ) (i : ℕ) → i < at → get_or (overwrite old at bytes) i 0 ≡ get_or old i 0
unfolding front
overwrite_before old at bytes i lt =
    ap (λ (xs : List ℕ). get_or xs i 0) (overwrite_is old at bytes)
    ∙ get_or_append_left (front old at ++ bytes) (drop (at + length bytes) old) 0 i (omega (arith, length-middle old at bytes))
    ∙ get_or_append_left (front old at) bytes 0 i (omega (arith, length-front old at))
    ∙ get_or-take at (padded old at) i 0 lt
    ∙ get_or-padded old at i lt

pub overwrite_within : (old : List ℕ) (at : ℕ) (bytes : List ℕ) (i : ℕ) → at ≤ i → i < at + length bytes → get_or (overwrite old at bytes) i 0 ≡ get_or bytes (i - at) 0
overwrite_within old at bytes i le lt =
    ap (λ (xs : List ℕ). get_or xs i 0) (overwrite_is old at bytes)
    ∙ get_or_append_left (front old at ++ bytes) (drop (at + length bytes) old) 0 i (omega (arith, length-middle old at bytes))
    ∙ get_or-append_right (front old at) bytes at i 0 (length-front old at) le

pub overwrite_after : (old : List ℕ) (at : ℕ) (bytes : List ℕ) (i : ℕ) → at + length bytes ≤ i → get_or (overwrite old at bytes) i 0 ≡ get_or old i 0
overwrite_after old at bytes i le =
    let same : (at + length bytes) + (i - (at + length bytes)) ≡ i = omega arith in
    ap (λ (xs : List ℕ). get_or xs i 0) (overwrite_is old at bytes)
    ∙ get_or-append_right (front old at ++ bytes) (drop (at + length bytes) old) (at + length bytes) i 0 (length-middle old at bytes) le
    ∙ get_or-drop (at + length bytes) old (i - (at + length bytes)) 0
    ∙ ap (λ (k : ℕ). get_or old k 0) same

-- a write changes its range alone
pub overwrite_outside : (old : List ℕ) (at : ℕ) (bytes : List ℕ) → SameOutside at (at + length bytes) old (overwrite old at bytes)
overwrite_outside old at bytes = record {
  others = λ i outside. ⊎_elim (overwrite_before old at bytes i) (overwrite_after old at bytes i) outside;
  no_shorter = omega (arith, length-overwrite old at bytes);
  no_longer = omega (arith, length-overwrite old at bytes);
}
