-- The bytes that a number generates, from a place on.
use Rattle.std.proofs.Common.{◌≡◌, ℕ, ◌+◌, ◌-◌, ◌*◌, ◌/◌, ◌%◌, ◌^◌, ◌<◌, ◌≤◌, List, [], ◌∷◌, ◌++◌, length, take, drop, get_or, min, map, Some, None, inl, inr, refl, sym, ap, ◌∙◌, arith, length-drop}
use Rattle.std.specs.Prelude.{slice_get}
use Rattle.std.proofs.Math.Nat.{add-mod, mod-add-mod, add-mod-mod}
use Rattle.std.proofs.lemmas.List.{ext_get_or, get_or-drop, take-append-drop}
use Rattle.std.proofs.lemmas.List.FromFn.{length-map-range_with_len, get_or-map-range_with_len, take-map-range_with_len}
use Rattle.std.proofs.lemmas.Option.{slice_get_cases, same_Some, none-some}
use Rattle.dm_edge.specs.Origin.{generated_byte}
use Rattle.dm_generated.specs.Content.{bytes_from}

pub bytes_length : (number first count : ℕ) → length (bytes_from number first count) ≡ count
bytes_length number first count = length-map-range_with_len (generated_byte number) first count

pub bytes_at : (number first count k d : ℕ) → k < count → get_or (bytes_from number first count) k d ≡ generated_byte number (first + k)
bytes_at number first count k d below = get_or-map-range_with_len (generated_byte number) first count k (first + k) d below refl

pub byte_found : (number first count place byte : ℕ) → slice_get (bytes_from number first count) place ≡ Some byte → byte ≡ generated_byte number (first + place)
byte_found number first count place byte found = elim ((slice_get_cases (bytes_from number first count) place).1) [
  | inl one ↦
      let same : one.0 ≡ byte = same_Some one.0 byte (sym one.2 ∙ found) in
      let below : place < count = omega (arith, one.1, bytes_length number first count) in
      sym same ∙ sym one.3 ∙ bytes_at number first count place one.0 below
  | inr past ↦ absurd (none-some byte (sym past.1 ∙ found))
]

pub bytes_take : (number first count k : ℕ) → k ≤ count → take k (bytes_from number first count) ≡ bytes_from number first k
bytes_take number first count k few = take-map-range_with_len (generated_byte number) first count k few

pub bytes_drop : (number first count k : ℕ) → k ≤ count → drop k (bytes_from number first count) ≡ bytes_from number (first + k) (count - k)
bytes_drop number first count k few =
    let long = bytes_length number first count in
    let rest = bytes_length number (first + k) (count - k) in
    ext_get_or 0 (drop k (bytes_from number first count)) (bytes_from number (first + k) (count - k)) (omega (arith, length-drop k (bytes_from number first count), long, rest)) (λ i below.
    let inside : k + i < count = omega (arith, below, length-drop k (bytes_from number first count), long) in
    let place : first + (k + i) ≡ first + k + i = omega arith in
    get_or-drop k (bytes_from number first count) i 0
    ∙ bytes_at number first count (k + i) 0 inside
    ∙ ap (generated_byte number) place
    ∙ sym (bytes_at number (first + k) (count - k) i 0 (omega (arith, inside))))

-- a list that has each byte is these bytes
pub bytes_all : (number first : ℕ) (bytes : List ℕ) → ((k : ℕ) → k < length bytes → get_or bytes k 0 ≡ generated_byte number (first + k)) → bytes ≡ bytes_from number first (length bytes)
bytes_all number first bytes each =
    ext_get_or 0 bytes (bytes_from number first (length bytes)) (sym (bytes_length number first (length bytes))) (λ i below. each i below ∙ sym (bytes_at number first (length bytes) i 0 below))

-- sums and products that wrap come to the sum of the whole
pub wraps : (a b m : ℕ) → (a % m + b % m) % m ≡ (a + b) % m
wraps a b m = sym (add-mod a b m)

-- some bytes, and then more of them
pub bytes_more : (number first a b : ℕ) → bytes_from number first (a + b) ≡ bytes_from number first a ++ bytes_from number (first + a) b
bytes_more number first a b =
    let rest : (a + b) - a ≡ b = omega arith in
    sym (take-append-drop a (bytes_from number first (a + b)))
    ∙ ap (λ (xs : List ℕ). xs ++ drop a (bytes_from number first (a + b))) (bytes_take number first (a + b) a (omega arith))
    ∙ ap (λ (xs : List ℕ). bytes_from number first a ++ xs) (bytes_drop number first (a + b) a (omega arith) ∙ ap (bytes_from number (first + a)) rest)
