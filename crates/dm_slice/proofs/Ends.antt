-- Where a cover ends, and what lies in front of and behind the room of one of its slices.
use Rattle.std.proofs.Common.{◌≡◌, ℕ, zero, suc, ◌+◌, ◌-◌, ◌^◌, ◌<◌, ◌≤◌, ◌⊎◌, ◌↔◌, List, [], ◌∷◌, length, Option, Some, inl, inr, refl, ap, ◌∙◌, arith}
use Rattle.std.proofs.lemmas.Bool.{cases_lt}
use Rattle.dm_types.specs.declared.slices.Slice.{Slice}
use Rattle.dm_slice.specs.Words.{end_of, HasByte, IsApart, IsNormal, cover_end}
use Rattle.dm_slice.specs.Cover.{IsAdded, IsCover, IsRising, SamePlaces, limit_at, limit_of, next_of}

some_same : {x y : ℕ} → Some x ≡ Some y → x ≡ y
some_same e = cc

-- a byte of rising slices isn't in front of them
byte-behind : (end : ℕ) (slices : List Slice) (place : ℕ) → IsRising end slices → HasByte slices place → end ≤ place
byte-behind end [] place rising has = absurd has
byte-behind end (slice ∷ rest) place rising (inl here) = let low = rising.0 in omega arith
byte-behind end (slice ∷ rest) place rising (inr later) = let low = rising.0 in let past = byte-behind (end_of slice) rest place rising.2 later in omega arith

-- nor in front of where the first of them begins
byte-limit : (end : ℕ) (slices : List Slice) (place : ℕ) → IsRising end slices → HasByte slices place → limit_of slices ≤ place
byte-limit end [] place rising has = absurd has
byte-limit end (slice ∷ rest) place rising has = byte-behind slice.first (slice ∷ rest) place (omega arith, rising.1, rising.2) has

limit-rising : (end : ℕ) (slices : List Slice) → IsRising end slices → end ≤ 2 ^ 40 → end ≤ limit_of slices
limit-rising end [] rising most = most
limit-rising end (slice ∷ rest) rising most = rising.0

-- the place behind a slice isn't in front of all of them
next-rising : (end : ℕ) (slices : List Slice) (k at : ℕ) → IsRising end slices → next_of slices k ≡ Some at → end ≤ at
next-rising end [] k at rising there = absurd (cc)
next-rising end (slice ∷ rest) zero at rising there = let same = some_same there in let low = rising.0 in omega arith
next-rising end (slice ∷ rest) (suc k) at rising there = let low = rising.0 in let later = next-rising (end_of slice) rest k at rising.2 there in omega arith

free-rising : (end : ℕ) (slices : List Slice) (k at n place : ℕ) → IsRising end slices → next_of slices k ≡ Some at → at + n ≤ limit_at slices k → HasByte slices place → (place < at) ⊎ (at + n ≤ place)
free-rising end [] k at n place rising there room has = absurd has
free-rising end (slice ∷ rest) zero at n place rising there room (inl here) = let same = some_same there in inl (omega arith)
free-rising end (slice ∷ rest) zero at n place rising there room (inr later) = let past = byte-limit (end_of slice) rest place rising.2 later in inr (omega arith)
free-rising end (slice ∷ rest) (suc k) at n place rising there room (inl here) = let later = next-rising (end_of slice) rest k at rising.2 there in inl (omega arith)
free-rising end (slice ∷ rest) (suc k) at n place rising there room (inr later) = free-rising (end_of slice) rest k at n place rising.2 there room later

-- Each byte of a cover lies below the place behind one of its slices, or behind the room of that slice.
pub free_at : (cover : List Slice) (k at n place : ℕ) → IsCover cover → next_of cover k ≡ Some at → at + n ≤ limit_at cover k → HasByte cover place → (place < at) ⊎ (at + n ≤ place)
free_at [] k at n place is there room has = absurd is
free_at (slice ∷ rest) k at n place is there room has = free-rising 0 (slice ∷ rest) k at n place is.1 there room has

-- the places that a slice gets by growing are those from its end on
pub added_range : (slices : List Slice) (k at n place : ℕ) → next_of slices k ≡ Some at → IsAdded slices k n place ↔ ((at ≤ place) × (place < at + n))
added_range [] k at n place there = absurd (cc)
added_range (slice ∷ rest) zero at n place there =
    let same = some_same there in (λ added. let low = added.0 in let high = added.1 in (omega arith, omega arith), λ range. let low = range.0 in let high = range.1 in (omega arith, omega arith))
added_range (slice ∷ rest) (suc k) at n place there = added_range rest k at n place there

-- a byte lies below the cover's end
pub byte-below : (slices : List Slice) (place : ℕ) → HasByte slices place → place < cover_end slices
byte-below [] place has = absurd has
byte-below (slice ∷ rest) place (inl here) = let high = here.1 in omega arith
byte-below (slice ∷ rest) place (inr later) = let below = byte-below rest place later in omega arith

-- the last place below the end is there, where any is
abbrev pub HasLast : List Slice → Type 0
HasLast slices = (cover_end slices ≡ 0) ⊎ HasByte slices (cover_end slices - 1)

last-apart : (end : ℕ) (slices : List Slice) → IsApart end slices → HasLast slices
last-apart end [] far = inl refl
last-apart end (slice ∷ rest) far =
    let full = far.1 in
    elim (cases_lt (end_of slice) (cover_end rest)) [
      | inl longer ↦
          elim (last-apart (end_of slice) rest far.2) [
            | inl none ↦ absurd (omega arith)
            | inr there ↦ let same : cover_end (slice ∷ rest) ≡ cover_end rest = omega arith in inr (inr (rw same there))
          ]
      | inr shorter ↦ inr (inl (omega arith, omega arith))
    ]

last-first : (slice : Slice) (rest : List Slice) → slice.first ≡ 0 → HasLast rest → HasLast (slice ∷ rest)
last-first slice rest first last =
    elim (cases_lt (end_of slice) (cover_end rest)) [
      | inl longer ↦
          elim last [
            | inl none ↦ absurd (omega arith)
            | inr there ↦ let same : cover_end (slice ∷ rest) ≡ cover_end rest = omega arith in inr (inr (rw same there))
          ]
      | inr shorter ↦
          elim (cases_lt 0 slice.got) [
            | inl full ↦ inr (inl (omega arith, omega arith))
            | inr none ↦ inl (omega arith)
          ]
    ]

pub last-normal : (total : Option ℕ) (slices : List Slice) → IsNormal total slices → HasLast slices
last-normal total [] normal = absurd normal
last-normal total (slice ∷ rest) normal = last-first slice rest normal.0 (last-apart (end_of slice) rest normal.1)

pub last-one : (slice : Slice) → slice.first ≡ 0 → HasLast (slice ∷ [])
last-one slice first = last-first slice [] first (inl refl)

end-most : (slices others : List Slice) → HasLast slices → ((place : ℕ) → HasByte slices place → HasByte others place) → cover_end slices ≤ cover_end others
end-most slices others (inl none) has = omega arith
end-most slices others (inr last) has = let below = byte-below others (cover_end slices - 1) (has (cover_end slices - 1) last) in omega arith

-- lists with the same places end at the same place
pub end-same : (slices others : List Slice) → HasLast slices → HasLast others → SamePlaces slices others → cover_end slices ≡ cover_end others
end-same slices others last other same =
    let low = end-most slices others last (λ place. (same place).0) in
    let high = end-most others slices other (λ place. (same place).1) in
    omega arith

-- a cover of one slice ends where the normal slices of its places end
pub same_end : (slice : Slice) (total : Option ℕ) (slices : List Slice) → IsCover (slice ∷ []) → IsNormal total slices → SamePlaces (slice ∷ []) slices → cover_end (slice ∷ []) ≡ cover_end slices
same_end slice total slices is normal same = end-same (slice ∷ []) slices (last-one slice is.0) (last-normal total slices normal) same

-- the last slice of a cover ends where the cover ends
last-next : (end : ℕ) (slice : Slice) (rest : List Slice) → IsRising end (slice ∷ rest) → next_of (slice ∷ rest) (length rest) ≡ Some (cover_end (slice ∷ rest))
last-next end slice [] rising = let same : end_of slice ≡ cover_end (slice ∷ []) = omega arith in ap Some same
last-next end slice (next ∷ rest) rising =
    let low = rising.2.0 in
    let same : cover_end (next ∷ rest) ≡ cover_end (slice ∷ next ∷ rest) = omega arith in
    last-next (end_of slice) next rest rising.2 ∙ ap Some same

last-limit : (slice : Slice) (rest : List Slice) → limit_at (slice ∷ rest) (length rest) ≡ 2 ^ 40
last-limit slice [] = refl
last-limit slice (next ∷ rest) = last-limit next rest

end-low : (end : ℕ) (slices : List Slice) → IsRising end slices → cover_end slices ≤ 2 ^ 40
end-low end [] rising = omega arith
end-low end (slice ∷ rest) rising = let later = end-low (end_of slice) rest rising.2 in let own = rising.1 in omega arith

pub end-cover_end : (cover : List Slice) → IsCover cover → cover_end cover ≤ 2 ^ 40
end-cover_end [] is = absurd is
end-cover_end (slice ∷ rest) is = end-low 0 (slice ∷ rest) is.1

pub last_next : (cover : List Slice) → IsCover cover → next_of cover (length cover - 1) ≡ Some (cover_end cover)
last_next [] is = absurd is
last_next (slice ∷ rest) is = let same : length (slice ∷ rest) - 1 ≡ length rest = omega arith in rw same (last-next 0 slice rest is.1)

pub last_limit : (cover : List Slice) → IsCover cover → 2 ^ 40 ≤ limit_at cover (length cover - 1)
last_limit [] is = absurd is
last_limit (slice ∷ rest) is =
    let same : length (slice ∷ rest) - 1 ≡ length rest = omega arith in let all = last-limit slice rest in rw same (omega arith)
