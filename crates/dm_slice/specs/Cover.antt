-- Covers: the received slices of one content, in order.
use Rattle.std.specs.Prelude.{◌≡◌, ℕ, zero, suc, ◌+◌, ◌^◌, ◌<◌, ◌≤◌, ◌==◌, ◌↔◌, if◌then◌else◌, List, [], ◌∷◌, Option, Some, None, map}
use Rattle.dm_types.specs.declared.slices.Slice.{Slice}
use Rattle.dm_slice.specs.Words.{end_of, HasByte, IsNormal, IsWithin, is_last}

-- each slice begins at or behind the end of the one before, and none ends above 2^40; the first at or behind this place
abbrev pub IsRising : ℕ → List Slice → Type 0
IsRising end [] = Unit {0}
IsRising end (slice ∷ rest) = (end ≤ slice.first) × (end_of slice ≤ 2 ^ 40) × IsRising (end_of slice) rest

-- the first slice begins at 0, and the slices don't overlap
abbrev pub IsCover : List Slice → Type 0
IsCover [] = ⊥
IsCover (slice ∷ rest) = (slice.first ≡ 0) × IsRising 0 (slice ∷ rest)

-- where the next slice begins, or the greatest content ends
abbrev pub limit_of : List Slice → ℕ
limit_of [] = 2 ^ 40
limit_of (slice ∷ rest) = slice.first

-- how far the slice at a place of the list can grow
abbrev pub limit_at : List Slice → ℕ → ℕ
limit_at [] k = 0
limit_at (slice ∷ rest) zero = limit_of rest
limit_at (slice ∷ rest) (suc k) = limit_at rest k

-- the place behind the slice at a place of the list
abbrev pub next_of : List Slice → ℕ → Option ℕ
next_of [] k = None
next_of (slice ∷ rest) zero = Some (end_of slice)
next_of (slice ∷ rest) (suc k) = next_of rest k

-- the slice at a place of the list has this many bytes more
abbrev pub grown : List Slice → ℕ → ℕ → List Slice
grown [] k more = []
grown (slice ∷ rest) zero more = record slice { got = slice.got + more } ∷ rest
grown (slice ∷ rest) (suc k) more = slice ∷ grown rest k more

-- the place is one of those that the slice got by growing
abbrev pub IsAdded : List Slice → ℕ → ℕ → ℕ → Type 0
IsAdded [] k more place = ⊥
IsAdded (slice ∷ rest) zero more place = (end_of slice ≤ place) × (place < end_of slice + more)
IsAdded (slice ∷ rest) (suc k) more place = IsAdded rest k more place

-- the bytes of two lists are those of the same places
abbrev pub SamePlaces : List Slice → List Slice → Type 0
SamePlaces slices others = (place : ℕ) → HasByte slices place ↔ HasByte others place

-- slices that touch are one, and empty ones but the first are left out
abbrev pub joined : Slice → List Slice → List Slice
joined now [] = now ∷ []
joined now (slice ∷ rest) =
    if slice.got == 0 then joined now rest
    else (if slice.first == end_of now then joined (record now { got = now.got + slice.got }) rest
    else (now ∷ joined slice rest))

-- the mark of a slice is right for this total
abbrev pub marked : Option ℕ → Slice → Slice
marked total slice = record slice { finished = is_last total slice }

-- the normal list with the same bytes
abbrev pub normal_of : Option ℕ → List Slice → List Slice
normal_of total [] = []
normal_of total (slice ∷ rest) = map (marked total) (joined slice rest)

-- a list is the normal one of a cover
pub record IsNormalOf (total : Option ℕ) (cover slices : List Slice) : Type 0 where
  pub normal : IsNormal total slices
  pub places : SamePlaces slices cover

-- the bytes lie within the total, where one is known
abbrev pub IsWithinTotal : Option ℕ → List Slice → Type 0
IsWithinTotal None slices = Unit {0}
IsWithinTotal (Some total) slices = IsWithin total slices

-- a normal cover within the total, where one is known, and within 2^40
pub record IsCoverWithin (total : Option ℕ) (slices : List Slice) : Type 0 where
  pub normal : IsNormal total slices
  pub greatest : IsWithin (2 ^ 40) slices
  pub within : IsWithinTotal total slices
