-- Words on lists of received slices. A place of the content counts from 0.
use Rattle.std.specs.Prelude.{◌≡◌, ℕ, ◌+◌, ◌<◌, ◌≤◌, Bool, false, ◌&&◌, ◌==◌, nat_lt, ◌⊎◌, List, [], ◌∷◌, Option, Some, None, max}
use Rattle.dm_types.specs.declared.slices.Slice.{Slice}

-- the place behind a slice's last byte
abbrev pub end_of : Slice → ℕ
end_of slice = slice.first + slice.got

-- some slice has the byte at this place
abbrev pub HasByte : List Slice → ℕ → Type 0
HasByte [] place = ⊥
HasByte (slice ∷ rest) place = ((slice.first ≤ place) × (place < end_of slice)) ⊎ HasByte rest place

-- the first list has each byte that the second has
abbrev pub Holds : List Slice → List Slice → Type 0
Holds slices others = (place : ℕ) → HasByte others place → HasByte slices place

-- every byte from one place up to another is there
abbrev pub Reaches : List Slice → ℕ → ℕ → Type 0
Reaches slices from to = (place : ℕ) → from ≤ place → place < to → HasByte slices place

-- the first place, from one up to another, that isn't there
pub record IsGap (slices : List Slice) (from to place : ℕ) : Type 0 where
  pub within : (from ≤ place) × (place < to)
  pub missing : ¬ HasByte slices place
  pub before : Reaches slices from place

-- every byte below the total is there
abbrev pub IsFull : ℕ → List Slice → Type 0
IsFull total slices = (place : ℕ) → place < total → HasByte slices place

-- the first place below the total that isn't there
abbrev pub IsFirstMissing : ℕ → List Slice → ℕ → Type 0
IsFirstMissing total slices place = IsGap slices 0 total place

-- no slice ends above the bound
abbrev pub IsWithin : ℕ → List Slice → Type 0
IsWithin bound [] = Unit {0}
IsWithin bound (slice ∷ rest) = (end_of slice ≤ bound) × IsWithin bound rest

-- each slice has bytes, and begins above the end of the one before; the first above this place
abbrev pub IsApart : ℕ → List Slice → Type 0
IsApart end [] = Unit {0}
IsApart end (slice ∷ rest) = (end < slice.first) × (0 < slice.got) × IsApart (end_of slice) rest

-- the slice has bytes and ends where the content ends
abbrev pub is_last : Option ℕ → Slice → Bool
is_last None slice = false
is_last (Some total) slice = nat_lt 0 slice.got && (end_of slice == total)

-- exactly the slices that end where the content ends are marked as finished
abbrev pub IsMarked : Option ℕ → List Slice → Type 0
IsMarked total [] = Unit {0}
IsMarked total (slice ∷ rest) = (slice.finished ≡ is_last total slice) × IsMarked total rest

-- Normal for a total: the first slice begins at 0, each other one has bytes and begins above the end of the
-- one before, and the marks are right.
abbrev pub IsNormal : Option ℕ → List Slice → Type 0
IsNormal total [] = ⊥
IsNormal total (slice ∷ rest) = (slice.first ≡ 0) × IsApart (end_of slice) rest × IsMarked total (slice ∷ rest)

-- how many bytes the slices have
abbrev pub covered : List Slice → ℕ
covered [] = 0
covered (slice ∷ rest) = slice.got + covered rest

-- the place behind the farthest byte
abbrev pub cover_end : List Slice → ℕ
cover_end [] = 0
cover_end (slice ∷ rest) = max (end_of slice) (cover_end rest)
