-- Lemmas on covers: their ends, and what growing changes.
use Rattle.std.proofs.Common.{◌≡◌, ℕ, zero, suc, ◌+◌, ◌^◌, ◌<◌, ◌≤◌, ◌⊎◌, ◌↔◌, List, [], ◌∷◌, length, get_or, set, Option, Some, None, inl, inr, unwrap_or, refl, ap, sym, subst, ◌∙◌, arith}
use Rattle.std.proofs.lemmas.Bool.{cases_lt}
use Rattle.dm_types.specs.declared.slices.Slice.{Slice}
use Rattle.dm_slice.specs.Words.{end_of, HasByte, IsApart, IsNormal, IsWithin, covered}
use Rattle.dm_slice.specs.Cover.{IsRising, IsCover, IsAdded, IsCoverWithin, grown, limit_of, limit_at, next_of}

-- the bytes of rising slices lie below 2^40
pub covered-rising : (end : ℕ) (slices : List Slice) → end ≤ 2 ^ 40 → IsRising end slices → end + covered slices ≤ 2 ^ 40
covered-rising end [] below rising = omega arith
covered-rising end (slice ∷ rest) below rising = let rest_below = covered-rising (end_of slice) rest rising.1 rising.2 in omega arith

pub covered-cover : (slices : List Slice) → IsCover slices → covered slices ≤ 2 ^ 40
covered-cover [] cover = absurd cover
covered-cover (slice ∷ rest) cover = let below = covered-rising 0 (slice ∷ rest) (omega arith) cover.1 in omega arith

-- the end of each of the rising slices
pub end-rising : (end : ℕ) (slices : List Slice) (k : ℕ) (d : Slice) → IsRising end slices → k < length slices → end_of (get_or slices k d) ≤ 2 ^ 40
end-rising end [] k d rising within = absurd (omega arith)
end-rising end (slice ∷ rest) zero d rising within = rising.1
end-rising end (slice ∷ rest) (suc k) d rising within = end-rising (end_of slice) rest k d rising.2 (omega arith)

pub end-cover : (slices : List Slice) (k : ℕ) (d : Slice) → IsCover slices → k < length slices → end_of (get_or slices k d) ≤ 2 ^ 40
end-cover [] k d cover within = absurd cover
end-cover (slice ∷ rest) k d cover within = end-rising 0 (slice ∷ rest) k d cover.1 within

-- the place behind a slice
pub next_of-there : (slices : List Slice) (k : ℕ) (d : Slice) → k < length slices → next_of slices k ≡ Some (end_of (get_or slices k d))
next_of-there [] k d within = absurd (omega arith)
next_of-there (slice ∷ rest) zero d within = refl
next_of-there (slice ∷ rest) (suc k) d within = next_of-there rest k d (omega arith)

pub next_of-past : (slices : List Slice) (k : ℕ) → length slices ≤ k → next_of slices k ≡ None
next_of-past [] k past = refl
next_of-past (slice ∷ rest) zero past = absurd (omega arith)
next_of-past (slice ∷ rest) (suc k) past = next_of-past rest k (omega arith)

-- what reading a slice at its place shows
pub end-read : (slices : List Slice) (k : ℕ) (slice : Slice) → IsCover slices → k < length slices → slice ≡ get_or slices k slice → end_of slice ≤ 2 ^ 40
end-read slices k slice cover within read = let below = end-cover slices k slice cover within in rw (← read) at below

pub next_of-read : (slices : List Slice) (k : ℕ) (slice : Slice) → k < length slices → slice ≡ get_or slices k slice → next_of slices k ≡ Some (end_of slice)
next_of-read slices k slice within read = let there = next_of-there slices k slice within in rw (← read) at there

-- a slice with more bytes is written at its place
pub grown-set : (slices : List Slice) (k : ℕ) (slice : Slice) (more : ℕ) → k < length slices → slice ≡ get_or slices k slice → set slices k (record slice { got = slice.got + more }) ≡ grown slices k more
grown-set [] k slice more within read = absurd (omega arith)
grown-set (first ∷ rest) zero slice more within read = ap (λ (x : Slice). record x { got = x.got + more } ∷ rest) read
grown-set (first ∷ rest) (suc k) slice more within read = ap (λ (xs : List Slice). first ∷ xs) (grown-set rest k slice more (omega arith) read)

pub length-grown : (slices : List Slice) (k more : ℕ) → length (grown slices k more) ≡ length slices
length-grown [] k more = refl
length-grown (first ∷ rest) zero more = refl
length-grown (first ∷ rest) (suc k) more = ap suc (length-grown rest k more)

limit_of-rising : (end : ℕ) (slices : List Slice) → IsRising end slices → limit_of slices ≤ 2 ^ 40
limit_of-rising end [] rising = omega arith
limit_of-rising end (slice ∷ rest) rising = let ends = rising.1 in omega arith

rising-grown_head : (end next : ℕ) (rest : List Slice) → IsRising end rest → next ≤ limit_of rest → IsRising next rest
rising-grown_head end next [] rising room = tt
rising-grown_head end next (slice ∷ rest) rising room = (room, rising.1, rising.2)

pub rising-grown : (end : ℕ) (slices : List Slice) (k more next : ℕ) → IsRising end slices → next_of slices k ≡ Some next → next + more ≤ limit_at slices k → IsRising end (grown slices k more)
rising-grown end [] k more next rising there room = tt
rising-grown end (slice ∷ rest) zero more next rising there room =
    let same : end_of slice ≡ next = cc in
    let below = limit_of-rising (end_of slice) rest rising.2 in
    (rising.0, omega arith, rising-grown_head (end_of slice) (slice.first + (slice.got + more)) rest rising.2 (omega arith))
rising-grown end (slice ∷ rest) (suc k) more next rising there room =
    (rising.0, rising.1, rising-grown (end_of slice) rest k more next rising.2 there room)

pub cover-grown : (slices : List Slice) (k more next : ℕ) → IsCover slices → next_of slices k ≡ Some next → next + more ≤ limit_at slices k → IsCover (grown slices k more)
cover-grown [] k more next cover there room = absurd cover
cover-grown (slice ∷ rest) zero more next cover there room = (cover.0, rising-grown 0 (slice ∷ rest) zero more next cover.1 there room)
cover-grown (slice ∷ rest) (suc k) more next cover there room = (cover.0, rising-grown 0 (slice ∷ rest) (suc k) more next cover.1 there room)

-- growing adds exactly the places behind the slice
abbrev pub Added : List Slice → ℕ → ℕ → ℕ → Type 0
Added slices k more place = HasByte slices place ⊎ IsAdded slices k more place

grown-forward : (slices : List Slice) (k more place : ℕ) → HasByte (grown slices k more) place → Added slices k more place
grown-forward [] k more place has = absurd has
grown-forward (slice ∷ rest) zero more place (inl in_first) =
    elim (cases_lt place (end_of slice)) [ inl below ↦ inl (inl (in_first.0, below)) | inr behind ↦ inr (behind, omega arith) ]
grown-forward (slice ∷ rest) zero more place (inr later) = inl (inr later)
grown-forward (slice ∷ rest) (suc k) more place (inl in_first) = inl (inl in_first)
grown-forward (slice ∷ rest) (suc k) more place (inr later) =
    elim (grown-forward rest k more place later) [ inl old ↦ inl (inr old) | inr new ↦ inr new ]

grown-back : (slices : List Slice) (k more place : ℕ) → Added slices k more place → HasByte (grown slices k more) place
grown-back [] k more place (inl has) = absurd has
grown-back [] k more place (inr added) = absurd added
grown-back (slice ∷ rest) zero more place (inl (inl in_first)) = inl (in_first.0, omega arith)
grown-back (slice ∷ rest) zero more place (inl (inr later)) = inr later
grown-back (slice ∷ rest) zero more place (inr added) = inl (omega arith, omega arith)
grown-back (slice ∷ rest) (suc k) more place (inl (inl in_first)) = inl in_first
grown-back (slice ∷ rest) (suc k) more place (inl (inr later)) = inr (grown-back rest k more place (inl later))
grown-back (slice ∷ rest) (suc k) more place (inr added) = inr (grown-back rest k more place (inr added))

pub places-grown : (slices : List Slice) (k more place : ℕ) → HasByte (grown slices k more) place ↔ Added slices k more place
places-grown slices k more place = (grown-forward slices k more place, grown-back slices k more place)

-- a normal list within 2^40 is a cover
rising-apart : (end : ℕ) (slices : List Slice) → IsApart end slices → IsWithin (2 ^ 40) slices → IsRising end slices
rising-apart end [] apart within = tt
rising-apart end (slice ∷ rest) apart within = (omega arith, within.0, rising-apart (end_of slice) rest apart.2 within.1)

pub cover-apart : (slice : Slice) (rest : List Slice) → slice.first ≡ 0 → IsApart (end_of slice) rest → IsWithin (2 ^ 40) (slice ∷ rest) → IsCover (slice ∷ rest)
cover-apart slice rest first far within = (first, (omega arith, within.0, rising-apart (end_of slice) rest far within.1))

pub cover-normal : (total : Option ℕ) (slices : List Slice) → IsNormal total slices → IsWithin (2 ^ 40) slices → IsCover slices
cover-normal total [] normal within = absurd normal
cover-normal total (slice ∷ rest) normal within = cover-apart slice rest normal.0 normal.1 within

pub cover-within : (total : Option ℕ) (slices : List Slice) → IsCoverWithin total slices → IsCover slices
cover-within total slices is = cover-normal total slices is.normal is.greatest

-- all of what growing does where the slice was read and written at its place
pub record GrewAt (slices after : List Slice) (k more : ℕ) : Type 0 where
  pub value : after ≡ grown slices k more
  pub cover : IsCover after
  pub length : length after ≡ length slices

pub grew_at : (slices : List Slice) (k more : ℕ) (slice : Slice) → IsCover slices → k < length slices → slice ≡ get_or slices k slice → unwrap_or (next_of slices k) 0 + more ≤ limit_at slices k → GrewAt slices (set slices k (record slice { got = slice.got + more })) k more
grew_at slices k more slice cover within read room =
    let value = grown-set slices k slice more within read in
    let there = next_of-read slices k slice within read in
    let fits : end_of slice + more ≤ limit_at slices k = rw there at room in
    let kept : IsCover (grown slices k more) = cover-grown slices k more (end_of slice) cover there fits in
    record {
      value = value;
      cover = subst IsCover (sym value) kept;
      length = ap length value ∙ length-grown slices k more;
    }

limit_at-cover : (end : ℕ) (slices : List Slice) (k : ℕ) → IsRising end slices → limit_at slices k ≤ 2 ^ 40
limit_at-cover end [] k rising = omega arith
limit_at-cover end (slice ∷ rest) zero rising = limit_of-rising (end_of slice) rest rising.2
limit_at-cover end (slice ∷ rest) (suc k) rising = limit_at-cover (end_of slice) rest k rising.2

-- the sum that growing makes is small
pub grown-small : (slices : List Slice) (k more : ℕ) (slice : Slice) → IsCover slices → k < length slices → slice ≡ get_or slices k slice → unwrap_or (next_of slices k) 0 + more ≤ limit_at slices k → slice.got + more ≤ 2 ^ 40
grown-small [] k more slice cover within read room = absurd cover
grown-small (first ∷ rest) k more slice cover within read room =
    let there = next_of-read (first ∷ rest) k slice within read in
    let fits : end_of slice + more ≤ limit_at (first ∷ rest) k = rw there at room in
    let below = limit_at-cover 0 (first ∷ rest) k cover.1 in
    omega arith
