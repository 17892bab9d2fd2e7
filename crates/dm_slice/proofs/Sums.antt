-- What growing, joining and planning make of the count of bytes, and of the places that are there.
use Rattle.std.proofs.Common.{◌≡◌, ℕ, zero, suc, ◌+◌, ◌<◌, List, [], ◌∷◌, ◌++◌, map, length, drop, Option, Some, inl, inr, refl, ap, ◌∙◌, arith}
use Rattle.dm_types.specs.declared.slices.Slice.{Slice}
use Rattle.dm_slice.specs.Words.{end_of, HasByte, covered}
use Rattle.dm_slice.specs.Cover.{IsCover, IsRising, SamePlaces, grown, joined, marked, normal_of}
use Rattle.dm_slice.specs.Plan.{Run, empty_at, groups_of, opened, opened_of}
use Rattle.dm_slice.proofs.Joins.{apart, empty, joined-apart, joined-empty, joined-touch, meets, normal_of-meaning, rising-later, touch, with_more}

-- growing adds so many bytes
pub covered-grown : (slices : List Slice) (k more : ℕ) → k < length slices → covered (grown slices k more) ≡ covered slices + more
covered-grown [] k more there = absurd (omega arith)
covered-grown (slice ∷ rest) zero more there = omega arith
covered-grown (slice ∷ rest) (suc k) more there = let later = covered-grown rest k more (omega arith) in omega arith

-- joining keeps the count
covered-joined : (now : Slice) (rest : List Slice) → IsRising (end_of now) rest → covered (joined now rest) ≡ now.got + covered rest
covered-joined now [] rising = refl
covered-joined now (slice ∷ rest) rising =
    elim (meets now slice rising.0) [
      | empty none ↦
          let later = covered-joined now rest (rising-later (end_of now) (end_of slice) rest rising.2 (omega arith)) in
          rw (joined-empty now slice rest none) (omega arith)
      | touch full near ↦
          let more = with_more now slice in
          let later = covered-joined more rest (rising-later (end_of more) (end_of slice) rest rising.2 (omega arith)) in
          rw (joined-touch now slice rest full near) (omega arith)
      | apart full far ↦
          let later = covered-joined slice rest rising.2 in
          rw (joined-apart now slice rest full far) (omega arith)
    ]

covered-marked : (total : Option ℕ) (slices : List Slice) → covered (map (marked total) slices) ≡ covered slices
covered-marked total [] = refl
covered-marked total (slice ∷ rest) = ap (λ (n : ℕ). slice.got + n) (covered-marked total rest)

-- the normal list has as many bytes
pub covered-normal_of : (total : Option ℕ) (cover : List Slice) → IsCover cover → covered (normal_of total cover) ≡ covered cover
covered-normal_of total [] is = absurd is
covered-normal_of total (slice ∷ rest) is = covered-marked total (joined slice rest) ∙ covered-joined slice rest is.1.2

-- slices without a byte count nothing, and have no place
covered-empties : (runs : List Run) (tail : List Slice) → covered (map empty_at runs ++ tail) ≡ covered tail
covered-empties [] tail = refl
covered-empties (r ∷ runs) tail = let later = covered-empties runs tail in omega arith

covered-opened : (slices : List Slice) (groups : List (List Run)) → covered (opened slices groups) ≡ covered slices
covered-opened [] groups = refl
covered-opened (slice ∷ rest) [] = refl
covered-opened (slice ∷ rest) (runs ∷ more) =
    ap (λ (n : ℕ). slice.got + n) (covered-empties (drop 1 runs) (opened rest more) ∙ covered-opened rest more)

pub covered-planned : (total n least : ℕ) (cover : List Slice) → IsCover cover → covered (opened_of (normal_of (Some total) cover) total n least) ≡ covered cover
covered-planned total n least cover is =
    covered-opened (normal_of (Some total) cover) (groups_of (normal_of (Some total) cover) total n least) ∙ covered-normal_of (Some total) cover is

empties-forward : (runs : List Run) (tail : List Slice) (place : ℕ) → HasByte (map empty_at runs ++ tail) place → HasByte tail place
empties-forward [] tail place has = has
empties-forward (r ∷ runs) tail place (inl here) = absurd (omega arith)
empties-forward (r ∷ runs) tail place (inr later) = empties-forward runs tail place later

empties-back : (runs : List Run) (tail : List Slice) (place : ℕ) → HasByte tail place → HasByte (map empty_at runs ++ tail) place
empties-back [] tail place has = has
empties-back (r ∷ runs) tail place has = inr (empties-back runs tail place has)

opened-forward : (slices : List Slice) (groups : List (List Run)) (place : ℕ) → HasByte (opened slices groups) place → HasByte slices place
opened-forward [] groups place has = has
opened-forward (slice ∷ rest) [] place has = has
opened-forward (slice ∷ rest) (runs ∷ more) place (inl here) = inl here
opened-forward (slice ∷ rest) (runs ∷ more) place (inr later) = inr (opened-forward rest more place (empties-forward (drop 1 runs) (opened rest more) place later))

opened-back : (slices : List Slice) (groups : List (List Run)) (place : ℕ) → HasByte slices place → HasByte (opened slices groups) place
opened-back [] groups place has = has
opened-back (slice ∷ rest) [] place has = has
opened-back (slice ∷ rest) (runs ∷ more) place (inl here) = inl here
opened-back (slice ∷ rest) (runs ∷ more) place (inr later) = inr (empties-back (drop 1 runs) (opened rest more) place (opened-back rest more place later))

-- a plan moves no place
pub same_places : (slices : List Slice) → SamePlaces slices slices
same_places slices = λ place. (λ has. has, λ has. has)

pub places-planned : (total n least : ℕ) (cover : List Slice) → IsCover cover → SamePlaces (opened_of (normal_of (Some total) cover) total n least) cover
places-planned total n least cover is =
    λ place.
    let normal = normal_of (Some total) cover in
    let same = (normal_of-meaning (Some total) cover is).places place in (
      λ has. same.0 (opened-forward normal (groups_of normal total n least) place has),
      λ has. opened-back normal (groups_of normal total n least) place (same.1 has),
    )
