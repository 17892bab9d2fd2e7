-- Each part of a plan stands behind the slice with its index.
use Rattle.std.proofs.Common.{◌≡◌, ℕ, zero, suc, ◌+◌, ◌-◌, ◌/◌, ◌^◌, ◌<◌, ◌≤◌, List, [], ◌∷◌, ◌++◌, map, length, drop, Some, refl, ap, sym, subst, arith, add-one, false}
use Rattle.dm_types.specs.declared.slices.Slice.{Slice}
use Rattle.dm_slice.specs.Words.{end_of}
use Rattle.dm_slice.specs.Cover.{IsCover, limit_at, limit_of, next_of, normal_of}
use Rattle.dm_slice.specs.Plan.{AreAtSlices, IsChain, Run, all_of, cut_in, cuts, empty_at, groups, holes, numbered, opened, opened_of, plan_of, run, stop_of}
use Rattle.dm_slice.proofs.Opened.{alone, cut, behind, chain-normal_of, chain-rest, groups-cut, groups_behind, share-some, share_of}
use Rattle.dm_slice.proofs.Filled.{runs_of}

-- each run stands behind the slice at its number, and up to the next one
abbrev Fits : List Slice → ℕ → List Run → Type 0
Fits slices at [] = Unit {0}
Fits slices at (r ∷ rest) = (next_of slices at ≡ Some r.from) × (r.to ≤ limit_at slices at) × Fits slices (suc at) rest

fits-shift : (slice : Slice) (slices : List Slice) (at : ℕ) (runs : List Run) → Fits slices at runs → Fits (slice ∷ slices) (suc at) runs
fits-shift slice slices at [] fits = tt
fits-shift slice slices at (r ∷ rest) fits = (fits.0, fits.1, fits-shift slice slices (suc at) rest fits.2)

cuts-first : (k from size end : ℕ) → map empty_at (cuts (suc k) from size end) ≡ record { first = from; got = 0; finished = false } ∷ map empty_at (drop 1 (cuts (suc k) from size end))
cuts-first zero from size end = refl
cuts-first (suc k) from size end = refl

-- the parts of one hole, and those behind it
fits-cuts : (k at size end : ℕ) (slice : Slice) (tail : List Slice) (more : List Run) → end_of slice ≡ at → end ≤ limit_of tail → Fits tail 0 more →
    Fits (slice ∷ (map empty_at (drop 1 (cuts (suc k) at size end)) ++ tail)) 0 (cuts (suc k) at size end ++ more)
fits-cuts zero at size end slice tail more ends low fits = (ap Some ends, low, fits-shift slice tail 0 more fits)
fits-cuts (suc k) at size end slice tail more ends low fits =
    let first = empty_at (run (at + size) end) in
    let later = fits-cuts k (at + size) size end first tail more (omega arith) low fits in
    let same : map empty_at (cuts (suc k) (at + size) size end) ≡ first ∷ map empty_at (drop 1 (cuts (suc k) (at + size) size end)) = cuts-first k (at + size) size end in
    let list : List Slice = first ∷ (map empty_at (drop 1 (cuts (suc k) (at + size) size end)) ++ tail) in
    subst (λ (x : List Slice). Fits (slice ∷ (x ++ tail)) 0 (cuts (suc (suc k)) at size end ++ more)) (sym same)
    (ap Some ends, omega arith, fits-shift slice list 0 (cuts (suc k) (at + size) size end ++ more) later)

-- where the cover behind some slices begins
limit-opened : (total least left room : ℕ) (rest : List Slice) (more : List (List Run)) → total ≤ 2 ^ 40 → stop_of total rest ≤ limit_of (opened rest more)
limit-opened total least left room [] more most = most
limit-opened total least left room (next ∷ rest) [] most = omega arith
limit-opened total least left room (next ∷ rest) (runs ∷ more) most = omega arith

fits_cut : (k : ℕ) (slice : Slice) (to : ℕ) (tail : List Slice) (more : List Run) → 0 < k → to ≤ limit_of tail → Fits tail 0 more →
    Fits (slice ∷ (map empty_at (drop 1 (cut_in k (run (end_of slice) to))) ++ tail)) 0 (cut_in k (run (end_of slice) to) ++ more)
fits_cut zero slice to tail more some low fits = absurd (omega arith)
fits_cut (suc k) slice to tail more some low fits = fits-cuts k (end_of slice) ((to - end_of slice) / suc k) to slice tail more refl low fits

fits_all : (total least : ℕ) (some : 0 < least) (left room : ℕ) (slices : List Slice) → total ≤ 2 ^ 40 → IsChain slices → Fits (opened slices (groups least left room (holes total slices))) 0 (runs_of total least left room slices)
fits_all total least some left room [] most chain = tt
fits_all total least some left room (slice ∷ rest) most chain =
    elim (behind total least left room slice rest chain) [
      | alone none ↦ rw none tt
      | cut there more_left ↦
          let k = share_of total least left room slice rest in
          let more = groups_behind total least left room slice rest in
          let tail = opened rest more in
          let later = fits_all total least some (left - k) (room + 1 - k) rest most (chain-rest slice rest chain) in
          rw (groups-cut total least left room slice rest there more_left)
          (fits_cut k slice (stop_of total rest) tail (all_of more) (share-some least left room (length (holes total rest)) (stop_of total rest - end_of slice)) (limit-opened total least left room rest more most) later)
    ]

-- runs as numbered parts
parts-fit : (slices : List Slice) (at : ℕ) (runs : List Run) → Fits slices at runs → AreAtSlices slices (numbered at runs)
parts-fit slices at [] fits = tt
parts-fit slices at (r ∷ rest) fits =
    (fits.0, fits.1, subst (λ (n : ℕ). AreAtSlices slices (numbered n rest)) (sym (add-one at)) (parts-fit slices (suc at) rest fits.2))

pub plan_of-placed : (total n least : ℕ) (cover : List Slice) → IsCover cover → total ≤ 2 ^ 40 → 0 < least → AreAtSlices (opened_of (normal_of (Some total) cover) total n least) (plan_of (normal_of (Some total) cover) total n least)
plan_of-placed total n least cover is most some =
    let normal = normal_of (Some total) cover in
    let room = 64 - length normal in
    parts-fit (opened_of normal total n least) 0 (runs_of total least n room normal) (fits_all total least some n room normal most (chain-normal_of (Some total) cover is))
