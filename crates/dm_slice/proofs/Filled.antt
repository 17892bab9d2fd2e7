-- What a plan promises: its parts are disjoint, missing, and fill the holes that they touch.
use Rattle.std.proofs.Common.{◌≡◌, ℕ, zero, suc, ◌+◌, ◌-◌, ◌*◌, ◌/◌, ◌%◌, ◌<◌, ◌≤◌, ◌⊎◌, List, [], ◌∷◌, ◌++◌, length, Option, Some, inl, inr, refl, ap, ◌∙◌, arith}
use Rattle.std.proofs.lemmas.Bool.{cases_lt}
use Rattle.dm_types.specs.declared.slices.Slice.{Slice}
use Rattle.dm_slice.specs.Words.{end_of, HasByte, IsApart, IsNormal, IsWithin}
use Rattle.dm_slice.specs.Cover.{IsCover, normal_of}
use Rattle.dm_slice.specs.Plan.{AreDisjoint, FillsHoles, InParts, InRuns, IsChain, NoByteBetween, Run, all_of, cuts, groups, holes, numbered, plan_of, share, stop_of}
use Rattle.dm_slice.proofs.Joins.{normal_of-meaning}
use Rattle.dm_slice.proofs.Opened.{alone, cut, behind, chain-rest, cut_of, groups-cut, groups_behind, share-some, share_of, within-normal_of}

-- runs that rise, apart from one another
abbrev Rise : ℕ → ℕ → List Run → Type 0
Rise from bound [] = Unit {0}
Rise from bound (r ∷ rest) = (from ≤ r.from) × (r.from < r.to) × (r.to ≤ bound) × Rise r.to bound rest

rise-lower : (from lower bound : ℕ) (runs : List Run) → lower ≤ from → Rise from bound runs → Rise lower bound runs
rise-lower from lower bound [] low rise = tt
rise-lower from lower bound (r ∷ rest) low rise = (omega arith, rise.1, rise.2, rise.3)

rise-append : (from mid bound : ℕ) (runs more : List Run) → mid ≤ bound → from ≤ mid → Rise from mid runs → Rise mid bound more → Rise from bound (runs ++ more)
rise-append from mid bound [] more high low rise later = rise-lower mid from bound more low later
rise-append from mid bound (r ∷ rest) more high low rise later =
    (rise.0, rise.1, omega arith, rise-append r.to mid bound rest more high rise.2 rise.3 later)

cuts-rise : (k at size to : ℕ) → 0 < size → at + k * size ≤ to → Rise at to (cuts k at size to)
cuts-rise zero at size to some fits = tt
cuts-rise (suc zero) at size to some fits = (omega arith, omega arith, omega arith, tt)
cuts-rise (suc (suc k)) at size to some fits = (omega arith, omega arith, omega arith, cuts-rise (suc k) (at + size) size to some (omega arith))

cuts-in : (k at size to place : ℕ) → at + k * size ≤ to → InRuns (cuts k at size to) place → (at ≤ place) × (place < to)
cuts-in zero at size to place fits has = absurd has
cuts-in (suc zero) at size to place fits (inl here) = here
cuts-in (suc zero) at size to place fits (inr later) = absurd later
cuts-in (suc (suc k)) at size to place fits (inl here) = (here.0, omega arith)
cuts-in (suc (suc k)) at size to place fits (inr later) =
    let both = cuts-in (suc k) (at + size) size to place (omega arith) later in
    let low = both.0 in (omega arith, both.1)

in-cuts : (k at size to place : ℕ) → 0 < k → at ≤ place → place < to → InRuns (cuts k at size to) place
in-cuts zero at size to place some low high = absurd (omega arith)
in-cuts (suc zero) at size to place some low high = inl (low, high)
in-cuts (suc (suc k)) at size to place some low high =
    elim (cases_lt place (at + size)) [ inl here ↦ inl (low, here) | inr later ↦ inr (in-cuts (suc k) (at + size) size to place (omega arith) later high) ]

quotient-some : (n k q : ℕ) → 0 < k → k ≤ n → n / k ≡ q → 0 < q
quotient-some n k zero some fits is =
    let whole : k * (n / k) + n % k ≡ n = omega arith in
    let none : k * (n / k) ≡ 0 = ap (λ (x : ℕ). k * x) is ∙ omega arith in
    let less : n % k < k = omega arith in
    absurd (omega arith)
quotient-some n k (suc q) some fits is = omega arith

quotient_le : (n k q : ℕ) → 0 < k → n / k ≡ q → q ≤ n
quotient_le n zero q some is = absurd (omega arith)
quotient_le n (suc k) q some is =
    let whole : (suc k) * (n / suc k) + n % suc k ≡ n = omega arith in
    omega arith

share-few : (least left room behind size : ℕ) → 0 < size → 0 < least → share least left room behind size ≤ size
share-few least left room behind size some least_some =
    let whole : least * (size / least) + size % least ≡ size = omega arith in
    let below : size / least ≤ size = quotient_le size least (size / least) least_some refl in
    omega arith

in-append_left : (runs more : List Run) (place : ℕ) → InRuns runs place → InRuns (runs ++ more) place
in-append_left [] more place has = absurd has
in-append_left (r ∷ rest) more place (inl here) = inl here
in-append_left (r ∷ rest) more place (inr later) = inr (in-append_left rest more place later)

in-append_right : (runs more : List Run) (place : ℕ) → InRuns more place → InRuns (runs ++ more) place
in-append_right [] more place has = has
in-append_right (r ∷ rest) more place has = inr (in-append_right rest more place has)

in-append : (runs more : List Run) (place : ℕ) → InRuns (runs ++ more) place → InRuns runs place ⊎ InRuns more place
in-append [] more place has = inr has
in-append (r ∷ rest) more place (inl here) = inl (inl here)
in-append (r ∷ rest) more place (inr later) = elim (in-append rest more place later) [ inl left ↦ inl (inr left) | inr right ↦ inr right ]

-- the runs of a walk
abbrev pub runs_of : ℕ → ℕ → ℕ → ℕ → List Slice → List Run
runs_of total least left room slices = all_of (groups least left room (holes total slices))

-- the first slice of a normal list has bytes, or it ends at 0
abbrev HasFirst : List Slice → Type 0
HasFirst [] = Unit {0}
HasFirst (slice ∷ rest) = (0 < slice.got) ⊎ (end_of slice ≡ 0)

has_first-rest : (slice : Slice) (rest : List Slice) → IsChain (slice ∷ rest) → HasFirst rest
has_first-rest slice [] chain = tt
has_first-rest slice (next ∷ rest) chain = inl chain.1

-- no later slice has a byte below the next one
none_below : (end place : ℕ) (rest : List Slice) → IsApart end rest → place ≤ end → ¬ HasByte rest place
none_below end place [] far low has = has
none_below end place (slice ∷ rest) far low (inl here) = let behind_end = far.0 in let start = here.0 in omega arith
none_below end place (slice ∷ rest) far low (inr later) = let behind_end = far.0 in none_below (end_of slice) place rest far.2 (omega arith) later

none_between : (total place : ℕ) (slice : Slice) (rest : List Slice) → IsChain (slice ∷ rest) → end_of slice ≤ place → place < stop_of total rest → ¬ HasByte (slice ∷ rest) place
none_between total place slice rest chain low high (inl here) = let below = here.1 in omega arith
none_between total place slice [] chain low high (inr later) = later
none_between total place slice (next ∷ rest) chain low high (inr (inl here)) = let start = here.0 in omega arith
none_between total place slice (next ∷ rest) chain low high (inr (inr later)) = none_below (end_of next) place rest chain.2 (omega arith) later

stop-within : (total : ℕ) (rest : List Slice) → IsWithin total rest → stop_of total rest ≤ total
stop-within total [] within = omega arith
stop-within total (next ∷ rest) within = let ends = within.0 in omega arith

-- the first slice ends at or behind this place
abbrev StartsBy : ℕ → List Slice → Type 0
StartsBy start [] = Unit {0}
StartsBy start (slice ∷ rest) = start ≤ end_of slice

starts_stop : (total : ℕ) (rest : List Slice) → StartsBy (stop_of total rest) rest
starts_stop total [] = tt
starts_stop total (next ∷ rest) = omega arith

rise-in : (from bound : ℕ) (runs : List Run) (place : ℕ) → Rise from bound runs → InRuns runs place → (from ≤ place) × (place < bound)
rise-in from bound [] place rise has = absurd has
rise-in from bound (r ∷ rest) place rise (inl here) = let low = rise.0 in let high = rise.2 in (omega arith, omega arith)
rise-in from bound (r ∷ rest) place rise (inr later) =
    let both = rise-in r.to bound rest place rise.3 later in
    let low = rise.0 in let some = rise.1 in let start = both.0 in (omega arith, both.1)

not_either : (slice : Slice) (rest : List Slice) (place : ℕ) → end_of slice ≤ place → ¬ HasByte rest place → ¬ HasByte (slice ∷ rest) place
not_either slice rest place low none (inl here) = let below = here.1 in omega arith
not_either slice rest place low none (inr later) = none later

-- where a hole ends below the total, a byte stands
stop-has_byte : (total place further : ℕ) (slice : Slice) (rest : List Slice) → IsChain (slice ∷ rest) → place < stop_of total rest → stop_of total rest ≤ further → further < total → NoByteBetween (slice ∷ rest) place further → ⊥
stop-has_byte total place further slice [] chain low past high none = omega arith
stop-has_byte total place further slice (next ∷ rest) chain low past high none = let full = chain.1 in none next.first (omega arith) past (inr (inl (omega arith, omega arith)))

module _ (total least : ℕ) (least_some : 0 < least) where
  -- the cut of the hole behind a slice
  cut_k : (left room : ℕ) (slice : Slice) (rest : List Slice) → end_of slice < stop_of total rest → (0 < share_of total least left room slice rest) × (share_of total least left room slice rest ≤ stop_of total rest - end_of slice)
  cut_k left room slice rest there =
      (share-some least left room (length (holes total rest)) (stop_of total rest - end_of slice), share-few least left room (length (holes total rest)) (stop_of total rest - end_of slice) (omega arith) least_some)

  fits_of : (k from to : ℕ) → 0 < k → from ≤ to → from + k * ((to - from) / k) ≤ to
  fits_of k from to some low = let whole : k * ((to - from) / k) + (to - from) % k ≡ to - from = omega arith in omega arith

  hole-in : (left room place : ℕ) (slice : Slice) (rest : List Slice) → end_of slice < stop_of total rest → InRuns (cut_of total least left room slice rest) place → (end_of slice ≤ place) × (place < stop_of total rest)
  hole-in left room place slice rest there has =
      let k = share_of total least left room slice rest in
      cuts-in k (end_of slice) ((stop_of total rest - end_of slice) / k) (stop_of total rest) place (fits_of k (end_of slice) (stop_of total rest) (cut_k left room slice rest there).0 (omega arith)) has

  in-hole : (left room place : ℕ) (slice : Slice) (rest : List Slice) → end_of slice < stop_of total rest → end_of slice ≤ place → place < stop_of total rest → InRuns (cut_of total least left room slice rest) place
  in-hole left room place slice rest there low high =
      let k = share_of total least left room slice rest in
      in-cuts k (end_of slice) ((stop_of total rest - end_of slice) / k) (stop_of total rest) place (cut_k left room slice rest there).0 low high

  hole-rise : (left room : ℕ) (slice : Slice) (rest : List Slice) → end_of slice < stop_of total rest → Rise (end_of slice) (stop_of total rest) (cut_of total least left room slice rest)
  hole-rise left room slice rest there =
      let k = share_of total least left room slice rest in
      let both = cut_k left room slice rest there in
      cuts-rise k (end_of slice) ((stop_of total rest - end_of slice) / k) (stop_of total rest)
      (quotient-some (stop_of total rest - end_of slice) k ((stop_of total rest - end_of slice) / k) both.0 both.1 refl)
      (fits_of k (end_of slice) (stop_of total rest) both.0 (omega arith))

  runs-cut : (left room : ℕ) (slice : Slice) (rest : List Slice) → end_of slice < stop_of total rest → 0 < left →
      runs_of total least left room (slice ∷ rest) ≡ cut_of total least left room slice rest ++ all_of (groups_behind total least left room slice rest)
  runs-cut left room slice rest there some = ap all_of (groups-cut total least left room slice rest there some)

  rise_all : (left room start : ℕ) (slices : List Slice) → IsChain slices → IsWithin total slices → StartsBy start slices → Rise start total (runs_of total least left room slices)
  rise_all left room start [] chain within low = tt
  rise_all left room start (slice ∷ rest) chain within low =
      elim (behind total least left room slice rest chain) [
        | alone none ↦ rw none tt
        | cut there some ↦
            let k = share_of total least left room slice rest in
            let later = rise_all (left - k) (room + 1 - k) (stop_of total rest) rest (chain-rest slice rest chain) within.1 (starts_stop total rest) in
            rw (runs-cut left room slice rest there some)
            (rise-append start (stop_of total rest) total (cut_of total least left room slice rest) (all_of (groups_behind total least left room slice rest)) (stop-within total rest within.1) (omega arith)
            (rise-lower (end_of slice) start (stop_of total rest) (cut_of total least left room slice rest) low (hole-rise left room slice rest there)) later)
      ]

  missing_all : (left room place : ℕ) (slices : List Slice) → IsChain slices → IsWithin total slices → InRuns (runs_of total least left room slices) place → ¬ HasByte slices place
  missing_all left room place [] chain within has = absurd has
  missing_all left room place (slice ∷ rest) chain within has =
      elim (behind total least left room slice rest chain) [
        | alone none ↦ absurd (rw none at has)
        | cut there some ↦
            let k = share_of total least left room slice rest in
            elim (in-append (cut_of total least left room slice rest) (all_of (groups_behind total least left room slice rest)) place (rw (runs-cut left room slice rest there some) at has)) [
              | inl here ↦ let both = hole-in left room place slice rest there here in none_between total place slice rest chain both.0 both.1
              | inr later ↦
                  let low = rise-in (stop_of total rest) total (all_of (groups_behind total least left room slice rest)) place (rise_all (left - k) (room + 1 - k) (stop_of total rest) rest (chain-rest slice rest chain) within.1 (starts_stop total rest)) later in
                  let start = low.0 in
                  not_either slice rest place (omega arith) (missing_all (left - k) (room + 1 - k) place rest (chain-rest slice rest chain) within.1 later)
            ]
      ]

  upward_all : (left room place further : ℕ) (slices : List Slice) → IsChain slices → InRuns (runs_of total least left room slices) place → place ≤ further → further < total → NoByteBetween slices place further → InRuns (runs_of total least left room slices) further
  upward_all left room place further [] chain has up low none = absurd has
  upward_all left room place further (slice ∷ rest) chain has up low none_has =
      elim (behind total least left room slice rest chain) [
        | alone none ↦ absurd (rw none at has)
        | cut there some ↦
            let k = share_of total least left room slice rest in
            rw (runs-cut left room slice rest there some)
            (elim (in-append (cut_of total least left room slice rest) (all_of (groups_behind total least left room slice rest)) place (rw (runs-cut left room slice rest there some) at has)) [
              | inl here ↦
                  let both = hole-in left room place slice rest there here in
                  let from = both.0 in
                  elim (cases_lt further (stop_of total rest)) [
                    | inl inside ↦ in-append_left (cut_of total least left room slice rest) (all_of (groups_behind total least left room slice rest)) further (in-hole left room further slice rest there (omega arith) inside)
                    | inr past ↦ absurd (stop-has_byte total place further slice rest chain both.1 past low none_has)
                  ]
              | inr later ↦ in-append_right (cut_of total least left room slice rest) (all_of (groups_behind total least left room slice rest)) further
                  (upward_all (left - k) (room + 1 - k) place further rest (chain-rest slice rest chain) later up low (λ x a b h. none_has x a b (inr h)))
            ])
      ]

  downward_all : (left room place further : ℕ) (slices : List Slice) → IsChain slices → HasFirst slices → InRuns (runs_of total least left room slices) place → further ≤ place → NoByteBetween slices further place → InRuns (runs_of total least left room slices) further
  downward_all left room place further [] chain first has down none = absurd has
  downward_all left room place further (slice ∷ rest) chain first has down none_has =
      elim (behind total least left room slice rest chain) [
        | alone none ↦ absurd (rw none at has)
        | cut there some ↦
            let k = share_of total least left room slice rest in
            rw (runs-cut left room slice rest there some)
            (elim (in-append (cut_of total least left room slice rest) (all_of (groups_behind total least left room slice rest)) place (rw (runs-cut left room slice rest there some) at has)) [
              | inl here ↦
                  let both = hole-in left room place slice rest there here in
                  let from = both.0 in
                  let high = both.1 in
                  elim (cases_lt further (end_of slice)) [
                    | inl under ↦ absurd (elim first [
                      | inl full ↦ none_has (end_of slice - 1) (omega arith) (omega arith) (inl (omega arith, omega arith))
                      | inr zeroed ↦ omega arith
                    ])
                    | inr inside ↦ in-append_left (cut_of total least left room slice rest) (all_of (groups_behind total least left room slice rest)) further (in-hole left room further slice rest there inside (omega arith))
                  ]
              | inr later ↦ in-append_right (cut_of total least left room slice rest) (all_of (groups_behind total least left room slice rest)) further
                  (downward_all (left - k) (room + 1 - k) place further rest (chain-rest slice rest chain) (has_first-rest slice rest chain) later down (λ x a b h. none_has x a b (inr h)))
            ])
      ]

-- runs as numbered parts
parts-rise : (from bound at : ℕ) (runs : List Run) → Rise from bound runs → AreDisjoint from bound (numbered at runs)
parts-rise from bound at [] rise = tt
parts-rise from bound at (r ∷ rest) rise = (rise.0, rise.1, rise.2, parts-rise r.to bound (at + 1) rest rise.3)

parts-in : (at : ℕ) (runs : List Run) (place : ℕ) → InParts (numbered at runs) place → InRuns runs place
parts-in at [] place has = has
parts-in at (r ∷ rest) place (inl here) = inl here
parts-in at (r ∷ rest) place (inr later) = inr (parts-in (at + 1) rest place later)

in-parts : (at : ℕ) (runs : List Run) (place : ℕ) → InRuns runs place → InParts (numbered at runs) place
in-parts at [] place has = has
in-parts at (r ∷ rest) place (inl here) = inl here
in-parts at (r ∷ rest) place (inr later) = inr (in-parts (at + 1) rest place later)

chain-normal : (total : Option ℕ) (slices : List Slice) → IsNormal total slices → IsChain slices
chain-normal total [] normal = absurd normal
chain-normal total (slice ∷ rest) normal = normal.1

first-normal : (total : Option ℕ) (slices : List Slice) → IsNormal total slices → HasFirst slices
first-normal total [] normal = absurd normal
first-normal total (slice ∷ rest) normal = elim (cases_lt 0 slice.got) [ inl full ↦ inl full | inr none ↦ let first = normal.0 in inr (omega arith) ]

starts-zero : (slices : List Slice) → StartsBy 0 slices
starts-zero [] = tt
starts-zero (slice ∷ rest) = omega arith

pub plan_of-fills : (total n least : ℕ) (cover : List Slice) → IsCover cover → IsWithin total cover → 0 < least → FillsHoles total cover (plan_of (normal_of (Some total) cover) total n least)
plan_of-fills total n least cover is within some =
    let normal = normal_of (Some total) cover in
    let means = normal_of-meaning (Some total) cover is in
    let chain = chain-normal (Some total) normal means.normal in
    let inside = within-normal_of total (Some total) cover is within in
    let room = 64 - length normal in
    let runs = runs_of total least n room normal in
    record {
      disjoint = parts-rise 0 total 0 runs (rise_all total least some n room 0 normal chain inside (starts-zero normal));
      missing = λ place has byte. missing_all total least some n room place normal chain inside (parts-in 0 runs place has) ((means.places place).1 byte);
      upward = λ place further has up low none. in-parts 0 runs further (upward_all total least some n room place further normal chain (parts-in 0 runs place has) up low (λ x a b byte. none x a b ((means.places x).0 byte)));
      downward = λ place further has down none. in-parts 0 runs further (downward_all total least some n room place further normal chain (first-normal (Some total) normal means.normal) (parts-in 0 runs place has) down (λ x a b byte. none x a b ((means.places x).0 byte)));
    }
