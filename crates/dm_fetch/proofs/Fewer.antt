-- Rounds whose parts were all brought leave fewer holes each.
use Rattle.std.proofs.Common.{◌≡◌, ◌⊎◌, inl, inr, ◌<◌, ◌≤◌, ◌==◌, ℕ, ◌+◌, ◌-◌, ◌^◌, suc, Bool, true, false, if◌then◌else◌, List, [], ◌∷◌, ◌++◌, length, map, drop, Option, Some, refl, sym, ◌∙◌, ap, subst, arith}
use Rattle.std.specs.List.{AllByRecursion}
use Rattle.std.proofs.lemmas.Bool.{cases_lt}
use Rattle.std.proofs.lemmas.List.{length-map}
use Rattle.std.proofs.lemmas.Option.{none-some}
use Rattle.dm_types.specs.declared.slices.Slice.{Slice}
use Rattle.dm_slice.specs.Cover.{IsCover, IsRising, joined, limit_at, limit_of, marked, normal_of}
use Rattle.dm_slice.specs.Plan.{AreAtSlices, AreDisjoint, InParts, Run, all_of, empty_at, gaps, groups_of, holes, numbered, opened, opened_by, parts_by, stop_of}
use Rattle.dm_slice.specs.Words.{HasByte, IsFirstMissing, IsFull, IsWithin, end_of}
use Rattle.dm_slice.specs.declared.plan.Part.{Part}
use Rattle.dm_slice.proofs.Filled.{plan_of-fills}
use Rattle.dm_slice.proofs.Gaps.{fewer_gaps}
use Rattle.dm_slice.proofs.Joins.{normal_of-meaning}
use Rattle.dm_slice.proofs.Opened.{chain-normal_of, cover-normal_of, cover-opened, within-normal_of}
use Rattle.dm_slice.proofs.Placed.{plan_of-placed}
use Rattle.dm_slice.proofs.Plans.{holes-none, holes-there}
use Rattle.dm_slice.proofs.Sums.{places-planned}
use Rattle.dm_attempt.specs.Shares.{Share}
use Rattle.dm_attempt.specs.Trace.{AreAtEnds, AreNumbered, ArePlanned, Round, cover_of, filled}
use Rattle.dm_attempt.proofs.Rounds.{placed_by}

abbrev pub parts_of : List Share → List Part
parts_of shares = map (λ (share : Share). share.part) shares

-- all of a part was landed
abbrev pub IsLanded : Share → Type 0
IsLanded share = share.part.first + length share.bytes ≡ share.part.end

abbrev pub AreLanded : List Share → Type 0
AreLanded shares = AllByRecursion IsLanded shares

-- each part has a place
abbrev pub HavePlaces : List Part → Type 0
HavePlaces plan = AllByRecursion (λ (part : Part). part.first < part.end) plan

have_places : (from bound : ℕ) (plan : List Part) → AreDisjoint from bound plan → HavePlaces plan
have_places from bound [] apart = tt
have_places from bound (part ∷ rest) apart = (apart.1, have_places part.end bound rest apart.3)

-- so it is of a round whose parts have places
abbrev pub IsLandedRound : Round → Type 0
IsLandedRound round = HavePlaces (parts_of round.shares) → AreLanded round.shares

-- Which places a round adds.

pub filled_more : (slices : List Slice) (shares : List Share) (place : ℕ) → HasByte slices place → HasByte (filled slices shares) place
filled_more [] shares place has = absurd has
filled_more (slice ∷ rest) [] place has = has
filled_more (slice ∷ rest) (share ∷ shares) place (inl here) = inl (here.0, let below = here.1 in omega (arith, below))
filled_more (slice ∷ rest) (share ∷ shares) place (inr later) = inr (filled_more rest shares place later)

filled_forward : (slices : List Slice) (shares : List Share) → AreAtEnds (parts_of shares) slices → AreLanded shares → (place : ℕ) → HasByte (filled slices shares) place → HasByte slices place ⊎ InParts (parts_of shares) place
filled_forward [] shares at whole place has = absurd has
filled_forward (slice ∷ rest) [] at whole place has = inl has
filled_forward (slice ∷ rest) (share ∷ shares) at whole place (inl here) =
    let end = at.0 in
    let all = whole.0 in
    let below = here.1 in
    elim (cases_lt place (end_of slice)) [
      | inl before ↦ inl (inl (here.0, before))
      | inr past ↦ inr (inl (omega (arith, end, past), omega (arith, end, all, below)))
    ]
filled_forward (slice ∷ rest) (share ∷ shares) at whole place (inr later) =
    elim (filled_forward rest shares at.1 whole.1 place later) [ inl has ↦ inl (inr has) | inr in_part ↦ inr (inr in_part) ]

filled_parts : (slices : List Slice) (shares : List Share) → AreAtEnds (parts_of shares) slices → AreLanded shares → (place : ℕ) → InParts (parts_of shares) place → HasByte (filled slices shares) place
filled_parts slices [] at whole place in_part = absurd in_part
filled_parts [] (share ∷ shares) at whole place in_part = absurd at
filled_parts (slice ∷ rest) (share ∷ shares) at whole place (inl here) =
    let end = at.0 in
    let all = whole.0 in
    let low = here.0 in
    let high = here.1 in
    inl (omega (arith, end, low), omega (arith, end, all, high))
filled_parts (slice ∷ rest) (share ∷ shares) at whole place (inr later) = inr (filled_parts rest shares at.1 whole.1 place later)

-- A round keeps a cover a cover.

-- no part ends above the next slice
abbrev AreBelow : List Part → List Slice → Type 0
AreBelow [] slices = Unit {0}
AreBelow (part ∷ plan) [] = Unit {0}
AreBelow (part ∷ plan) (slice ∷ rest) = (part.end ≤ limit_of rest) × AreBelow plan rest

below_at : (slices : List Slice) (plan : List Part) (at : ℕ) (rest : List Slice) → ((k : ℕ) → limit_at slices (at + k) ≡ limit_at rest k) → AreNumbered at plan → AreAtSlices slices plan → AreBelow plan rest
below_at slices [] at rest same are placed = tt
below_at slices (part ∷ plan) at [] same are placed = tt
below_at slices (part ∷ plan) at (slice ∷ rest) same are placed =
    let own : part.index ≡ at + 0 = let e = are.0 in omega (arith, e) in (
      subst (λ (n : ℕ). part.end ≤ n) (ap (λ (n : ℕ). limit_at slices n) own ∙ same 0) placed.1,
      below_at slices plan (suc at) rest (λ k. ap (λ (n : ℕ). limit_at slices n) (let e : suc at + k ≡ at + suc k = omega arith in e) ∙ same (suc k)) are.1 placed.2,
    )

limit_low : (end : ℕ) (rest : List Slice) → IsRising end rest → limit_of rest ≤ 2 ^ 40
limit_low end [] rising = omega arith
limit_low end (next ∷ rest) rising = let high = rising.1 in omega (arith, high)

rising_from : (end other : ℕ) (rest : List Slice) → IsRising end rest → other ≤ limit_of rest → IsRising other rest
rising_from end other [] rising low = tt
rising_from end other (next ∷ rest) rising low = (low, rising.1, rising.2)

filled_limit : (slices : List Slice) (shares : List Share) → limit_of (filled slices shares) ≡ limit_of slices
filled_limit [] shares = refl
filled_limit (slice ∷ rest) [] = refl
filled_limit (slice ∷ rest) (share ∷ shares) = refl

rising_filled : (end : ℕ) (slices : List Slice) (shares : List Share) → IsRising end slices → AreAtEnds (parts_of shares) slices → AreLanded shares → AreBelow (parts_of shares) slices → IsRising end (filled slices shares)
rising_filled end [] shares rising at whole below = tt
rising_filled end (slice ∷ rest) [] rising at whole below = rising
rising_filled end (slice ∷ rest) (share ∷ shares) rising at whole below =
    let same : slice.first + (slice.got + length share.bytes) ≡ share.part.end = let e = at.0 in let all = whole.0 in omega (arith, e, all) in
    let fits : slice.first + (slice.got + length share.bytes) ≤ limit_of rest = let low = below.0 in omega (arith, same, low) in
    let most = limit_low (end_of slice) rest rising.2 in (
      rising.0,
      omega (arith, fits, most),
      rising_filled (slice.first + (slice.got + length share.bytes)) rest shares (rising_from (end_of slice) (slice.first + (slice.got + length share.bytes)) rest rising.2 fits) at.1 whole.1 below.1,
    )

cover_filled : (slices : List Slice) (shares : List Share) → IsCover slices → AreAtEnds (parts_of shares) slices → AreLanded shares → AreBelow (parts_of shares) slices → IsCover (filled slices shares)
cover_filled [] shares is at whole below = absurd is
cover_filled (slice ∷ rest) [] is at whole below = is
cover_filled (slice ∷ rest) (share ∷ shares) is at whole below = (is.0, rising_filled 0 (slice ∷ rest) (share ∷ shares) is.1 at whole below)

-- And within the total.

within_filled : (from bound : ℕ) (slices : List Slice) (shares : List Share) → IsWithin bound slices → AreAtEnds (parts_of shares) slices → AreLanded shares → AreDisjoint from bound (parts_of shares) → IsWithin bound (filled slices shares)
within_filled from bound [] shares within at whole apart = tt
within_filled from bound (slice ∷ rest) [] within at whole apart = within
within_filled from bound (slice ∷ rest) (share ∷ shares) within at whole apart =
    let e = at.0 in
    let all = whole.0 in
    let low = apart.2 in
    (omega (arith, e, all, low), within_filled share.part.end bound rest shares within.1 at.1 whole.1 apart.3)

abbrev Low : ℕ → List Run → Type 0
Low bound runs = AllByRecursion (λ (r : Run). r.from ≤ bound) runs

low_numbered : (from bound at : ℕ) (runs : List Run) → AreDisjoint from bound (numbered at runs) → Low bound runs
low_numbered from bound at [] apart = tt
low_numbered from bound at (r ∷ rest) apart =
    let some = apart.1 in
    let high = apart.2 in
    (omega (arith, some, high), low_numbered r.to bound (at + 1) rest apart.3)

low_first : (bound : ℕ) (runs more : List Run) → Low bound (runs ++ more) → Low bound runs
low_first bound [] more low = tt
low_first bound (r ∷ runs) more low = (low.0, low_first bound runs more low.1)

low_rest : (bound : ℕ) (runs more : List Run) → Low bound (runs ++ more) → Low bound more
low_rest bound [] more low = low
low_rest bound (r ∷ runs) more low = low_rest bound runs more low.1

low_drop : (bound : ℕ) (runs : List Run) → Low bound runs → Low bound (drop 1 runs)
low_drop bound [] low = tt
low_drop bound (r ∷ runs) low = low.1

within_empties : (bound : ℕ) (runs : List Run) (tail : List Slice) → Low bound runs → IsWithin bound tail → IsWithin bound (map empty_at runs ++ tail)
within_empties bound [] tail low within = within
within_empties bound (r ∷ runs) tail low within = (let own = low.0 in omega (arith, own), within_empties bound runs tail low.1 within)

within_opened : (bound : ℕ) (slices : List Slice) (groups : List (List Run)) → Low bound (all_of groups) → IsWithin bound slices → IsWithin bound (opened slices groups)
within_opened bound [] groups low within = tt
within_opened bound (slice ∷ rest) [] low within = within
within_opened bound (slice ∷ rest) (runs ∷ more) low within =
    (within.0, within_empties bound (drop 1 runs) (opened rest more) (low_drop bound runs (low_first bound runs (all_of more) low)) (within_opened bound rest more (low_rest bound runs (all_of more) low) within.1))

-- One round, of which all was landed.
module _ (t n least : ℕ) (cover : List Slice) (shares : List Share) (is : IsCover cover) (inside : IsWithin t cover) (small : t ≤ 2 ^ 40) (some : 0 < n) (most : 0 < least) (parts : parts_of shares ≡ parts_by (Some t) n least cover) (whole : AreLanded shares) where
  abbrev opens : List Slice
  opens = opened_by (Some t) n least cover

  placed : AreNumbered 0 (parts_of shares) × AreAtEnds (parts_of shares) opens
  placed = subst (λ (p : List Part). AreNumbered 0 p × AreAtEnds p opens) (sym parts) (placed_by (Some t) n least cover is small (λ none. absurd (none-some t (sym none))) most)

  below : AreBelow (parts_of shares) opens
  below = below_at opens (parts_of shares) 0 opens (λ k. ap (λ (m : ℕ). limit_at opens m) (let e : 0 + k ≡ k = omega arith in e)) placed.0 (subst (AreAtSlices opens) (sym parts) (plan_of-placed t n least cover is small most))

  apart : AreDisjoint 0 t (parts_of shares)
  apart = subst (AreDisjoint 0 t) (sym parts) (plan_of-fills t n least cover is inside most).disjoint

  pub round_cover : IsCover (filled opens shares)
  round_cover = cover_filled opens shares (cover-opened t least n (64 - length (normal_of (Some t) cover)) (normal_of (Some t) cover) small (chain-normal_of (Some t) cover is) (cover-normal_of (Some t) cover is)) placed.1 whole below

  pub round_within : IsWithin t (filled opens shares)
  round_within =
      within_filled 0 t opens shares
      (within_opened t (normal_of (Some t) cover) (groups_of (normal_of (Some t) cover) t n least)
      (low_numbered 0 t 0 (all_of (groups_of (normal_of (Some t) cover) t n least)) (plan_of-fills t n least cover is inside most).disjoint) (within-normal_of t (Some t) cover is inside))
      placed.1 whole apart

  forward : (place : ℕ) → HasByte (filled opens shares) place → HasByte cover place ⊎ InParts (parts_by (Some t) n least cover) place
  forward place has = elim (filled_forward opens shares placed.1 whole place has) [
    | inl there ↦ inl ((places-planned t n least cover is place).0 there)
    | inr in_part ↦ inr (subst (λ (p : List Part). InParts p place) parts in_part)
  ]

  pub round_more : (place : ℕ) → HasByte cover place → HasByte (filled opens shares) place
  round_more place has = filled_more opens shares place ((places-planned t n least cover is place).1 has)

  back : (place : ℕ) → HasByte cover place ⊎ InParts (parts_by (Some t) n least cover) place → HasByte (filled opens shares) place
  back place (inl there) = round_more place there
  back place (inr in_part) = filled_parts opens shares placed.1 whole place (subst (λ (p : List Part). InParts p place) (sym parts) in_part)

  pub round_fewer : (gaps t cover ≡ 0) ⊎ (gaps t (filled opens shares) + 1 ≤ gaps t cover)
  round_fewer = fewer_gaps t n least cover (filled opens shares) is round_cover inside round_within some most (λ place. (forward place, back place))

-- Where there are no holes, every place is there.

abbrev Fulls : ℕ → Slice → List Slice → Type 0
Fulls t slice rest = length (holes t (slice ∷ rest)) ≡ 0 → (place : ℕ) → slice.first ≤ place → place < t → HasByte (slice ∷ rest) place

one_hole : (t : ℕ) (slice : Slice) (rest : List Slice) → end_of slice < stop_of t rest → length (holes t (slice ∷ rest)) ≡ 0 → ⊥
one_hole t slice rest there none = let e = ap (λ (l : List Run). length l) (holes-there t slice rest there) in omega (arith, e, none)

full_from : (t : ℕ) (slice : Slice) (rest : List Slice) → Fulls t slice rest
full_from t slice [] none place low high = elim (cases_lt (end_of slice) t) [
  | inl there ↦ absurd (one_hole t slice [] there none)
  | inr past ↦ inl (low, omega (arith, past, high))
]
full_from t slice (next ∷ rest) none place low high = elim (cases_lt (end_of slice) next.first) [
  | inl there ↦ absurd (one_hole t slice (next ∷ rest) there none)
  | inr past ↦ elim (cases_lt place (end_of slice)) [
    | inl before ↦ inl (low, before)
    | inr behind ↦ inr (full_from t next rest (ap (λ (l : List Run). length l) (sym (holes-none t slice (next ∷ rest) past)) ∙ none) place (omega (arith, past, behind)) high)
  ]
]

full_normal : (t : ℕ) (slices : List Slice) → IsCover slices → length (holes t slices) ≡ 0 → IsFull t slices
full_normal t [] is none = absurd is
full_normal t (slice ∷ rest) is none = λ place high. full_from t slice rest none place (let first = is.0 in omega (arith, first)) high

none_full : (t : ℕ) (cover : List Slice) → IsCover cover → gaps t cover ≡ 0 → IsFull t cover
none_full t cover is none = λ place high.
    ((normal_of-meaning (Some t) cover is).places place).0 (full_normal t (normal_of (Some t) cover) (cover-normal_of (Some t) cover is) none place high)

-- There are no more holes than slices.

few_holes : (t : ℕ) (slices : List Slice) → length (holes t slices) ≤ length slices
few_holes t [] = omega arith
few_holes t (slice ∷ rest) =
    let later = few_holes t rest in
    elim (cases_lt (end_of slice) (stop_of t rest)) [
      | inl there ↦ let e = ap (λ (l : List Run). length l) (holes-there t slice rest there) in omega (arith, e, later)
      | inr none ↦ let e = ap (λ (l : List Run). length l) (holes-none t slice rest none) in omega (arith, e, later)
    ]

joined_test : (now slice : Slice) (rest : List Slice) (a b : Bool) → length (joined now rest) ≤ length rest + 1 → length (joined (record now { got = now.got + slice.got }) rest) ≤ length rest + 1 → length (joined slice rest) ≤ length rest + 1
    → length (if a then joined now rest else (if b then joined (record now { got = now.got + slice.got }) rest else (now ∷ joined slice rest))) ≤ (length rest + 1) + 1
joined_test now slice rest true b left more apart = omega (arith, left)
joined_test now slice rest false true left more apart = omega (arith, more)
joined_test now slice rest false false left more apart = omega (arith, apart)

joined_few : (now : Slice) (rest : List Slice) → length (joined now rest) ≤ length rest + 1
joined_few now [] = omega arith
joined_few now (slice ∷ rest) =
    let few = joined_test now slice rest (slice.got == 0) (slice.first == end_of now) (joined_few now rest) (joined_few (record now { got = now.got + slice.got }) rest) (joined_few slice rest) in
    omega (arith, few)

normal_few : (total : Option ℕ) (cover : List Slice) → length (normal_of total cover) ≤ length cover
normal_few total [] = omega arith
normal_few total (slice ∷ rest) = let same = length-map (joined slice rest) (marked total) in let few = joined_few slice rest in omega (arith, same, few)

few_gaps : (t : ℕ) (cover : List Slice) → gaps t cover ≤ length cover
few_gaps t cover = let a = few_holes t (normal_of (Some t) cover) in let b = normal_few (Some t) cover in omega (arith, a, b)

-- All rounds.

record Reached (t n least : ℕ) (start : List Slice) (rounds : List Round) : Type 0 where
  cover : IsCover (cover_of start (Some t) n least rounds)
  within : IsWithin t (cover_of start (Some t) n least rounds)
  less : IsFull t (cover_of start (Some t) n least rounds) ⊎ (gaps t (cover_of start (Some t) n least rounds) + length rounds ≤ gaps t start)

module _ (t n least : ℕ) (start : List Slice) (small : t ≤ 2 ^ 40) (some : 0 < n) (most : 0 < least) (is : IsCover start) (inside : IsWithin t start) where
  reached : (rounds : List Round) → ArePlanned start (Some t) n least rounds → AllByRecursion IsLandedRound rounds → Reached t n least start rounds
  reached [] planned whole = record { cover = is; within = inside; less = inr (omega arith) }
  reached (round ∷ older) planned whole =
      let was = reached older planned.1 whole.1 in
      let cover : round.cover ≡ cover_of start (Some t) n least older = planned.0.cover_is in
      let own_is : IsCover round.cover = subst IsCover (sym cover) was.cover in
      let own_inside : IsWithin t round.cover = subst (IsWithin t) (sym cover) was.within in
      let landed : AreLanded round.shares = whole.0 (have_places 0 t (parts_of round.shares) (subst (AreDisjoint 0 t) (sym planned.0.parts_are) (plan_of-fills t n least round.cover own_is own_inside most).disjoint)) in
      record {
        cover = round_cover t n least round.cover round.shares own_is own_inside small some most planned.0.parts_are landed;
        within = round_within t n least round.cover round.shares own_is own_inside small some most planned.0.parts_are landed;
        less = elim was.less [
          | inl full ↦ inl (λ place high. round_more t n least round.cover round.shares own_is own_inside small some most planned.0.parts_are landed place (subst (λ (c : List Slice). HasByte c place) (sym cover) (full place high)))
          | inr fewer ↦ elim (round_fewer t n least round.cover round.shares own_is own_inside small some most planned.0.parts_are landed) [
            | inl none ↦ inl (λ place high. round_more t n least round.cover round.shares own_is own_inside small some most planned.0.parts_are landed place (none_full t round.cover own_is none place high))
            | inr less ↦ let same = ap (gaps t) cover in inr (omega (arith, fewer, less, same))
          ]
        ];
      }

  -- Behind more whole rounds than there were slices no place is missing, whatever the newest round brought.
  pub never_missing : (newest : Round) (older : List Round) (place : ℕ) → ArePlanned start (Some t) n least (newest ∷ older) → AllByRecursion IsLandedRound older → length start < length older
      → IsFirstMissing t (cover_of start (Some t) n least (newest ∷ older)) place → ⊥
  never_missing newest older place planned whole many missing =
      let was = reached older planned.1 whole in
      let few = few_gaps t start in
      elim was.less [
        | inl full ↦
            let own = planned.0.cover_is in
            let there : HasByte newest.cover place = subst (λ (c : List Slice). HasByte c place) (sym own) (full place missing.within.1) in
            missing.missing (filled_more (opened_by (Some t) n least newest.cover) newest.shares place ((places-planned t n least newest.cover (subst IsCover (sym own) was.cover) place).1 there))
        | inr fewer ↦ absurd (omega (arith, fewer, few, many))
      ]
