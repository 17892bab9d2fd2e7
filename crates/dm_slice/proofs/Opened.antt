-- The cover behind a plan: it is a cover, of at most 64 slices.
use Rattle.std.proofs.Common.{◌≡◌, ℕ, zero, suc, ◌+◌, ◌-◌, ◌*◌, ◌/◌, ◌^◌, ◌<◌, ◌≤◌, List, [], ◌∷◌, ◌++◌, map, length, drop, Option, Some, inl, inr, refl, ap, sym, subst, ◌∙◌, length-append, arith}
use Rattle.std.proofs.lemmas.List.{length-map}
use Rattle.std.proofs.lemmas.Bool.{cases_lt}
use Rattle.dm_types.specs.declared.slices.Slice.{Slice}
use Rattle.dm_slice.specs.Words.{end_of, IsNormal, IsWithin}
use Rattle.dm_slice.specs.Cover.{IsRising, IsCover, joined, marked, normal_of}
use Rattle.dm_slice.specs.Plan.{Run, run, stop_of, holes, share, cuts, cut_in, groups, empty_at, opened, IsChain, Walked}
use Rattle.dm_slice.specs.declared.plan.Part.{Part}
use Rattle.dm_slice.proofs.Joins.{empty, touch, apart, meets, rising-later, with_more, joined-empty, joined-touch, joined-apart, normal_of-meaning}
use Rattle.dm_slice.proofs.Covers.{cover-normal}
use Rattle.dm_slice.proofs.Plans.{holes-there, holes-none, groups-some, groups-none, length-cuts}

pub chain-normal : (total : Option ℕ) (slices : List Slice) → IsNormal total slices → IsChain slices
chain-normal total [] normal = absurd normal
chain-normal total (slice ∷ rest) normal = normal.1

pub chain-rest : (slice : Slice) (rest : List Slice) → IsChain (slice ∷ rest) → IsChain rest
chain-rest slice [] chain = tt
chain-rest slice (next ∷ rest) chain = chain.2

-- joining moves no end
within-joined : (bound : ℕ) (now : Slice) (rest : List Slice) → IsRising (end_of now) rest → end_of now ≤ bound → IsWithin bound rest → IsWithin bound (joined now rest)
within-joined bound now [] rising ends within = (ends, tt)
within-joined bound now (slice ∷ rest) rising ends within =
    elim (meets now slice rising.0) [
      | empty none ↦ rw (joined-empty now slice rest none) (within-joined bound now rest (rising-later (end_of now) (end_of slice) rest rising.2 (omega arith)) ends within.1)
      | touch full near ↦
          let more = with_more now slice in
          let joins : IsRising (end_of more) rest = rising-later (end_of more) (end_of slice) rest rising.2 (omega arith) in
          rw (joined-touch now slice rest full near) (within-joined bound more rest joins (omega arith) within.1)
      | apart full far ↦ rw (joined-apart now slice rest full far) (ends, within-joined bound slice rest rising.2 within.0 within.1)
    ]

within-marked : (bound : ℕ) (total : Option ℕ) (slices : List Slice) → IsWithin bound slices → IsWithin bound (map (marked total) slices)
within-marked bound total [] within = tt
within-marked bound total (slice ∷ rest) within = (within.0, within-marked bound total rest within.1)

pub within-normal_of : (bound : ℕ) (total : Option ℕ) (cover : List Slice) → IsCover cover → IsWithin bound cover → IsWithin bound (normal_of total cover)
within-normal_of bound total [] is within = tt
within-normal_of bound total (slice ∷ rest) is within = within-marked bound total (joined slice rest) (within-joined bound slice rest is.1.2 within.0 within.1)

-- the empty slices of a hole rise up to its end
cuts-further : (k from size end : ℕ) → drop 1 (cuts (suc k) from size end) ≡ cuts k (from + size) size end
cuts-further zero from size end = refl
cuts-further (suc k) from size end = refl

rising-empty : (k at size end from to : ℕ) (tail : List Slice) → from ≤ at → at + k * size ≤ to → to ≤ 2 ^ 40 → IsRising to tail → IsRising from (map empty_at (cuts k at size end) ++ tail)
rising-empty zero at size end from to tail low high most rising = rising-later from to tail rising (omega arith)
rising-empty (suc zero) at size end from to tail low high most rising =
    (low, omega arith, rising-later (at + 0) to tail rising (omega arith))
rising-empty (suc (suc k)) at size end from to tail low high most rising =
    (low, omega arith, rising-empty (suc k) (at + size) size end (at + 0) to tail (omega arith) (omega arith) most rising)

rising-cut : (k from to : ℕ) (tail : List Slice) → 0 < k → from ≤ to → to ≤ 2 ^ 40 → IsRising to tail → IsRising from (map empty_at (drop 1 (cut_in k (run from to))) ++ tail)
rising-cut zero from to tail some low most rising = absurd (omega arith)
rising-cut (suc k) from to tail some low most rising =
    rw (cuts-further k from ((to - from) / suc k) to)
    (rising-empty k (from + (to - from) / suc k) ((to - from) / suc k) to from to tail (omega arith) (omega arith) most rising)

rising-stop : (total end : ℕ) (rest : List Slice) → IsRising end rest → IsRising (stop_of total rest) rest
rising-stop total end [] rising = tt
rising-stop total end (next ∷ rest) rising = (omega arith, rising.1, rising.2)

stop-low : (total end : ℕ) (rest : List Slice) → total ≤ 2 ^ 40 → IsRising end rest → stop_of total rest ≤ 2 ^ 40
stop-low total end [] most rising = most
stop-low total end (next ∷ rest) most rising = let ends = rising.1 in omega arith

pub share-some : (least left room behind size : ℕ) → 0 < share least left room behind size
share-some least left room behind size = omega arith

share-fits : (least left room behind size : ℕ) → share least left room behind size ≤ room + 1
share-fits least left room behind size = omega arith

-- whether a slice has a hole behind it that gets parts
pub data Behind (total least left room : ℕ) (slice : Slice) (rest : List Slice) : Type 0 where
  alone : groups least left room (holes total (slice ∷ rest)) ≡ [] → Behind total least left room slice rest
  cut : end_of slice < stop_of total rest → 0 < left → Behind total least left room slice rest

behind-last : (total least left room : ℕ) (slice : Slice) (rest : List Slice) → IsChain (slice ∷ rest) → stop_of total rest ≤ end_of slice → Behind total least left room slice rest
behind-last total least left room slice [] chain none = alone (ap (groups least left room) (holes-none total slice [] none))
behind-last total least left room slice (next ∷ rest) chain none = let far = chain.0 in absurd (omega arith)

pub behind : (total least left room : ℕ) (slice : Slice) (rest : List Slice) → IsChain (slice ∷ rest) → Behind total least left room slice rest
behind total least left room slice rest chain =
    elim (cases_lt (end_of slice) (stop_of total rest)) [
      | inl there ↦ elim (cases_lt 0 left) [
        | inl some ↦ cut there some
        | inr none ↦ let zeroed : left ≡ 0 = omega arith in alone (ap (λ (n : ℕ). groups least n room (holes total (slice ∷ rest))) zeroed ∙ groups-none least room (holes total (slice ∷ rest)))
      ]
      | inr none ↦ behind-last total least left room slice rest chain none
    ]

abbrev pub share_of : ℕ → ℕ → ℕ → ℕ → Slice → List Slice → ℕ
share_of total least left room slice rest = share least left room (length (holes total rest)) (stop_of total rest - end_of slice)

abbrev pub cut_of : ℕ → ℕ → ℕ → ℕ → Slice → List Slice → List Run
cut_of total least left room slice rest = cut_in (share_of total least left room slice rest) (run (end_of slice) (stop_of total rest))

abbrev pub groups_behind : ℕ → ℕ → ℕ → ℕ → Slice → List Slice → List (List Run)
groups_behind total least left room slice rest =
    groups least (left - share_of total least left room slice rest) (room + 1 - share_of total least left room slice rest) (holes total rest)

-- the groups from a slice on that has a hole behind it
pub groups-cut : (total least left room : ℕ) (slice : Slice) (rest : List Slice) → end_of slice < stop_of total rest → 0 < left →
    groups least left room (holes total (slice ∷ rest)) ≡ cut_of total least left room slice rest ∷ groups_behind total least left room slice rest
groups-cut total least left room slice rest there some =
    ap (groups least left room) (holes-there total slice rest there)
    ∙ groups-some least left room (share_of total least left room slice rest) (run (end_of slice) (stop_of total rest)) (holes total rest) some refl

rising-opened : (total least left room end : ℕ) (slices : List Slice) → total ≤ 2 ^ 40 → IsChain slices → IsRising end slices → IsRising end (opened slices (groups least left room (holes total slices)))
rising-opened total least left room end [] most chain rising = tt
rising-opened total least left room end (slice ∷ rest) most chain rising =
    elim (behind total least left room slice rest chain) [
      | alone none ↦ rw none rising
      | cut there some ↦
          let k = share_of total least left room slice rest in
          let tail = opened rest (groups_behind total least left room slice rest) in
          let later : IsRising (stop_of total rest) tail =
          rising-opened total least (left - k) (room + 1 - k) (stop_of total rest) rest most (chain-rest slice rest chain) (rising-stop total (end_of slice) rest rising.2) in
          rw (groups-cut total least left room slice rest there some)
          (rising.0, rising.1, rising-cut k (end_of slice) (stop_of total rest) tail (share-some least left room (length (holes total rest)) (stop_of total rest - end_of slice)) (omega arith) (stop-low total (end_of slice) rest most rising.2) later)
    ]

length-cut : (k : ℕ) (hole : Run) → 0 < k → length (map empty_at (drop 1 (cut_in k hole))) + 1 ≡ k
length-cut zero hole some = absurd (omega arith)
length-cut (suc k) hole some =
    let size = (hole.to - hole.from) / suc k in
    rw (cuts-further k hole.from size hole.to) (omega (arith, length-map (cuts k (hole.from + size) size hole.to) empty_at, length-cuts k (hole.from + size) size hole.to))

pub length-opened : (total least left room : ℕ) (slices : List Slice) → IsChain slices → length (opened slices (groups least left room (holes total slices))) ≤ length slices + room
length-opened total least left room [] chain = omega arith
length-opened total least left room (slice ∷ rest) chain =
    elim (behind total least left room slice rest chain) [
      | alone none ↦ rw none (omega arith)
      | cut there some ↦
          let k = share_of total least left room slice rest in
          let empties = map empty_at (drop 1 (cut_of total least left room slice rest)) in
          let tail = opened rest (groups_behind total least left room slice rest) in
          let later : length tail ≤ length rest + (room + 1 - k) = length-opened total least (left - k) (room + 1 - k) rest (chain-rest slice rest chain) in
          let few : k ≤ room + 1 = share-fits least left room (length (holes total rest)) (stop_of total rest - end_of slice) in
          let own : length empties + 1 ≡ k = length-cut k (run (end_of slice) (stop_of total rest)) (share-some least left room (length (holes total rest)) (stop_of total rest - end_of slice)) in
          let both : length (empties ++ tail) ≡ length empties + length tail = length-append empties tail in
          rw (groups-cut total least left room slice rest there some) (omega arith)
    ]

-- the cover behind a plan
pub cover-opened : (total least left room : ℕ) (slices : List Slice) → total ≤ 2 ^ 40 → IsChain slices → IsCover slices → IsCover (opened slices (groups least left room (holes total slices)))
cover-opened total least left room [] most chain is = absurd is
cover-opened total least left room (slice ∷ rest) most chain is =
    let rising = rising-opened total least left room 0 (slice ∷ rest) most chain is.1 in
    elim (behind total least left room slice rest chain) [
      | alone none ↦ rw none is
      | cut there some ↦ rw (groups-cut total least left room slice rest there some) (is.0, rw (groups-cut total least left room slice rest there some) at rising)
    ]

within-rising : (end : ℕ) (slices : List Slice) → IsRising end slices → IsWithin (2 ^ 40) slices
within-rising end [] rising = tt
within-rising end (slice ∷ rest) rising = (rising.1, within-rising (end_of slice) rest rising.2)

within-cover : (slices : List Slice) → IsCover slices → IsWithin (2 ^ 40) slices
within-cover [] is = absurd is
within-cover (slice ∷ rest) is = within-rising 0 (slice ∷ rest) is.1

pub cover-normal_of : (total : Option ℕ) (cover : List Slice) → IsCover cover → IsCover (normal_of total cover)
cover-normal_of total cover is =
    cover-normal total (normal_of total cover) (normal_of-meaning total cover is).normal (within-normal_of (2 ^ 40) total cover is (within-cover cover is))

-- what a plan needs and gives
pub chain-normal_of : (total : Option ℕ) (cover : List Slice) → IsCover cover → IsChain (normal_of total cover)
chain-normal_of total cover is = chain-normal total (normal_of total cover) (normal_of-meaning total cover is).normal

module _ (total least n room : ℕ) (cover normal s0 opens : List Slice) (p0 p1 : List Part) (is : IsCover cover) (same : normal ≡ normal_of (Some total) cover) (fresh : s0 ≡ []) (walked : Walked total least n room normal s0 opens p0 p1) where
  value : opens ≡ opened normal (groups least n room (holes total normal))
  value = walked.slices_are ∙ ap (λ (x : List Slice). x ++ opened normal (groups least n room (holes total normal))) fresh

  chain : IsChain normal
  chain = subst IsChain (sym same) (chain-normal_of (Some total) cover is)

  pub cover-planned : total ≤ 2 ^ 40 → IsCover opens
  cover-planned most =
      let whole : IsCover normal = subst IsCover (sym same) (cover-normal_of (Some total) cover is) in
      subst IsCover (sym value) (cover-opened total least n room normal most chain whole)

  pub length-planned : length opens ≤ length normal + room
  length-planned = subst (λ (x : List Slice). length x ≤ length normal + room) (sym value) (length-opened total least n room normal chain)
