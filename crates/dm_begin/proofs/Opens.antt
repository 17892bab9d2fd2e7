-- The cover and the parts that a round makes of a cover.
use Rattle.std.proofs.Common.{◌≡◌, inl, inr, ℕ, zero, suc, ◌+◌, ◌-◌, ◌*◌, ◌/◌, ◌^◌, ◌<◌, ◌≤◌, ◌==◌, Bool, true, false, List, [], ◌∷◌, ◌++◌, map, length, drop, Option, Some, None, refl, sym, subst, arith}
use Rattle.std.specs.Prelude.{IfSome, if◌then◌else◌}
use Rattle.std.proofs.lemmas.Bool.{cases_lt}
use Rattle.std.proofs.lemmas.List.{length-map}
use Rattle.dm_types.specs.declared.slices.Slice.{Slice}
use Rattle.dm_slice.specs.Cover.{IsCover, IsWithinTotal, SamePlaces, joined, limit_at, marked, next_of, normal_of}
use Rattle.dm_slice.specs.Plan.{AreAtSlices, AreDisjoint, IsChain, Run, all_of, cut_in, cuts, empty_at, groups, groups_of, holes, numbered, open_part, opened, opened_by, parts_by, run, stop_of}
use Rattle.dm_slice.specs.Words.{IsWithin, covered, cover_end, end_of}
use Rattle.dm_slice.proofs.Ends.{last_limit, last_next}
use Rattle.dm_slice.proofs.Filled.{plan_of-fills}
use Rattle.dm_slice.proofs.Joins.{normal_of-meaning}
use Rattle.dm_slice.proofs.Opened.{alone, behind, chain-normal_of, chain-rest, cover-normal_of, cover-opened, cut, cut_of, groups-cut, groups_behind, length-opened, share-some, share_of, within-normal_of}
use Rattle.dm_slice.proofs.Placed.{plan_of-placed}
use Rattle.dm_slice.proofs.Rounds.{open-none, open-some}
use Rattle.dm_slice.proofs.Sums.{covered-normal_of, covered-planned, places-planned}
use Rattle.dm_slice.specs.declared.plan.Part.{Part}
use Rattle.dm_store.specs.Lives.{ArePlaced, EndWithin}

-- A normal list is no longer.

length-either : (a b : Bool) (x y z : List Slice) (n : ℕ) → length x ≤ n → length y ≤ n → length z ≤ n → length (if a then x else (if b then y else z)) ≤ n
length-either true b x y z n one two three = one
length-either false true x y z n one two three = two
length-either false false x y z n one two three = three

length-joined : (now : Slice) (rest : List Slice) → length (joined now rest) ≤ length rest + 1
length-joined now [] = omega arith
length-joined now (slice ∷ rest) =
    let more : Slice = record now { got = now.got + slice.got } in
    let one = length-joined now rest in
    let two = length-joined more rest in
    let three = length-joined slice rest in
    length-either (slice.got == 0) (slice.first == end_of now) (joined now rest) (joined more rest) (now ∷ joined slice rest) (length (slice ∷ rest) + 1) (omega (arith, one)) (omega (arith, two)) (omega (arith, three))

length-normal : (total : Option ℕ) (cover : List Slice) → length (normal_of total cover) ≤ length cover
length-normal total [] = omega arith
length-normal total (slice ∷ rest) = let few = length-joined slice rest in let same = length-map (joined slice rest) (marked total) in omega (arith, few, same)

-- and a list of one slice stays one
one-normal : (cover : List Slice) → length cover ≡ 1 → length (normal_of None cover) ≡ 1
one-normal [] is = absurd (omega (arith, is))
one-normal (slice ∷ []) is = refl
one-normal (slice ∷ other ∷ rest) is = absurd (omega (arith, is))

one-end : (cover : List Slice) → length cover ≡ 1 → cover_end (normal_of None cover) ≡ cover_end cover
one-end [] is = absurd (omega (arith, is))
one-end (slice ∷ []) is = refl
one-end (slice ∷ other ∷ rest) is = absurd (omega (arith, is))

-- A plan lies within the total.

within-append : (bound : ℕ) (first second : List Slice) → IsWithin bound first → IsWithin bound second → IsWithin bound (first ++ second)
within-append bound [] second one two = two
within-append bound (slice ∷ first) second one two = (one.0, within-append bound first second one.1 two)

cuts-further : (k from size end : ℕ) → drop 1 (cuts (suc k) from size end) ≡ cuts k (from + size) size end
cuts-further zero from size end = refl
cuts-further (suc k) from size end = refl

within-empty : (k at size end bound : ℕ) → at + k * size ≤ bound → IsWithin bound (map empty_at (cuts k at size end))
within-empty zero at size end bound high = tt
within-empty (suc zero) at size end bound high = (omega arith, tt)
within-empty (suc (suc k)) at size end bound high = (omega arith, within-empty (suc k) (at + size) size end bound (omega arith))

within-cut : (k from to bound : ℕ) → 0 < k → from ≤ to → to ≤ bound → IsWithin bound (map empty_at (drop 1 (cut_in k (run from to))))
within-cut zero from to bound some low high = absurd (omega arith)
within-cut (suc k) from to bound some low high =
    rw (cuts-further k from ((to - from) / suc k) to) (within-empty k (from + (to - from) / suc k) ((to - from) / suc k) to bound (omega arith))

stop-within : (total : ℕ) (rest : List Slice) → IsWithin total rest → stop_of total rest ≤ total
stop-within total [] within = omega arith
stop-within total (next ∷ rest) within = let ends = within.0 in omega (arith, ends)

within-opened : (total least left room : ℕ) (slices : List Slice) → IsChain slices → IsWithin total slices → IsWithin total (opened slices (groups least left room (holes total slices)))
within-opened total least left room [] chain within = tt
within-opened total least left room (slice ∷ rest) chain within =
    elim (behind total least left room slice rest chain) [
      | alone none ↦ rw none within
      | cut there some ↦
          let k = share_of total least left room slice rest in
          let tail = opened rest (groups_behind total least left room slice rest) in
          let later : IsWithin total tail = within-opened total least (left - k) (room + 1 - k) rest (chain-rest slice rest chain) within.1 in
          let stop : stop_of total rest ≤ total = stop-within total rest within.1 in
          rw (groups-cut total least left room slice rest there some) (
            within.0,
            within-append total (map empty_at (drop 1 (cut_of total least left room slice rest))) tail
                (within-cut k (end_of slice) (stop_of total rest) total (share-some least left room (length (holes total rest)) (stop_of total rest - end_of slice)) (omega arith) stop) later,
          )
    ]

-- The cover behind a round.

abbrev pub IsSmall : Option ℕ → Type 0
IsSmall total = IfSome total (λ bytes. bytes ≤ 2 ^ 40)

pub opened_places : (total : Option ℕ) (n least : ℕ) (cover : List Slice) → IsCover cover → SamePlaces (opened_by total n least cover) cover
opened_places None n least cover is = (normal_of-meaning None cover is).places
opened_places (Some total) n least cover is = places-planned total n least cover is

pub opened_cover : (total : Option ℕ) (n least : ℕ) (cover : List Slice) → IsCover cover → IsSmall total → IsCover (opened_by total n least cover)
opened_cover None n least cover is small = cover-normal_of None cover is
opened_cover (Some total) n least cover is small =
    let normal = normal_of (Some total) cover in
    cover-opened total least n (64 - length normal) normal small (chain-normal_of (Some total) cover is) (cover-normal_of (Some total) cover is)

pub opened_few : (total : Option ℕ) (n least : ℕ) (cover : List Slice) → IsCover cover → length cover ≤ 64 → length (opened_by total n least cover) ≤ 64
opened_few None n least cover is few = let less = length-normal None cover in omega (arith, less, few)
opened_few (Some total) n least cover is few =
    let normal = normal_of (Some total) cover in
    let less = length-normal (Some total) cover in
    let most = length-opened total least n (64 - length normal) normal (chain-normal_of (Some total) cover is) in
    omega (arith, less, few, most)

pub opened_within : (total : Option ℕ) (n least : ℕ) (cover : List Slice) → IsCover cover → IsWithinTotal total cover → IsWithinTotal total (opened_by total n least cover)
opened_within None n least cover is within = tt
opened_within (Some total) n least cover is within =
    let normal = normal_of (Some total) cover in
    within-opened total least n (64 - length normal) normal (chain-normal_of (Some total) cover is) (within-normal_of total (Some total) cover is within)

pub opened_covered : (total : Option ℕ) (n least : ℕ) (cover : List Slice) → IsCover cover → covered (opened_by total n least cover) ≡ covered cover
opened_covered None n least cover is = covered-normal_of None cover is
opened_covered (Some total) n least cover is = covered-planned total n least cover is

none-some : (total : ℕ) → Some total ≡ None → ⊥
none-some total is = absurd cc

pub opened_one : (total : Option ℕ) (n least : ℕ) (cover : List Slice) → (total ≡ None → length cover ≡ 1) → total ≡ None → length (opened_by total n least cover) ≡ 1
opened_one None n least cover one none = one-normal cover (one none)
opened_one (Some total) n least cover one none = absurd (none-some total none)

-- it ends where it did, where the total isn't known
pub opened_end : (total : Option ℕ) (n least : ℕ) (cover : List Slice) → (total ≡ None → length cover ≡ 1) → total ≡ None → cover_end (opened_by total n least cover) ≡ cover_end cover
opened_end None n least cover one none = one-end cover (one none)
opened_end (Some total) n least cover one none = absurd (none-some total none)

-- Each part of the round stands behind the slice with its number.

placed-numbered : (slices : List Slice) (at from bound : ℕ) (runs : List Run) → AreAtSlices slices (numbered at runs) → AreDisjoint from bound (numbered at runs) → ArePlaced at slices (numbered at runs)
placed-numbered slices at from bound [] fits apart = tt
placed-numbered slices at from bound (r ∷ rest) fits apart =
    let later = apart.1 in (
      record { is = refl; place = r.from; next = fits.0; from = omega arith; to = omega (arith, later); room = fits.1 },
      placed-numbered slices (at + 1) r.to bound rest fits.2 apart.3,
    )

placed-open : (cover : List Slice) → IsCover cover → length cover ≡ 1 → ArePlaced 0 cover (open_part cover)
placed-open cover is one =
    elim (cases_lt (cover_end cover) (2 ^ 40)) [
      | inl below ↦
          let first : length cover - 1 ≡ 0 = omega (arith, one) in
          let limit = last_limit cover is in
          subst (ArePlaced 0 cover) (sym (open-some cover below)) (
            record {
              is = first;
              place = cover_end cover;
              next = subst (λ (k : ℕ). next_of cover k ≡ Some (cover_end cover)) first (last_next cover is);
              from = omega arith;
              to = omega (arith, below);
              room = subst (λ (k : ℕ). 2 ^ 40 ≤ limit_at cover k) first limit;
            },
            tt,
          )
      | inr high ↦ subst (ArePlaced 0 cover) (sym (open-none cover high)) tt
    ]

pub opened_placed : (total : Option ℕ) (n least : ℕ) (cover : List Slice) → IsCover cover → IsSmall total → IsWithinTotal total cover → (total ≡ None → length cover ≡ 1) → 0 < least
    → ArePlaced 0 (opened_by total n least cover) (parts_by total n least cover)
opened_placed None n least cover is small within one some = placed-open (normal_of None cover) (cover-normal_of None cover is) (one-normal cover (one refl))
opened_placed (Some total) n least cover is small within one some =
    let normal = normal_of (Some total) cover in
    placed-numbered (opened_by (Some total) n least cover) 0 0 total (all_of (groups_of normal total n least)) (plan_of-placed total n least cover is small some) (plan_of-fills total n least cover is within some).disjoint

-- No part ends above a known total.

ends-unknown : (plan : List Part) → EndWithin None plan
ends-unknown [] = tt
ends-unknown (part ∷ rest) = (tt, ends-unknown rest)

ends-disjoint : (from bound : ℕ) (plan : List Part) → AreDisjoint from bound plan → EndWithin (Some bound) plan
ends-disjoint from bound [] apart = tt
ends-disjoint from bound (part ∷ rest) apart = (apart.2, ends-disjoint part.end bound rest apart.3)

pub opened_ends : (total : Option ℕ) (n least : ℕ) (cover : List Slice) → IsCover cover → IsWithinTotal total cover → 0 < least → EndWithin total (parts_by total n least cover)
opened_ends None n least cover is within some = ends-unknown (open_part (normal_of None cover))
opened_ends (Some total) n least cover is within some = ends-disjoint 0 total (parts_by (Some total) n least cover) (plan_of-fills total n least cover is within some).disjoint
