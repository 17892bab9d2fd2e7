-- The first plan of a content of which nothing is there.
use Rattle.std.proofs.Common.{◌≡◌, inl, inr, ◌<◌, ◌≤◌, ℕ, ◌+◌, ◌-◌, zero, suc, false, List, [], ◌∷◌, ◌++◌, length, map, Option, Some, None, refl, sym, ◌∙◌, ap, subst, arith}
use Rattle.std.specs.Prelude.{◌/◌, ◌^◌, slice_get}
use Rattle.std.proofs.Math.Nat.{div-le_self}
use Rattle.std.proofs.lemmas.Bool.{cases_lt}
use Rattle.dm_types.specs.declared.slices.Slice.{Slice}
use Rattle.dm_item.specs.Fields.{no_bytes}
use Rattle.dm_item.specs.History.{get}
use Rattle.dm_slice.specs.Cover.{marked, normal_of}
use Rattle.dm_slice.specs.Plan.{Run, cuts, groups, numbered, all_of, opened, opened_by, parts_by, plan_of, run, share}
use Rattle.dm_slice.specs.Words.{IsFirstMissing, cover_end, end_of}
use Rattle.dm_slice.specs.declared.plan.Part.{Part}
use Rattle.dm_slice.proofs.Opened.{share-some}
use Rattle.dm_slice.proofs.Plans.{groups-some, holes-none, holes-there}
use Rattle.dm_attempt.specs.Shares.{Share}
use Rattle.dm_attempt.specs.Trace.{AreAtEnds, filled}

module _ (t n least : ℕ) where
  abbrev cover : List Slice
  cover = normal_of (Some t) no_bytes

  -- the slice with no byte
  abbrev whole : Slice
  whole = marked (Some t) (record { first = 0; got = 0; finished = false })

  abbrev many : ℕ
  many = share least n (64 - 1) 0 (t - 0)

  plan_all : 0 < t → 0 < n → plan_of cover t n least ≡ numbered 0 (cuts many 0 ((t - 0) / many) t ++ [])
  plan_all some more =
      ap (λ (hs : List Run). numbered 0 (all_of (groups least n (64 - 1) hs))) (holes-there t whole [] some)
      ∙ ap (λ (gs : List (List Run)). numbered 0 (all_of gs)) (groups-some least n (64 - 1) many (run 0 t) [] more refl)

  plan_none : t ≤ 0 → plan_of cover t n least ≡ []
  plan_none none = ap (λ (hs : List Run). numbered 0 (all_of (groups least n (64 - 1) hs))) (holes-none t whole [] none)

first_cut : (k size t : ℕ) (part : Part) (rest : List Part) → size ≤ t → numbered 0 (cuts k 0 size t ++ []) ≡ part ∷ rest → part.end ≤ t
first_cut zero size t part rest fits is = absurd (let e = is in cc)
first_cut (suc zero) size t part rest fits is =
    let e : record { index = 0; first = 0; end = t } ≡ part = cc in
    let end : t ≡ part.end = ap (λ (p : Part). p.end) e in omega (arith, end)
first_cut (suc (suc k)) size t part rest fits is =
    let e : record { index = 0; first = 0; end = 0 + size } ≡ part = cc in
    let end : 0 + size ≡ part.end = ap (λ (p : Part). p.end) e in omega (arith, end, fits)

-- the first part ends within the content
pub first_within : (t n least : ℕ) (part : Part) (rest : List Part) → 0 < n → parts_by (Some t) n least no_bytes ≡ part ∷ rest → part.end ≤ t
first_within t n least part rest more is = elim (cases_lt 0 t) [
  | inl some ↦ let d = div-le_self (t - 0) (many t n least) in first_cut (many t n least) ((t - 0) / many t n least) t part rest (omega (arith, d)) (sym (plan_all t n least some more) ∙ is)
  | inr none ↦ absurd (let e = sym (plan_none t n least none) ∙ is in cc)
]

-- one part alone is the whole content
one_part : (t least : ℕ) → 0 < t → parts_by (Some t) 1 least no_bytes ≡ record { index = 0; first = 0; end = t } ∷ []
one_part t least some =
    let one : many t 1 least ≡ 1 = omega arith in
    plan_all t 1 least some (omega arith) ∙ ap (λ (k : ℕ). numbered 0 (cuts k 0 ((t - 0) / k) t ++ [])) one

-- of an unknown length the part is open
pub open_whole : (n least : ℕ) → parts_by None n least no_bytes ≡ record { index = 0; first = 0; end = 2 ^ 40 } ∷ []
open_whole n least = refl

-- the first slice stays
opened_first : (slice : Slice) (gs : List (List Run)) → (rest : List Slice) × (opened (slice ∷ []) gs ≡ slice ∷ rest)
opened_first slice [] = ([], refl)
opened_first slice (runs ∷ more) = (_, refl)

at_first : (slice : Slice) (gs : List (List Run)) (part : Part) (rest : List Part) → AreAtEnds (part ∷ rest) (opened (slice ∷ []) gs) → end_of slice ≡ part.first
at_first slice [] part rest at = at.0
at_first slice (runs ∷ more) part rest at = at.0

-- the first part begins at the first place
pub first_begins : (total : Option ℕ) (n least : ℕ) (part : Part) (rest : List Part) → AreAtEnds (part ∷ rest) (opened_by total n least no_bytes) → part.first ≡ 0
first_begins None n least part rest at = sym at.0
first_begins (Some t) n least part rest at = sym (at_first _ _ part rest at)

has_all : (slice : Slice) (rest : List Slice) (share : Share) (more : List Share) (t place : ℕ) → slice.first ≡ 0 → slice.got ≡ 0 → length share.bytes ≡ t → IsFirstMissing t (filled (slice ∷ rest) (share ∷ more)) place → ⊥
has_all slice rest share more t place first got long missing =
    missing.missing (inl (omega (arith, first), let w = missing.within in omega (arith, first, got, long, w.1)))

known_whole : (t least : ℕ) (shares : List Share) (place : ℕ) → map (λ (share : Share). share.part) shares ≡ parts_by (Some t) 1 least no_bytes
    → ((share : Share) → slice_get shares 0 ≡ Some share → share.part.first + length share.bytes ≡ share.part.end) → IsFirstMissing t (filled (opened_by (Some t) 1 least no_bytes) shares) place → ⊥
known_whole t least [] place parts each missing =
    let w = missing.within in
    let some : 0 < t = omega (arith, w.1) in
    absurd (let e = parts ∙ one_part t least some in cc)
known_whole t least (share ∷ more) place parts each missing =
    let w = missing.within in
    let some : 0 < t = omega (arith, w.1) in
    let same : share.part ≡ record { index = 0; first = 0; end = t } = let e = parts ∙ one_part t least some in cc in
    let first : share.part.first ≡ 0 = ap (λ (p : Part). p.first) same in
    let end : share.part.end ≡ t = ap (λ (p : Part). p.end) same in
    let long : length share.bytes ≡ t = let e = each share refl in omega (arith, e, first, end) in
    let opens = opened_first _ _ in
    has_all _ opens.0 share more t place refl refl long (subst (λ (l : List Slice). IsFirstMissing t (filled l (share ∷ more)) place) opens.1 missing)

open_all : (shares : List Share) (place : ℕ) → IsFirstMissing (cover_end (filled (normal_of None no_bytes) shares)) (filled (normal_of None no_bytes) shares) place → ⊥
open_all [] place missing = let w = missing.within in absurd (omega (arith, w.1))
open_all (share ∷ more) place missing = let w = missing.within in missing.missing (inl (omega arith, omega (arith, w.1)))

-- one part alone, which was brought whole, leaves no place
pub none_missing : (total : Option ℕ) (least : ℕ) (shares : List Share) (place : ℕ) → map (λ (share : Share). share.part) shares ≡ parts_by total 1 least no_bytes
    → ((t : ℕ) → total ≡ Some t → (share : Share) → slice_get shares 0 ≡ Some share → share.part.first + length share.bytes ≡ share.part.end)
    → IsFirstMissing (get total (cover_end (filled (opened_by total 1 least no_bytes) shares))) (filled (opened_by total 1 least no_bytes) shares) place → ⊥
none_missing None least shares place parts each missing = open_all shares place missing
none_missing (Some t) least shares place parts each missing = known_whole t least shares place parts (each t refl) missing

cut_some : (k size t : ℕ) → 0 < k → numbered 0 (cuts k 0 size t ++ []) ≡ [] → ⊥
cut_some zero size t some is = omega (arith, some)
cut_some (suc zero) size t some is = absurd (let e = is in cc)
cut_some (suc (suc k)) size t some is = absurd (let e = is in cc)

-- where nothing is planned no place is left
pub none_planned : (total : Option ℕ) (n least place : ℕ) (slices : List Slice) → 0 < n → parts_by total n least no_bytes ≡ [] → IsFirstMissing (get total (cover_end slices)) slices place → ⊥
none_planned None n least place slices some none missing = absurd (let e = none in cc)
none_planned (Some t) n least place slices some none missing = elim (cases_lt 0 t) [
  | inl more ↦ cut_some (many t n least) ((t - 0) / many t n least) t (share-some least n (64 - 1) 0 (t - 0)) (sym (plan_all t n least more some) ∙ none)
  | inr low ↦ let w = missing.within in omega (arith, w.1, low)
]
