-- The plan of an open end, and the plans of a round.
use Rattle.std.proofs.Common.{◌≡◌, ℕ, ◌-◌, ◌^◌, ◌<◌, ◌≤◌, List, [], ◌∷◌, length, Bool, Some, None, inl, inr, ap, sym, subst, ◌∙◌, arith}
use Rattle.std.proofs.lemmas.Bool.{cases_lt}
use Rattle.std.proofs.lemmas.Bool.Decides.{nat_tests}
use Rattle.dm_types.specs.declared.slices.Slice.{Slice}
use Rattle.dm_slice.specs.Words.{HasByte, IsFull, cover_end}
use Rattle.dm_slice.specs.Cover.{IsCover, SamePlaces, marked, normal_of}
use Rattle.dm_slice.specs.Plan.{AreAtSlices, FillsHoles, InParts, NoByteBetween, Run, all_of, groups, numbered, open_part, parts_by, run}
use Rattle.dm_slice.proofs.Plans.{groups-some, holes-there}
use Rattle.dm_slice.proofs.Ends.{HasLast, byte-below, last-normal, last_limit, last_next}
use Rattle.dm_slice.proofs.Joins.{normal_of-meaning}

pub open-some : (cover : List Slice) → cover_end cover < 2 ^ 40 → open_part cover ≡ record { index = length cover - 1; first = cover_end cover; end = 2 ^ 40 } ∷ []
open-some cover less = grind (arith, nat_tests)

pub open-none : (cover : List Slice) → 2 ^ 40 ≤ cover_end cover → open_part cover ≡ []
open-none cover full = grind (arith, nat_tests)

-- the part continues the last slice
pub open-placed : (cover : List Slice) → IsCover cover → AreAtSlices cover (open_part cover)
open-placed cover is =
    elim (cases_lt (cover_end cover) (2 ^ 40)) [
      | inl less ↦ rw (open-some cover less) (last_next cover is, last_limit cover is, tt)
      | inr full ↦ rw (open-none cover full) tt
    ]

-- one part of an empty cover is all of the content
pub one_part : (total least : ℕ) (finished : Bool) → 0 < total → parts_by (Some total) 1 least (record { first = 0; got = 0; finished = finished } ∷ []) ≡ record { index = 0; first = 0; end = total } ∷ []
one_part total least finished some =
    let slice = marked (Some total) (record { first = 0; got = 0; finished = finished }) in
    ap (λ (x : List (List Run)). numbered 0 (all_of x))
    (ap (groups least 1 63) (holes-there total slice [] some) ∙ groups-some least 1 63 1 (run 0 total) [] (omega arith) (omega arith))

-- one slice from 0 to the total is all of the content
pub one_full : (total : ℕ) (finished : Bool) → IsFull total (record { first = 0; got = total; finished = finished } ∷ [])
one_full total finished place below = inl (omega arith, omega arith)

-- The part of an open end is the one hole behind the cover, whole.
module _ (cover : List Slice) (is : IsCover cover) where
  same : SamePlaces (normal_of None cover) cover
  same = (normal_of-meaning None cover is).places

  below : (place : ℕ) → HasByte cover place → place < cover_end (normal_of None cover)
  below place has = byte-below (normal_of None cover) place ((same place).1 has)

  last : (place further : ℕ) → cover_end (normal_of None cover) ≤ place → NoByteBetween cover further place → HasLast (normal_of None cover) → further < cover_end (normal_of None cover) → ⊥
  last place further past none (inl empty) low = omega arith
  last place further past none (inr has) low = none (cover_end (normal_of None cover) - 1) (omega arith) (omega arith) ((same (cover_end (normal_of None cover) - 1)).0 has)

  in-open : (place : ℕ) → InParts (record { index = length (normal_of None cover) - 1; first = cover_end (normal_of None cover); end = 2 ^ 40 } ∷ []) place → (cover_end (normal_of None cover) ≤ place) × (place < 2 ^ 40)
  in-open place (inl here) = here
  in-open place (inr none) = absurd none

  fills-some : cover_end (normal_of None cover) < 2 ^ 40 → FillsHoles (2 ^ 40) cover (record { index = length (normal_of None cover) - 1; first = cover_end (normal_of None cover); end = 2 ^ 40 } ∷ [])
  fills-some less =
      record {
        disjoint = (omega arith, less, omega arith, tt);
        missing = λ place here has. let past = in-open place here in let low = below place has in omega arith;
        upward = λ place further here later less_further none. let past = in-open place here in inl (omega arith, less_further);
        downward = λ place further here before none.
            let past = in-open place here in
            elim (cases_lt further (cover_end (normal_of None cover))) [
              | inl low ↦ absurd (last place further past.0 none (last-normal None (normal_of None cover) (normal_of-meaning None cover is).normal) low)
              | inr behind ↦ inl (behind, omega arith)
            ];
      }

  pub open-fills : FillsHoles (2 ^ 40) cover (open_part (normal_of None cover))
  open-fills =
      elim (cases_lt (cover_end (normal_of None cover)) (2 ^ 40)) [
        | inl less ↦ subst (FillsHoles (2 ^ 40) cover) (sym (open-some (normal_of None cover) less)) (fills-some less)
        | inr full ↦ subst (FillsHoles (2 ^ 40) cover) (sym (open-none (normal_of None cover) full)) (record {
          disjoint = tt;
          missing = λ place here. absurd here;
          upward = λ place further here. absurd here;
          downward = λ place further here. absurd here;
        })
      ]
