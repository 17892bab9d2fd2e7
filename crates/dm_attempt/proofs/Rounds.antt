-- A round of which nothing was landed.
use Rattle.std.proofs.Common.{◌≡◌, ◌≢◌, ◌⊎◌, inl, inr, ◌<◌, ◌≤◌, ℕ, ◌+◌, ◌-◌, ◌^◌, suc, zero, false, Bool, List, [], ◌∷◌, ◌++◌, length, map, Option, Some, None, refl, sym, ◌∙◌, ap, subst, arith, add-one}
use Rattle.std.specs.Prelude.{IfSome}
use Rattle.dm_types.specs.declared.item.Item.{Item}
use Rattle.dm_types.specs.declared.slices.Slice.{Slice}
use Rattle.dm_disk_model.specs.Disk.{History as Clock}
use Rattle.dm_slice.specs.Cover.{IsCover, joined, marked, next_of, normal_of}
use Rattle.dm_slice.specs.Plan.{AreAtSlices, Run, all_of, groups_of, numbered, open_part, opened_by, opened_of, parts_by, plan_of}
use Rattle.dm_slice.specs.declared.plan.Part.{Part}
use Rattle.dm_slice.proofs.Opened.{cover-normal_of}
use Rattle.dm_slice.proofs.Placed.{plan_of-placed}
use Rattle.dm_slice.proofs.Rounds.{open-none, open-placed, open-some}
use Rattle.std.proofs.lemmas.Bool.{cases_lt}
use Rattle.dm_slice.specs.Words.{cover_end}
use Rattle.dm_item.proofs.Shorts.{sound_in}
use Rattle.dm_item.specs.Listing.{item_in}
use Rattle.dm_store.specs.Keeps.{IsDesk}
use Rattle.dm_store.specs.Lives.{IsLifeOf, LifeOf, life_in}
use Rattle.dm_store.specs.View.{View}
use Rattle.dm_store.specs.declared.life.Life.{Life}
use Rattle.dm_store.specs.declared.pass.Pass.{Pass}
use Rattle.dm_answers.specs.Running.{RunsWith}
use Rattle.dm_attempt.specs.Ends.{empty_share}
use Rattle.dm_attempt.specs.Shares.{Share}
use Rattle.dm_attempt.specs.Trace.{AreAtEnds, AreNumbered, filled}
use Rattle.dm_attempt.proofs.Filling.{at_ends}

pub empty_parts : (plan : List Part) → map (λ (share : Share). share.part) (map empty_share plan) ≡ plan
empty_parts [] = refl
empty_parts (part ∷ rest) = ap (λ (l : List Part). part ∷ l) (empty_parts rest)

pub empty_filled : (slices : List Slice) (plan : List Part) → filled slices (map empty_share plan) ≡ slices
empty_filled [] plan = refl
empty_filled (slice ∷ rest) [] = refl
empty_filled (slice ∷ rest) (part ∷ plan) =
    let same : slice.got + 0 ≡ slice.got = omega arith in
    ap (λ (n : ℕ). record slice { got = n } ∷ filled rest (map empty_share plan)) same ∙ ap (λ (l : List Slice). slice ∷ l) (empty_filled rest plan)

numbered_are : (at : ℕ) (runs : List Run) → AreNumbered at (numbered at runs)
numbered_are at [] = tt
numbered_are at (r ∷ rest) = (refl, subst (λ (n : ℕ). AreNumbered (suc at) (numbered n rest)) (sym (add-one at)) (numbered_are (suc at) rest))

-- the life of an attempt that runs
pub life_is : {D O : Type 0} (tells : Type 0) (clock : D → Clock) (desk : View D O) (pass : Pass) (P : Item → Life → Type 0) → IsDesk tells clock desk → desk.broken ≡ false → (runs : RunsWith desk pass.id pass.attempt P) → IsLifeOf runs.item runs.life
life_is tells clock desk pass P is whole runs =
    subst (λ (found : Option Life). LifeOf (Some runs.item) found) runs.lives (subst (λ (found : Option Item). LifeOf found (life_in pass.id.0 desk.lives)) runs.there (is.lives whole pass.id.0))

-- a known total isn't above the greatest
pub small_total : {D O : Type 0} (tells : Type 0) (clock : D → Clock) (desk : View D O) (pass : Pass) (P : Item → Life → Type 0) → IsDesk tells clock desk → (runs : RunsWith desk pass.id pass.attempt P) → IfSome runs.item.total (λ t. t ≤ 2 ^ 40)
small_total tells clock desk pass P is runs = (sound_in (is.founded.before ++ desk.list) desk.items pass.id.0 runs.item is.founded.items runs.there).covered.small

one_normal : (cover : List Slice) → length cover ≡ 1 → length (normal_of None cover) ≡ 1
one_normal [] one = one
one_normal (slice ∷ []) one = refl
one_normal (slice ∷ (next ∷ rest)) one = absurd (omega (arith, one))

open_numbered : (cover : List Slice) → length cover ≡ 1 → AreNumbered 0 (open_part cover)
open_numbered cover one = elim (cases_lt (cover_end cover) (2 ^ 40)) [
  | inl less ↦ subst (AreNumbered 0) (sym (open-some cover less)) (let zero_is : length cover - 1 ≡ 0 = omega (arith, one) in zero_is, tt)
  | inr full ↦ subst (AreNumbered 0) (sym (open-none cover full)) tt
]

-- the parts of a plan are numbered, and each begins where its slice ends
pub placed_by : (total : Option ℕ) (n least : ℕ) (cover : List Slice) → IsCover cover → IfSome total (λ t. t ≤ 2 ^ 40) → (total ≡ None → length cover ≡ 1) → 0 < least
    → AreNumbered 0 (parts_by total n least cover) × AreAtEnds (parts_by total n least cover) (opened_by total n least cover)
placed_by (Some total) n least cover is small one some =
    let numbers = numbered_are 0 (all_of (groups_of (normal_of (Some total) cover) total n least)) in (
      numbers,
      at_ends (opened_of (normal_of (Some total) cover) total n least) (plan_of (normal_of (Some total) cover) total n least) 0 (opened_of (normal_of (Some total) cover) total n least)
          (λ k. ap (λ (m : ℕ). next_of (opened_of (normal_of (Some total) cover) total n least) m) (let e : 0 + k ≡ k = omega arith in e)) numbers (plan_of-placed total n least cover is small some),
    )
placed_by None n least cover is small one some =
    let normal = normal_of None cover in
    let numbers = open_numbered normal (one_normal cover (one refl)) in
    (numbers, at_ends normal (open_part normal) 0 normal (λ k. ap (λ (m : ℕ). next_of normal m) (let e : 0 + k ≡ k = omega arith in e)) numbers (open-placed normal (cover-normal_of None cover is)))
