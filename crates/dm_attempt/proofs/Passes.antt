-- The passes of a round: how many they are, and that each part of them has places.
use Rattle.std.proofs.Common.{◌≡◌, ◌<◌, ◌≤◌, ◌/◌, ◌-◌, ◌+◌, ◌^◌, ℕ, zero, suc, List, [], ◌∷◌, ◌++◌, length, map, get_or, Option, Some, None, Ok, inl, inr, refl, sym, ◌∙◌, ap, subst, arith, length-append}
use Rattle.std.proofs.lemmas.Bool.{cases_lt}
use Rattle.std.proofs.lemmas.List.{length-map}
use Rattle.dm_types.specs.declared.item.Attempt.{Attempt}
use Rattle.dm_types.specs.declared.item.ItemId.{ItemId}
use Rattle.dm_types.specs.declared.slices.Slice.{Slice}
use Rattle.dm_disk_model.specs.Disk.{History as Clock}
use Rattle.dm_slice.specs.Cover.{IsCover, IsWithinTotal, normal_of}
use Rattle.dm_slice.specs.Plan.{AreDisjoint, Run, all_of, cut_in, groups, groups_of, open_part, parts_by, share}
use Rattle.dm_slice.specs.Words.{cover_end}
use Rattle.dm_slice.specs.declared.plan.Part.{Part}
use Rattle.dm_slice.proofs.Filled.{plan_of-fills}
use Rattle.dm_slice.proofs.Plans.{groups-none, groups-some, length-cuts, length-numbered}
use Rattle.dm_slice.proofs.Rounds.{open-fills, open-none, open-some}
use Rattle.dm_store.specs.Keeps.{IsDesk}
use Rattle.dm_store.specs.View.{View}
use Rattle.dm_store.specs.declared.pass.Pass.{Pass}
use Rattle.dm_answers.specs.Plan.{IsRound, PlanAnswers, slice_pass}
use Rattle.dm_answers.specs.declared.answer.SlicePass.{SlicePass}
use Rattle.dm_attempt.proofs.Rounds.{life_is}

groups_few : (least left room : ℕ) (hs : List Run) → length (all_of (groups least left room hs)) ≤ left
groups_few least zero room hs = subst (λ (g : List (List Run)). length (all_of g) ≤ 0) (sym (groups-none least room hs)) (omega arith)
groups_few least (suc left) room [] = omega arith
groups_few least (suc left) room (hole ∷ rest) =
    let k = share least (suc left) room (length rest) (hole.to - hole.from) in
    let few : k ≤ suc left = omega arith in
    let is = groups-some least (suc left) room k hole rest (omega arith) refl in
    let tail = groups least (suc left - k) (room + 1 - k) rest in
    let more : length (all_of tail) ≤ suc left - k = groups_few least (suc left - k) (room + 1 - k) rest in
    let here : length (cut_in k hole) ≡ k = length-cuts k hole.from ((hole.to - hole.from) / k) hole.to in
    let sum : length (cut_in k hole ++ all_of tail) ≡ length (cut_in k hole) + length (all_of tail) = length-append (cut_in k hole) (all_of tail) in
    subst (λ (g : List (List Run)). length (all_of g) ≤ suc left) (sym is) (omega (arith, few, more, here, sum))

parts_few : (total : Option ℕ) (n least : ℕ) (cover : List Slice) → 1 ≤ n → length (parts_by total n least cover) ≤ n
parts_few (Some total) n least cover some =
    let runs = all_of (groups_of (normal_of (Some total) cover) total n least) in
    let same = length-numbered 0 runs in
    let few : length runs ≤ n = groups_few least n _ _ in
    omega (arith, same, few)
parts_few None n least cover some = elim (cases_lt (cover_end (normal_of None cover)) (2 ^ 40)) [
  | inl less ↦ subst (λ (p : List Part). length p ≤ n) (sym (open-some (normal_of None cover) less)) (omega (arith, some))
  | inr full ↦ subst (λ (p : List Part). length p ≤ n) (sym (open-none (normal_of None cover) full)) (omega (arith, some))
]

-- the parts of a plan are disjoint and rise
record Rises (parts : List Part) : Type 0 where
  bound : ℕ
  disjoint : AreDisjoint 0 bound parts

parts_rise : (total : Option ℕ) (n least : ℕ) (cover : List Slice) → IsCover cover → IsWithinTotal total cover → 0 < least → Rises (parts_by total n least cover)
parts_rise (Some total) n least cover is within some = record { bound = total; disjoint = (plan_of-fills total n least cover is within some).disjoint }
parts_rise None n least cover is within some = record { bound = 2 ^ 40; disjoint = (open-fills cover is).disjoint }

each_has : (id : ItemId) (attempt : Attempt) (round from bound : ℕ) (parts : List Part) → AreDisjoint from bound parts → (k : ℕ) (d : SlicePass) → k < length (map (slice_pass id attempt round) parts)
    → (get_or (map (slice_pass id attempt round) parts) k d).first < (get_or (map (slice_pass id attempt round) parts) k d).end
each_has id attempt round from bound [] is k d short = absurd (omega (arith, short))
each_has id attempt round from bound (part ∷ rest) is zero d short = is.1
each_has id attempt round from bound (part ∷ rest) is (suc k) d short = each_has id attempt round part.end bound rest is.3 k d (omega (arith, short))

module _ {D O : Type 0} (tells : Type 0) (clock : D → Clock) (old new : View D O) (pass : Pass) (n : ℕ) (passes : List SlicePass) (answer : PlanAnswers old new pass n (Ok passes)) where
  pub few_passes : 1 ≤ n → length passes ≤ n
  few_passes some =
      let parts = parts_by answer.item.total n old.limits.min_slice answer.life.cover in
      let same = length-map parts (slice_pass pass.id pass.attempt (answer.life.round + 1)) in
      let few = parts_few answer.item.total n old.limits.min_slice answer.life.cover some in
      subst (λ (l : List SlicePass). length l ≤ n) (sym answer.is.passes_are) (omega (arith, same, few))

  pub passes_have : IsDesk tells clock old → (k : ℕ) (d : SlicePass) → k < length passes → (get_or passes k d).first < (get_or passes k d).end
  passes_have desk =
      let life = life_is tells clock old pass (IsRound old new pass n passes) desk answer.is.planned.whole answer in
      let rise = parts_rise answer.item.total n old.limits.min_slice answer.life.cover life.cover life.within desk.limits_are.min_slice.0 in
      subst (λ (l : List SlicePass). (k : ℕ) (d : SlicePass) → k < length l → (get_or l k d).first < (get_or l k d).end) (sym answer.is.passes_are)
      (each_has pass.id pass.attempt (answer.life.round + 1) 0 rise.bound (parts_by answer.item.total n old.limits.min_slice answer.life.cover) rise.disjoint)
