-- Names that are read as those of leftover parts.
use Rattle.std.proofs.Common.{◌≡◌, ◌≢◌, ◌⊎◌, inl, inr, ℕ, ◌<◌, ◌≤◌, ◌^◌, Bool, true, false, ◌&&◌, IsTrue, nat_lt, List, Option, Some, None, refl, sym, ◌∙◌, ap, subst, arith}
use Rattle.std.proofs.lemmas.Bool.Decides.{nat_tests}
use Rattle.dm_types.specs.Name.{IsPart, part_name}
use Rattle.dm_types.specs.declared.item.Item.{Item}
use Rattle.dm_types.specs.declared.item.Phase.{Phase}
use Rattle.dm_types.specs.declared.item.Phase.TheVariants as phases
use Rattle.dm_item.specs.Fields.{is_running}
use Rattle.dm_item.specs.Listing.{Listing, item_in}
use Rattle.dm_item.specs.Row.{is_cancelled, is_complete}
use Rattle.dm_part.specs.Keeping.{Published}
use Rattle.dm_part.proofs.Names.{one_name}
use Rattle.dm_kept.specs.Files.{stage_of}
use Rattle.dm_kept.proofs.Frame.{IsLeft}
use Rattle.dm_answers.specs.Sweep.{IsLeftover, IsOutlived}

-- the name was read, and its item needs it no more
pub leftover_read : (v : Listing) (name : List ℕ) (id epoch : ℕ) → id < 2 ^ 32 → epoch < 2 ^ 32 → name ≡ part_name id epoch → id < v.next → IsOutlived epoch (item_in id v.items) → IsLeftover v name
leftover_read v name id epoch id_small epoch_small is given outlived = record { id = id; epoch = epoch; small = (id_small, epoch_small); is = is; given = given; outlived = outlived }

-- a leftover part is read as such
pub read_leftover : (v : Listing) (name : List ℕ) (id epoch : ℕ) → id < 2 ^ 32 → epoch < 2 ^ 32 → name ≡ part_name id epoch → IsLeftover v name → (id < v.next) × IsOutlived epoch (item_in id v.items)
read_leftover v name id epoch id_small epoch_small is left =
    let both = one_name left.id left.epoch id epoch left.small.0 left.small.1 id_small epoch_small (sym left.is ∙ is) in (
      subst (λ (n : ℕ). n < v.next) both.0 left.given,
      subst (λ (n : ℕ). IsOutlived epoch (item_in n v.items)) both.0 (subst (λ (n : ℕ). IsOutlived n (item_in left.id v.items)) both.1 left.outlived),
    )

-- what is no part's name is no leftover
pub no_leftover : (v : Listing) (name : List ℕ) → (IsPart name → ⊥) → IsLeftover v name → ⊥
no_leftover v name not left = not (record { id = left.id; epoch = left.epoch; small = left.small; is = left.is })

pub leftover_part : (v : Listing) (name : List ℕ) → IsLeftover v name → IsPart name
leftover_part v name left = record { id = left.id; epoch = left.epoch; small = left.small; is = left.is }

-- no file of a cancelled item is kept, and that of a complete one lies under its name

cancelled_stage : (phase : Phase) → is_cancelled phase ≡ true → stage_of phase ≡ None
cancelled_stage phases.Waiting is = absurd cc
cancelled_stage phases.Running is = absurd cc
cancelled_stage phases.Paused is = absurd cc
cancelled_stage phases.Finishing is = absurd cc
cancelled_stage phases.Complete is = absurd cc
cancelled_stage phases.Cancelled is = refl
cancelled_stage (phases.Interrupted reason) is = absurd cc

complete_stage : (phase : Phase) → is_complete phase ≡ true → stage_of phase ≡ Some Published
complete_stage phases.Waiting is = absurd cc
complete_stage phases.Running is = absurd cc
complete_stage phases.Paused is = absurd cc
complete_stage phases.Finishing is = absurd cc
complete_stage phases.Complete is = refl
complete_stage phases.Cancelled is = absurd cc
complete_stage (phases.Interrupted reason) is = absurd cc

over_idle : (phase : Phase) (described : Bool) → (is_cancelled phase ≡ true) ⊎ (is_complete phase ≡ true) → IsTrue (is_running phase && described) → ⊥
over_idle phases.Running described (inl is) runs = absurd cc
over_idle phases.Running described (inr is) runs = absurd cc
over_idle phases.Waiting described over runs = absurd cc
over_idle phases.Paused described over runs = absurd cc
over_idle phases.Finishing described over runs = absurd cc
over_idle phases.Complete described over runs = absurd cc
over_idle phases.Cancelled described over runs = absurd cc
over_idle (phases.Interrupted reason) described over runs = absurd cc

module _ (v : Listing) (name : List ℕ) (left : IsLeftover v name) (item : Item) (there : item_in left.id v.items ≡ Some item) where
  outlived : IsOutlived left.epoch (Some item)
  outlived = subst (IsOutlived left.epoch) there left.outlived

  -- the item needs the part no more
  pub is_left : (item.epoch.0 ≢ left.epoch) ⊎ ((stage_of item.phase ≡ None) ⊎ (stage_of item.phase ≡ Some Published))
  is_left = by outlived
    where
      by : IsOutlived left.epoch (Some item) → (item.epoch.0 ≢ left.epoch) ⊎ ((stage_of item.phase ≡ None) ⊎ (stage_of item.phase ≡ Some Published))
      by (inl cancelled) = inr (inl (cancelled_stage item.phase cancelled))
      by (inr (inl complete)) = inr (inr (complete_stage item.phase complete))
      by (inr (inr other)) = inl other

  -- and where it brings content, that comes into another part
  pub is_elsewhere : (described : Bool) → IsTrue (is_running item.phase && described) → item.epoch.0 ≢ left.epoch
  is_elsewhere described runs = by outlived
    where
      by : IsOutlived left.epoch (Some item) → item.epoch.0 ≢ left.epoch
      by (inl cancelled) = absurd (over_idle item.phase described (inl cancelled) runs)
      by (inr (inl complete)) = absurd (over_idle item.phase described (inr complete) runs)
      by (inr (inr other)) = other

-- The part is left over exactly where its id was given, and its item needs it no more.
module _ (v : Listing) (id epoch next : ℕ) (id_small : id < 2 ^ 32) (epoch_small : epoch < 2 ^ 32) (next_is : next ≡ v.next) where
  pub read_given : (outlived : Bool) → (IsTrue outlived → IsOutlived epoch (item_in id v.items)) × (IsOutlived epoch (item_in id v.items) → IsTrue outlived) → id < next
      → (IsTrue outlived → IsLeftover v (part_name id epoch)) × (IsLeftover v (part_name id epoch) → IsTrue outlived)
  read_given outlived test given = (
    λ holds. leftover_read v (part_name id epoch) id epoch id_small epoch_small refl (subst (λ (n : ℕ). id < n) next_is given) (test.0 holds),
    λ left. test.1 (read_leftover v (part_name id epoch) id epoch id_small epoch_small refl left).1,
  )

  pub not_given : next ≤ id → (IsTrue (nat_lt id next) → IsLeftover v (part_name id epoch)) × (IsLeftover v (part_name id epoch) → IsTrue (nat_lt id next))
  not_given above = (
    λ holds. absurd (not_less id next above holds),
    λ left. absurd (past id v.next (subst (λ (n : ℕ). n ≤ id) next_is above) (read_leftover v (part_name id epoch) id epoch id_small epoch_small refl left).0),
  ) where
    not_less : (a b : ℕ) → b ≤ a → IsTrue (nat_lt a b) → ⊥
    not_less a b over less = grind (arith, nat_tests)

    past : (a b : ℕ) → b ≤ a → a < b → ⊥
    past a b over below = omega arith
