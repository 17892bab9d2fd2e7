-- What one settling leaves of the names of other items.
use Rattle.std.proofs.Common.{◌≡◌, ◌≢◌, ℕ, false, List, [], Option, Some, sym, ◌∙◌, ap, subst}
use Rattle.std.specs.Prelude.{IsSome, Contains}
use Rattle.dm_types.specs.Name.{IsPart, part_name}
use Rattle.dm_types.specs.declared.item.Item.{Item}
use Rattle.dm_types.specs.declared.item.Phase.{Phase}
use Rattle.dm_types.specs.declared.item.Phase.TheVariants as phases
use Rattle.dm_disk_model.specs.declared.place.Place.{Place}
use Rattle.dm_disk_model.specs.Folder.{Folder, Names, names_of}
use Rattle.dm_item.specs.History.{get}
use Rattle.dm_item.specs.Listing.{item_in}
use Rattle.dm_item.specs.Row.{is_cancelled}
use Rattle.dm_part.proofs.Frame.{renamed_beside}
use Rattle.dm_part.proofs.Names.{one_name}
use Rattle.dm_kept.specs.Files.{EachItem, IsSmall}
use Rattle.dm_kept.proofs.Lists.{id_in}
use Rattle.dm_kept.proofs.Ranges.{NamesDiffer}
use Rattle.dm_store.proofs.Found.{There}
use Rattle.dm_store.proofs.Published.{rename_leaves}
use Rattle.dm_settle.specs.Moving.{IsListedFor, IsMovingOf}
use Rattle.dm_settle.specs.Settled.{LeavesNames}
use Rattle.dm_settle.specs.declared.judging.Judged.{Judged}
use Rattle.dm_settle.specs.declared.judging.Judged.TheVariants as judgements
use Rattle.dm_settle.specs.declared.moving.Moving.{Moving}

-- names other than these two stay
pub others_stay : (moving : Moving) (judged : Judged) (old new : Folder) → LeavesNames moving judged old new → (name : List ℕ) → name ≢ moving.part.name → name ≢ moving.target.name → names_of new name ≡ names_of old name
others_stay moving (judgements.Broken reason) old new leaves name part target = ap (λ (n : Names). n name) leaves
others_stay moving (judgements.Named sum) old new leaves name part target = ap (λ (n : Names). n name) leaves
others_stay moving (judgements.InPart sum) old new leaves name part target =
    ap (λ (n : Names). n name) leaves ∙ renamed_beside (names_of old) moving.part.name moving.target.name name part target

-- where a part is given its name it stood
abbrev pub Stood : Folder → Moving → Judged → Type 0
Stood old moving (judgements.Broken reason) = Unit {0}
Stood old moving (judgements.Named sum) = Unit {0}
Stood old moving (judgements.InPart sum) = IsSome (names_of old moving.part.name)

-- what stands under another name than the part's stands still, where the part stood
pub stands_still : (moving : Moving) (judged : Judged) (old new : Folder) → LeavesNames moving judged old new → (name : List ℕ) → name ≢ moving.part.name → Stood old moving judged → IsSome (names_of old name) → IsSome (names_of new name)
stands_still moving (judgements.Broken reason) old new leaves name part stood some = subst (λ (n : Names). IsSome (n name)) (sym leaves) some
stands_still moving (judgements.Named sum) old new leaves name part stood some = subst (λ (n : Names). IsSome (n name)) (sym leaves) some
stands_still moving (judgements.InPart sum) old new leaves name part stood some =
    subst (λ (n : Names). IsSome (n name)) (sym leaves) (rename_leaves (names_of old) moving.part.name moving.target.name name part stood some)

-- no name of an item that isn't cancelled is that of another
uncancelled : (phase : Phase) → phase ≡ phases.Finishing → is_cancelled phase ≡ false
uncancelled phase is = ap is_cancelled is

module _ (items : List Item) (small : EachItem IsSmall items) (one : Item) (k : ℕ) (there : item_in k items ≡ Some one) (moving : Moving) (is : IsMovingOf one moving) where
  part_is : moving.part.name ≡ part_name one.id.0 one.epoch.0
  part_is = ap (λ (p : Place). p.name) is.part

  target_is : moving.target.name ≡ get one.name []
  target_is = ap (λ (p : Place). p.name) is.target

  -- another item has another part
  pub parts_apart : (id : ℕ) (item : Item) → id ≢ k → item_in id items ≡ Some item → part_name item.id.0 item.epoch.0 ≢ moving.part.name
  parts_apart id item apart at same =
      let mine = small k one there in
      let theirs = small id item at in
      apart (sym (id_in id item items at) ∙ (one_name item.id.0 item.epoch.0 one.id.0 one.epoch.0 theirs.id theirs.epoch mine.id mine.epoch (same ∙ part_is)).0 ∙ id_in k one items there)

  -- Of another item that is being finished what was listed is what stands, as before.
  pub listed_still : (differ : NamesDiffer items) (finishing : one.phase ≡ phases.Finishing) (named : There one.name) (free : IsPart named.it → ⊥) (judged : Judged) (old new : Folder) (names : List (List ℕ)) → LeavesNames moving judged old new
      → (id : ℕ) (item : Item) → id ≢ k → item_in id items ≡ Some item → item.phase ≡ phases.Finishing → (theirs : There item.name) → (IsPart theirs.it → ⊥) → IsListedFor old names item → IsListedFor new names item
  listed_still differ finishing named free judged old new names leaves id item apart at finishes theirs no_part listed = record {
    part = both (part_name item.id.0 item.epoch.0) (others_stay moving judged old new leaves (part_name item.id.0 item.epoch.0) (parts_apart id item apart at) part_target) listed.part;
    name = both (get item.name []) (others_stay moving judged old new leaves (get item.name []) name_part name_target) listed.name;
  } where
    got : get one.name [] ≡ named.it
    got = ap (λ (n : Option (List ℕ)). get n []) named.is

    their : get item.name [] ≡ theirs.it
    their = ap (λ (n : Option (List ℕ)). get n []) theirs.is

    part_target : part_name item.id.0 item.epoch.0 ≢ moving.target.name
    part_target same =
        let s = small id item at in
        free (record { id = item.id.0; epoch = item.epoch.0; small = (s.id, s.epoch); is = sym (same ∙ target_is ∙ got) })

    name_part : get item.name [] ≢ moving.part.name
    name_part same =
        let s = small k one there in
        no_part (record { id = one.id.0; epoch = one.epoch.0; small = (s.id, s.epoch); is = sym their ∙ same ∙ part_is })

    name_target : get item.name [] ≢ moving.target.name
    name_target same =
        differ id k item one named.it apart at there (uncancelled item.phase finishes) (uncancelled one.phase finishing) (theirs.is ∙ ap Some (sym their ∙ same ∙ target_is ∙ got)) named.is

    both : (name : List ℕ) → names_of new name ≡ names_of old name → (Contains names name → IsSome (names_of old name)) × (IsSome (names_of old name) → Contains names name)
        → (Contains names name → IsSome (names_of new name)) × (IsSome (names_of new name) → Contains names name)
    both name same was = (
      λ listed_here. subst (λ (n : Option ℕ). IsSome n) (sym same) (was.0 listed_here),
      λ some. was.1 (subst (λ (n : Option ℕ). IsSome n) same some),
    )
