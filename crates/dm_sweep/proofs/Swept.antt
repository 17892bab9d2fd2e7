-- What is kept where a part that none needs is removed.
use Rattle.std.proofs.Common.{◌≡◌, ◌≢◌, ◌⊎◌, inl, inr, ℕ, ◌<◌, ◌^◌, Bool, true, false, IsTrue, List, [], Option, Some, None, Result, Ok, Err, refl, sym, ◌∙◌, ap, subst}
use Rattle.std.specs.Prelude.{IsSome, OnOk, is_some}
use Rattle.dm_types.specs.Name.{IsPart, part_name}
use Rattle.dm_types.specs.declared.item.Item.{Item}
use Rattle.dm_disk_model.specs.declared.place.DiskFault.{DiskFault}
use Rattle.dm_disk_model.specs.Beside.{Besides}
use Rattle.dm_disk_model.specs.Disk.{DiskState, History as Clock, IsSoundDisk, Next, RemoveStep, StandsNot, now}
use Rattle.dm_disk_model.specs.Folder.{Changes, Folder, Names, Removed, contents_of, names_of}
use Rattle.dm_disk_model.specs.Moments.{Throughout}
use Rattle.dm_disk_model.proofs.Beside.{besides_remove}
use Rattle.dm_disk_model.proofs.Firmness.{quiet_remove}
use Rattle.dm_disk_model.proofs.PendingNames.{names_more, with_name_other, with_name_same}
use Rattle.dm_disk_model.proofs.Reaching.{over_call}
use Rattle.dm_disk_model.proofs.Reading.{removed_others}
use Rattle.dm_item.specs.Lawful.{History, IsOf, items_of}
use Rattle.dm_item.specs.Listing.{Listing, item_in}
use Rattle.dm_part.specs.Laws.{files_place}
use Rattle.dm_part.proofs.Names.{one_name}
use Rattle.dm_kept.specs.Files.{Covers, EachItem, EndsLive, IsSmall, PartsStand, Says, brings}
use Rattle.dm_kept.specs.Kept.{Kept, Rests, Sits}
use Rattle.dm_kept.specs.Recovery.{Through}
use Rattle.dm_kept.proofs.Entered.{items_are}
use Rattle.dm_kept.proofs.Flags.{if_map}
use Rattle.dm_kept.proofs.Frame.{IsLeft, facts_swept}
use Rattle.dm_kept.proofs.Lists.{id_in}
use Rattle.dm_kept.proofs.Ranges.{small_items}
use Rattle.dm_kept.proofs.Resting as resting
use Rattle.dm_store.specs.Keeps.{HoldsOf, IsDesk, Keeps, RestsBy}
use Rattle.dm_store.specs.Lives.{covers_of}
use Rattle.dm_store.specs.View.{View}
use Rattle.dm_store.proofs.Keeping.{at_rest, step_desk, step_keeps, whole_loses}
use Rattle.dm_answers.specs.Sweep.{IsLeftover}
use Rattle.dm_sweep.proofs.Leftovers.{is_elsewhere, is_left}

-- What a removal leaves of the folders.
module _ (name : List ℕ) where
  removed_state : (result : Result (Unit {0}) DiskFault) (old new : DiskState) → RemoveStep (files_place name) result old new → new.state ≡ old.state
  removed_state (Ok done) old new taken = taken.1
  removed_state (Err fault) old new (inl taken) = taken.1
  removed_state (Err fault) old new (inr same) = ap (λ (d : DiskState). d.state) same

  names_removed : (old new : Folder) → Changes (Removed name) old new → (other : List ℕ) → other ≢ name → names_of new other ≡ names_of old other
  names_removed old new taken other apart =
      ap (λ (names : Names). names other) (names_more old new (Removed name) taken.synced taken.changes) ∙ with_name_other (names_of old) name None other apart

  -- no other name changes
  pub names_beside : (result : Result (Unit {0}) DiskFault) (old new : DiskState) → RemoveStep (files_place name) result old new → (other : List ℕ) → other ≢ name → names_of new.files other ≡ names_of old.files other
  names_beside (Ok done) old new taken other apart = names_removed old.files new.files taken.0 other apart
  names_beside (Err fault) old new (inl taken) other apart = names_removed old.files new.files taken.0 other apart
  names_beside (Err fault) old new (inr same) other apart = ap (λ (d : DiskState). names_of d.files other) same

  reads_beside : (result : Result (Unit {0}) DiskFault) (old new : DiskState) → RemoveStep (files_place name) result old new → (other : List ℕ) → other ≢ name → contents_of new.files other ≡ contents_of old.files other
  reads_beside (Ok done) old new taken other apart = removed_others name old.files new.files taken.0 other apart
  reads_beside (Err fault) old new (inl taken) other apart = removed_others name old.files new.files taken.0 other apart
  reads_beside (Err fault) old new (inr same) other apart = ap (λ (d : DiskState). contents_of d.files other) same

  -- and the removed name has no file
  pub removed_gone : (result : Result (Unit {0}) DiskFault) (old new : DiskState) → RemoveStep (files_place name) result old new → OnOk result (StandsNot new (files_place name))
  removed_gone (Ok done) old new taken =
      ap (λ (names : Names). names name) (names_more old.files new.files (Removed name) taken.0.synced taken.0.changes) ∙ with_name_same (names_of old.files) name None
  removed_gone (Err fault) old new taken = tt

module _ (good : Bool) (says : Says) (history : History) (gate : ℕ) (covers : Covers) (old new : DiskState) (result : Result (Unit {0}) DiskFault) (id epoch : ℕ) (small : (id < 2 ^ 32) × (epoch < 2 ^ 32))
    (left : IsLeft (items_of history) id epoch) (elsewhere : (item : Item) → item_in id (items_of history) ≡ Some item → IsTrue (brings item) → item.epoch.0 ≢ epoch)
    (taken : RemoveStep (files_place (part_name id epoch)) result old new) (sits : Sits good says history gate covers old) where
  each_small : EachItem IsSmall (items_of history)
  each_small = small_items history sits.rests.taken.lawful sits.rests.entries

  -- an item that brings content has another part
  other_part : (k : ℕ) (item : Item) → item_in k (items_of history) ≡ Some item → IsTrue (brings item) → part_name item.id.0 item.epoch.0 ≢ part_name id epoch
  other_part k item is brought same =
      let theirs = each_small k item is in
      let both = one_name item.id.0 item.epoch.0 id epoch theirs.id theirs.epoch small.0 small.1 same in
      let at : k ≡ id = sym (id_in k item (items_of history) is) ∙ both.0 in
      elsewhere item (subst (λ (n : ℕ). item_in n (items_of history) ≡ Some item) at is) brought both.1

  pub swept_sits : Sits good says history gate covers new
  swept_sits = record {
    rests = resting.rests_with good says history gate covers covers old new (removed_state (part_name id epoch) result old new taken)
        (facts_swept says covers (items_of history) old new result id epoch each_small small.0 small.1 left taken) sits.rests;
    quiet = quiet_remove IsPart result old new sits.quiet (files_place (part_name id epoch)) (record { id = id; epoch = epoch; small = small; is = refl }) taken;
    stand = λ k item is brought.
        subst (λ (n : Option ℕ). IsSome n) (sym (names_beside (part_name id epoch) result old new taken (part_name item.id.0 item.epoch.0) (other_part k item is brought))) (sits.stand k item is brought);
    ends = if_map good (EndsLive covers (items_of history) old.files) (EndsLive covers (items_of history) new.files)
        (λ ends k item is brought none bytes reads.
        ends k item is brought none bytes (sym (reads_beside (part_name id epoch) result old new taken (part_name item.id.0 item.epoch.0) (other_part k item is brought)) ∙ reads)) sits.ends;
  }

-- A desk of which such a part is removed.
module _ {D O : Type 0} (tells : Type 0) (clock : D → Clock) (says : O → Says) (desk : View D O) (disk : D) (is : IsDesk tells clock desk) (whole : desk.broken ≡ false) (name : List ℕ) (left : IsLeftover desk.items name)
    (result : Result (Unit {0}) DiskFault) (run : tells → Next (clock desk.disk) (clock disk) (RemoveStep (files_place name) result)) where
  goes : tells → (good : Bool) (said : Says) (before : History) → HoldsOf good said clock desk before
      → Throughout (clock desk.disk) (clock disk) (Kept good said (Through before [])) × HoldsOf good said clock (record desk { disk = disk }) before
  goes told good said before holds =
      let covers : Covers = covers_of desk.lives in
      let sits = at_rest good said clock desk before whole holds in
      let there : (item : Item) → item_in left.id (items_of before) ≡ Some item → item_in left.id desk.items.items ≡ Some item =
      λ item at. subst (λ (list : List Item). item_in left.id list ≡ Some item) (sym (items_are before desk.items holds.items)) at in
      let after =
      swept_sits good said before desk.gate covers (now (clock desk.disk)) (now (clock disk)) result left.id left.epoch left.small (λ item at. is_left desk.items name left item (there item at))
      (λ item at brought. is_elsewhere desk.items name left item (there item at) (is_some item.key) brought)
      (subst (λ (n : List ℕ). RemoveStep (files_place n) result (now (clock desk.disk)) (now (clock disk))) left.is (run told).stepped) sits in (
        over_call (clock desk.disk) (clock disk) (Kept good said (Through before [])) (RemoveStep (files_place name) result) (run told)
            (resting.sits_kept good said before [] desk.gate covers (now (clock desk.disk)) sits)
            (resting.sits_kept good said before [] desk.gate covers (now (clock disk)) after),
        record {
          items = holds.items;
          rests = subst (λ (b : Bool). RestsBy b good said before desk.failed desk.gate covers (now (clock disk))) (sym whole) after;
        },
      )

  pub swept_keeps : Keeps tells clock says desk (record desk { disk = disk })
  swept_keeps = step_keeps tells clock says desk (record desk { disk = disk }) refl (is.failed whole) goes (whole_loses tells clock desk (record desk { disk = disk }) whole)

  pub swept_desk : IsDesk tells clock (record desk { disk = disk })
  swept_desk = step_desk tells clock says desk (record desk { disk = disk }) refl (is.failed whole) goes is refl refl refl (λ unbroken. is.lives whole)

  pub swept_beside : (tells → IsSoundDisk (now (clock desk.disk))) → tells → Besides (IsLeftover desk.items) (clock desk.disk) (clock disk)
  swept_beside sound told = besides_remove (IsLeftover desk.items) result (clock desk.disk) (clock disk) (sound told) (files_place name) left (run told)
