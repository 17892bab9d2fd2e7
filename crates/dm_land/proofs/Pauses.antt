-- An item that is paused, behind the saving of what was landed of it.
use Rattle.std.proofs.Common.{◌≡◌, ◌≢◌, ◌⊎◌, inl, inr, ℕ, ◌+◌, ◌<◌, ◌≤◌, Bool, true, false, IsTrue, List, [], ◌∷◌, ◌++◌, length, Option, Some, None, Result, Ok, Err, refl, sym, ◌∙◌, ap, subst, arith}
use Rattle.std.specs.Prelude.{IfSome, IsSomeAnd}
use Rattle.std.specs.Option.{option_map}
use Rattle.dm_types.specs.declared.entry.Entry.{Entry}
use Rattle.dm_types.specs.declared.entry.Entry.TheVariants as entries
use Rattle.dm_types.specs.declared.item.Item.{Item}
use Rattle.dm_types.specs.declared.item.ItemId.{ItemId}
use Rattle.dm_types.specs.declared.kinds.DiskKind.{DiskKind}
use Rattle.dm_policy.specs.Cause.{reason_of_file}
use Rattle.dm_slice.specs.Cover.{normal_of}
use Rattle.dm_item.specs.Lawful.{History}
use Rattle.dm_item.specs.Listing.{Admits, Listing, Row, applied, changed_at, item_in}
use Rattle.dm_item.specs.Row.{allows, changed}
use Rattle.dm_kept.proofs.Lists.{changed_here, some_is}
use Rattle.dm_store.specs.declared.life.Life.{Life}
use Rattle.dm_store.specs.declared.saving.SaveFault.{SaveFault}
use Rattle.dm_store.specs.declared.saving.SaveFault.TheVariants.{File, Journal}
use Rattle.dm_store.specs.Becomes.{Becomes, Fell, Recorded}
use Rattle.dm_store.specs.Lives.{life_in}
use Rattle.dm_store.specs.Saving.{FellStopped, IsSaving, SaveMakes}
use Rattle.dm_store.specs.View.{View}
use Rattle.dm_store.proofs.Composing.{becomes_then, fell_then, fell_one, fell_before}
use Rattle.dm_answers.specs.declared.fault.DeskFault.{DeskFault}
use Rattle.dm_answers.specs.declared.fault.DeskFault.TheVariants as faults
use Rattle.dm_answers.specs.Pause.{HasUnsavedLife, MayPause, PauseAnswers, pausing, saving_of}
use Rattle.dm_answers.specs.Running.{ItemWith, saving}
use Rattle.dm_land.specs.declared.saving.Prepared.{Prepared}
use Rattle.dm_land.specs.Preparing.{IsPrepared, PreparedOf, SaveIfMakes, fault_of_save, saved_by}
use Rattle.dm_land.proofs.Landed.{is_some_and}
use Rattle.dm_land.proofs.Saves.{fell_stopped, same_id, saving_none, saving_one}

-- What is saved of the item is what was made ready.
module _ {D O : Type 0} (desk : View D O) (id : ItemId) (item : Item) (there : item_in id.0 desk.items.items ≡ Some item) where
  none_saved : (life : Option Life) → IfSome life (λ l. l.unsaved ≡ 0) → saving_of item life ≡ []
  none_saved None zero_is = refl
  none_saved (Some life) zero_is = saving_none item life zero_is

  one_saved : (prepared : Prepared) → IsPrepared desk id prepared → saving_of item (life_in id.0 desk.lives) ≡ prepared.entry ∷ []
  one_saved prepared is =
      let same : is.saving.item ≡ item = some_is is.saving.item item (sym is.saving.there ∙ there) in
      ap (saving_of item) is.saving.lives ∙ subst (λ (i : Item). saving i is.saving.life ≡ prepared.entry ∷ []) same (saving_one desk id prepared.entry is.saving is.unsaved)

  pub saved_is : (prepared : Option Prepared) → PreparedOf desk id prepared → saving_of item (life_in id.0 desk.lives) ≡ saved_by prepared
  saved_is None is = none_saved (life_in id.0 desk.lives) is
  saved_is (Some prepared) is = one_saved prepared is

  pub pausing_is : (prepared : Option Prepared) → PreparedOf desk id prepared → saved_by prepared ++ entries.Paused id ∷ [] ≡ pausing item (life_in id.0 desk.lives)
  pausing_is prepared is =
      ap (λ (h : History). h ++ entries.Paused id ∷ []) (sym (saved_is prepared is)) ∙ ap (λ (n : ItemId). saving_of item (life_in id.0 desk.lives) ++ entries.Paused n ∷ []) (sym (same_id id item desk.items.items there))

-- The list takes the entry, also behind the saving.

pub paused_admits : (id : ItemId) (v : Listing) (item : Item) → item_in id.0 v.items ≡ Some item → IsTrue (allows (entries.Paused item.id) item.phase) → Admits v (entries.Paused id)
paused_admits id v item there may = record { room = tt; meets = subst (λ (found : Option Item). Row (entries.Paused id) v.items found) (sym there) (may, tt) }

saved_item : {D O : Type 0} (desk mid : View D O) (id : ItemId) (prepared : Option Prepared) → PreparedOf desk id prepared → Recorded desk mid (saved_by prepared) → (item : Item) → item_in id.0 desk.items.items ≡ Some item → MayPause item → Admits mid.items (entries.Paused id)
saved_item desk mid id None is recorded item there may = subst (λ (v : Listing). Admits v (entries.Paused id)) (sym recorded.items_are) (paused_admits id desk.items item there may)
saved_item desk mid id (Some prepared) is recorded item there may =
    let entry = entries.Progress id (normal_of is.saving.item.total is.saving.life.cover) in
    let v : Listing = applied entry desk.items in
    let found : item_in id.0 v.items ≡ Some (changed entry item) = changed_here entry id.0 (λ x. refl) desk.items.items ∙ ap (option_map (changed entry)) there in
    subst (λ (l : Listing). Admits l (entries.Paused id)) (sym recorded.items_are)
    (subst (λ (e : Entry). Admits (applied e desk.items) (entries.Paused id)) (sym is.saving.is) (paused_admits id v (changed entry item) found may))

pub admits_behind : {D O : Type 0} (desk mid : View D O) (id : ItemId) (prepared : Option Prepared) → PreparedOf desk id prepared → Recorded desk mid (saved_by prepared) → ItemWith desk id MayPause → Admits mid.items (entries.Paused id)
admits_behind desk mid id prepared is recorded may = saved_item desk mid id prepared is recorded may.item may.there may.is

-- What is answered.
module _ {D O : Type 0} (counts : D → DiskKind → ℕ) (desk : View D O) (id : ItemId) (prepared : Option Prepared) (is : PreparedOf desk id prepared) (may : ItemWith desk id MayPause) where
  pub paused_ok : (mid new : View D O) → Recorded desk mid (saved_by prepared) → Recorded mid new (entries.Paused id ∷ []) → PauseAnswers counts desk new id (Ok tt)
  paused_ok mid new one two = inr (record {
    item = may.item;
    there = may.there;
    is = (may.is, subst (λ (h : History). Recorded desk new h) (pausing_is desk id may.item may.there prepared is) (becomes_then desk mid new (saved_by prepared) one (entries.Paused id ∷ []) [] false two));
  })

  pub paused_fell : (mid new : View D O) (kind : DiskKind) → Recorded desk mid (saved_by prepared) → Becomes mid new [] (entries.Paused id ∷ []) true → PauseAnswers counts desk new id (Err (faults.Journal kind))
  paused_fell mid new kind one two = record {
    item = may.item;
    there = may.there;
    is = (may.is, inl (subst (λ (h : History). Fell desk new h) (pausing_is desk id may.item may.there prepared is) (fell_then desk mid new (saved_by prepared) one (entries.Paused id ∷ []) (fell_one mid new (entries.Paused id) two))));
  }

unsaved_life : {D O : Type 0} (desk : View D O) (id : ItemId) (prepared : Prepared) → IsPrepared desk id prepared → IsSomeAnd (life_in id.0 desk.lives) (λ (l : Life). 0 < l.unsaved)
unsaved_life desk id prepared is = is_some_and (life_in id.0 desk.lives) is.saving.life (λ (l : Life). 0 < l.unsaved) is.saving.lives is.unsaved

unsaved_case : {D O : Type 0} (counts : D → DiskKind → ℕ) (desk new : View D O) (id : ItemId) (prepared : Option Prepared) → PreparedOf desk id prepared → ItemWith desk id MayPause → (fault : SaveFault)
    → SaveIfMakes (counts desk.disk) (counts new.disk) desk new id prepared (Err fault) → PauseAnswers counts desk new id (Err (fault_of_save fault))
unsaved_case counts desk new id None is may fault makes = absurd makes
unsaved_case counts desk new id (Some prepared) is may (File kind) makes =
    (record { item = may.item; there = may.there; is = record { may = may.is; unsaved = unsaved_life desk id prepared is } }, makes)
unsaved_case counts desk new id (Some prepared) is may (Journal kind) (inl becomes) = record {
  item = may.item;
  there = may.there;
  is = (may.is, inl (subst (λ (h : History). Fell desk new h) (pausing_is desk id may.item may.there (Some prepared) is) (fell_before desk new (prepared.entry ∷ []) (entries.Paused id ∷ []) (fell_one desk new prepared.entry becomes))));
}
unsaved_case counts desk new id (Some prepared) is may (Journal kind) (inr stopped) = record {
  item = may.item;
  there = may.there;
  is = (may.is, inr (record { may = may.is; unsaved = unsaved_life desk id prepared is }, fell_stopped (counts desk.disk) (counts new.disk) desk new id stopped));
}

pub paused_unsaved : {D O : Type 0} (counts : D → DiskKind → ℕ) (desk new : View D O) (id : ItemId) (prepared : Option Prepared) → PreparedOf desk id prepared → ItemWith desk id MayPause → (fault : SaveFault) (answer : DeskFault) → answer ≡ fault_of_save fault
    → SaveIfMakes (counts desk.disk) (counts new.disk) desk new id prepared (Err fault) → PauseAnswers counts desk new id (Err answer)
paused_unsaved counts desk new id prepared is may fault answer is_fault makes =
    subst (λ (f : DeskFault). PauseAnswers counts desk new id (Err f)) (sym is_fault) (unsaved_case counts desk new id prepared is may fault makes)
