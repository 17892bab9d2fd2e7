-- What ends an attempt, made ready: what is known of it before and behind the saving.
use Rattle.std.proofs.Common.{◌≡◌, ℕ, false, ◌++◌, List, Option, Some, refl, sym, ◌∙◌, ap, subst}
use Rattle.std.specs.Prelude.{IfSome, IsSome, IsSomeAnd}
use Rattle.dm_types.specs.declared.entry.Entry.TheVariants as entries
use Rattle.dm_types.specs.declared.item.Attempt.{Attempt}
use Rattle.dm_types.specs.declared.item.Item.{Item}
use Rattle.dm_types.specs.declared.item.ItemId.{ItemId}
use Rattle.dm_disk_model.specs.declared.place.Place.{Place}
use Rattle.dm_disk_model.specs.Disk.{History as Clock}
use Rattle.dm_item.specs.Listing.{item_in}
use Rattle.dm_item.specs.Restored.{IsSound}
use Rattle.dm_item.proofs.Shorts.{sound_in}
use Rattle.dm_part.specs.Laws.{files_place}
use Rattle.dm_kept.proofs.Lists.{id_in, some_is}
use Rattle.dm_store.specs.declared.readying.Readied.{Readied}
use Rattle.dm_store.specs.Becomes.{Recorded}
use Rattle.dm_store.specs.Keeps.{IsDesk}
use Rattle.dm_store.specs.Lives.{IsLifeOf, part_place}
use Rattle.dm_store.specs.Readied.{IsReadied}
use Rattle.dm_store.specs.View.{View}
use Rattle.dm_store.proofs.Found.{There, there_is}
use Rattle.dm_answers.specs.Running.{RunsWith}
use Rattle.dm_land.specs.declared.saving.Prepared.{Prepared}
use Rattle.dm_land.specs.Preparing.{PreparedOf, saved_by}
use Rattle.dm_land.proofs.Landed.{is_some_and}
use Rattle.dm_land.proofs.Saves.{own_life}
use Rattle.dm_finish.specs.declared.finishing.Ending.{Ending}
use Rattle.dm_finish.specs.Closing.{IsClosing}
use Rattle.dm_finish.specs.Finishing.{IsFullAt, IsReadyEnding}
use Rattle.dm_finish.proofs.Behind.{closing_behind}

-- the item's name is there
pub named_item : {D O : Type 0} (desk : View D O) (id : ItemId) (item : Item) → item_in id.0 desk.items.items ≡ Some item → IsSomeAnd (item_in id.0 desk.items.items) (λ (i : Item). IsSome i.name) → IsSome item.name
named_item desk id item there told = subst (λ (found : Option Item). IsSomeAnd found (λ (i : Item). IsSome i.name)) there told

-- all was made ready
pub ready_ending : {D O : Type 0} (desk : View D O) (id : ItemId) (total : ℕ) (saving : Option Prepared) (readied : Readied) (part target : Place) (item : Item) → item_in id.0 desk.items.items ≡ Some item → IsSome item.name → PreparedOf desk id saving
    → IsReadied desk.items (entries.Finishing id total) readied → part ≡ part_place id.0 item.epoch.0 → IfSome item.name (λ name. target ≡ files_place name)
    → IsReadyEnding desk id total (record { saving = saving; naming = record { readied = readied; part = part; target = target }; stated = item.digest })
ready_ending desk id total saving readied part target item there named prepared is_readied part_is target_is =
    let name : There item.name = there_is item.name named in
    record {
      item = item;
      there = there;
      saving = prepared;
      naming = record {
        readied = is_readied;
        item = item;
        there = there;
        part_is = part_is ∙ ap (λ (n : ℕ). part_place n item.epoch.0) (sym (id_in id.0 item desk.items.items there));
        name = name.it;
        name_is = name.is;
        target_is = subst (λ (found : Option (List ℕ)). IfSome found (λ n. target ≡ files_place n)) name.is target_is;
      };
      stated_is = refl;
    }

-- Of an attempt that has brought all.
module _ {D O : Type 0} (tells : Type 0) (clock : D → Clock) (desk : View D O) (is : IsDesk tells clock desk) (whole : desk.broken ≡ false) (id : ItemId) (attempt : Attempt) (total : ℕ) (full : RunsWith desk id attempt (IsFullAt total)) where
  sound : IsSound full.item
  sound = sound_in (is.founded.before ++ desk.list) desk.items id.0 full.item is.founded.items full.there

  own : IsLifeOf full.item full.life
  own = own_life desk id full.item full.life (is.lives whole) full.there full.lives

  pub full_named : IsSomeAnd (item_in id.0 desk.items.items) (λ (i : Item). IsSome i.name)
  full_named = is_some_and (item_in id.0 desk.items.items) full.item (λ (i : Item). IsSome i.name) full.there (sound.told.has_name ∙ full.is.may.told)

  module _ (ending : Ending) (ready : IsReadyEnding desk id total ending) where
    pub stated_of : full.item.digest ≡ ending.stated
    stated_of = ap (λ (i : Item). i.digest) (sym (some_is ready.item full.item (sym ready.there ∙ full.there))) ∙ ready.stated_is

    pub closing_ready : (mid : View D O) → Recorded desk mid (saved_by ending.saving) → IsClosing mid id total ending.stated ending.naming
    closing_ready mid saved = closing_behind desk mid id attempt total full own sound ending.naming ready.naming ending.stated stated_of ending.saving ready.saving saved
