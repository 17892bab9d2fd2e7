-- What an attempt that begins owes, where its content is brought anew and where it isn't.
use Rattle.std.proofs.Common.{◌≡◌, ℕ, false, IsTrue, ◌++◌, length, Option, Some, None, refl, sym, ◌∙◌, ap, subst}
use Rattle.std.specs.Prelude.{IsSome, is_some}
use Rattle.std.specs.Option.{option_map}
use Rattle.std.proofs.lemmas.Bool.{false≢true}
use Rattle.dm_types.specs.Name.{part_name}
use Rattle.dm_types.specs.declared.item.Item.{Item}
use Rattle.dm_types.specs.declared.item.ItemId.{ItemId}
use Rattle.dm_types.specs.declared.item.Key.{Key}
use Rattle.dm_types.specs.declared.kinds.By.{By}
use Rattle.dm_disk_model.specs.Disk.{History as Clock, bytes_at, now}
use Rattle.dm_disk_model.specs.Folder.{names_of}
use Rattle.dm_disk_model.proofs.Standing.{stands_if_long}
use Rattle.dm_item.specs.Fields.{is_running, no_bytes}
use Rattle.dm_item.specs.Listing.{Admits, Listing, applied, item_in}
use Rattle.dm_item.specs.Restored.{IsSound}
use Rattle.dm_item.specs.Row.{begun_item, restarted_item}
use Rattle.dm_item.proofs.Shorts.{sound_in}
use Rattle.dm_kept.specs.Files.{Says}
use Rattle.dm_kept.proofs.Lists.{some_is}
use Rattle.dm_store.specs.declared.life.Life.{Life}
use Rattle.dm_store.specs.declared.pass.Pass.{Pass}
use Rattle.dm_store.specs.Keeps.{IsDesk, StandBehind}
use Rattle.dm_store.specs.Lives.{LifeOf, begun_life, life_in, part_place}
use Rattle.dm_store.specs.View.{View}
use Rattle.dm_store.proofs.Begun.{began_stands, began_there, begun_there}
use Rattle.dm_answers.specs.Begin.{begins_anew, may_begin, pass_of}
use Rattle.dm_answers.specs.Running.{ItemWith, part_bytes}
use Rattle.dm_begin.specs.declared.starting.Start.TheVariants.{Anew}
use Rattle.dm_begin.specs.Start.{HasLifeOf, MayStart, began_by, life_at, restart_by}
use Rattle.dm_begin.proofs.Starts.{began_behind, began_taken, own_there, restart_there}

-- what a lawful history leaves of an item
pub item_sound : {D O : Type 0} (tells : Type 0) (clock : D → Clock) (desk : View D O) (id : ℕ) (item : Item) → IsDesk tells clock desk → item_in id desk.items.items ≡ Some item → IsSound item
item_sound tells clock desk id item is there = sound_in (is.founded.before ++ desk.list) desk.items id item is.founded.items there

-- the life of the item that begins
begun_is_at : (pass : Pass) (by : By) (item : Item) → begun_life (begun_item pass.attempt by item) ≡ life_at item.id item.epoch item.slices
begun_is_at pass by item = refl

pub life_begun : (pass : Pass) (by : By) (at : ℕ) (v : Listing) (item : Item) (life : Life) → item_in pass.id.0 v.items ≡ Some item → life ≡ life_at item.id item.epoch item.slices
    → Some life ≡ option_map begun_life (item_in pass.id.0 (applied (began_by pass by at) v).items)
life_begun pass by at v item life there is =
    ap (λ (l : Life). Some l) is ∙ sym (ap (option_map begun_life) (begun_there pass.id pass.attempt by at v item there))

-- In the same epoch.
module _ {D O : Type 0} (desk : View D O) (id : ItemId) (pass : Pass) (by : By) (at : ℕ) (life : Life) (item : Item) (there : item_in id.0 desk.items.items ≡ Some item) (may : IsTrue (may_begin by item)) (anew : begins_anew item ≡ false) (is : pass ≡ pass_of item)
    (has : HasLifeOf desk id life) where
  pub same_taken : Admits desk.items (began_by pass by at)
  same_taken = began_taken by at pass item id desk.items there may anew is

  pub same_life : Some life ≡ option_map begun_life (item_in pass.id.0 (applied (began_by pass by at) desk.items).items)
  same_life =
      let one : has.item ≡ item = some_is has.item item (sym has.there ∙ there) in
      life_begun pass by at desk.items item life (own_there pass item id desk.items.items is there) (subst (λ (i : Item). life ≡ life_at i.id i.epoch i.slices) one has.is)

-- A desk whose item begins.
module _ {D O : Type 0} (tells : Type 0) (clock : D → Clock) (says : O → Says) (desk : View D O) (is : IsDesk tells clock desk) (whole : desk.broken ≡ false) (pass : Pass) (by : By) (at : ℕ) (item : Item) (there : item_in pass.id.0 desk.items.items ≡ Some item)
    (may : Admits desk.items (began_by pass by at)) where
  one : item ≡ (began_there tells clock says desk is whole pass.id pass.attempt by at may).it
  one = some_is item (began_there tells clock says desk is whole pass.id pass.attempt by at may).it (sym there ∙ (began_there tells clock says desk is whole pass.id pass.attempt by at may).is)

  -- its part needn't stand, where it isn't described
  pub stands_untold : item.key ≡ None → tells → StandBehind clock desk (began_by pass by at)
  stands_untold untold told =
      began_stands tells clock says desk is whole pass.id pass.attempt by at may told
      (λ some. absurd (false≢true (sym (ap (λ (i : Item). is_some i.key) (sym one) ∙ ap (λ (k : Option Key). is_some k) untold) ∙ some)))

  -- or it stands
  pub stands_long : (have : ℕ) → tells → Some have ≡ option_map length (part_bytes clock desk.disk item) → StandBehind clock desk (began_by pass by at)
  stands_long have told long =
      began_stands tells clock says desk is whole pass.id pass.attempt by at may told
      (λ some. subst (λ (i : Item). IsSome (names_of (now (clock desk.disk)).files (part_name i.id.0 i.epoch.0))) one (stands_if_long (now (clock desk.disk)) (part_place item.id.0 item.epoch.0) have long))

-- In a new epoch, behind its restart.
module _ {D O : Type 0} (tells : Type 0) (clock : D → Clock) (says : O → Says) (old mid : View D O) (is : IsDesk tells clock mid) (whole : mid.broken ≡ false) (id : ItemId) (pass : Pass) (because : ℕ) (by : By) (at : ℕ) (s : ItemWith old id (MayStart by (Anew pass because)))
    (items : mid.items ≡ applied (restart_by pass because) old.items) where
  anew_there : item_in pass.id.0 mid.items.items ≡ Some (restarted_item pass.epoch s.item)
  anew_there =
      subst (λ (v : Listing). item_in pass.id.0 v.items ≡ Some (restarted_item pass.epoch s.item)) (sym items)
      (restart_there pass because s.item old.items.items (own_there pass s.item id old.items.items s.is.is.pass_is s.there))

  pub anew_taken : Admits mid.items (began_by pass by at)
  anew_taken = subst (λ (v : Listing). Admits v (began_by pass by at)) (sym items) (began_behind by at pass because s.item id old.items s.there s.is.may s.is.is)

  pub anew_life : (life : Life) → life ≡ life_at pass.id pass.epoch no_bytes → Some life ≡ option_map begun_life (item_in pass.id.0 (applied (began_by pass by at) mid.items).items)
  anew_life life life_is =
      life_begun pass by at mid.items (restarted_item pass.epoch s.item) life anew_there
      (life_is ∙ ap (λ (i : ItemId). life_at i pass.epoch no_bytes) (ap (λ (p : Pass). p.id) s.is.is.pass_is))

  pub anew_stands : tells → StandBehind clock mid (began_by pass by at)
  anew_stands = stands_untold tells clock says mid is whole pass by at (restarted_item pass.epoch s.item) anew_there anew_taken refl

-- The life of an attempt that began.

some_life : (item : Item) (found : Option Life) → IsTrue (is_running item.phase) → LifeOf (Some item) found → IsSome found
some_life item None runs idle = absurd (false≢true (sym idle ∙ runs))
some_life item (Some life) runs is = refl

pub begun_alive : {D O : Type 0} (tells : Type 0) (clock : D → Clock) (mid : View D O) → IsDesk tells clock mid → mid.broken ≡ false → (pass : Pass) (by : By) (at : ℕ) (v : Listing) → mid.items ≡ applied (began_by pass by at) v
    → (item : Item) → item_in pass.id.0 v.items ≡ Some item → IsSome (life_in pass.id.0 mid.lives)
begun_alive tells clock mid is whole pass by at v items item there =
    some_life (begun_item pass.attempt by item) (life_in pass.id.0 mid.lives) refl
    (subst (λ (found : Option Item). LifeOf found (life_in pass.id.0 mid.lives)) (ap (λ (w : Listing). item_in pass.id.0 w.items) items ∙ begun_there pass.id pass.attempt by at v item there) (is.lives whole pass.id.0))

-- what was found of the life's part was found of the item's
pub part_has : {D O : Type 0} (clock : D → Clock) (desk : View D O) (id : ItemId) (life : Life) → HasLifeOf desk id life → (disk : D) → clock disk ≡ clock desk.disk → (found : Option ℕ) → found ≡ option_map length (bytes_at (now (clock desk.disk)) life.part)
    → (item : Item) → item_in id.0 desk.items.items ≡ Some item → found ≡ option_map length (part_bytes clock disk item)
part_has clock desk id life has disk same found is item there =
    let one : has.item ≡ item = some_is has.item item (sym has.there ∙ there) in
    is ∙ ap (λ (l : Life). option_map length (bytes_at (now (clock desk.disk)) l.part)) has.is
    ∙ ap (λ (i : Item). option_map length (bytes_at (now (clock desk.disk)) (part_place i.id.0 i.epoch.0))) one
    ∙ ap (λ (c : Clock). option_map length (bytes_at (now c) (part_place item.id.0 item.epoch.0))) (sym same)
