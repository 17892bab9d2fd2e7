-- The part of an item whose attempt runs stands.
use Rattle.std.proofs.Common.{◌≡◌, ◌&&◌, ◌++◌, false, IsTrue, List, Option, Some, sym, subst, ℕ}
use Rattle.std.specs.Prelude.{is_some}
use Rattle.dm_types.specs.declared.item.Item.{Item}
use Rattle.dm_types.specs.declared.item.ItemId.{ItemId}
use Rattle.dm_types.specs.declared.item.Phase.{Phase}
use Rattle.dm_disk_model.specs.Disk.{History as Clock, Stands, now}
use Rattle.dm_item.specs.Fields.{is_running}
use Rattle.dm_item.specs.Lawful.{History}
use Rattle.dm_item.specs.Listing.{item_in}
use Rattle.dm_kept.specs.Files.{brings, says_all}
use Rattle.dm_kept.proofs.Entered.{items_are}
use Rattle.dm_store.specs.Keeps.{IsDesk}
use Rattle.dm_store.specs.Lives.{IsLifeOf, LifeOf, life_in}
use Rattle.dm_store.specs.View.{View}
use Rattle.dm_store.proofs.Keeping.{at_rest}
use Rattle.dm_finish.specs.declared.naming.Naming.{Naming}
use Rattle.dm_finish.specs.Closing.{IsClosing}
use Rattle.dm_finish.proofs.Givings.{naming_part}
use Rattle.dm_finish.proofs.Wholes.{running_is}

module _ {D O : Type 0} (tells : Type 0) (clock : D → Clock) (desk : View D O) (is : IsDesk tells clock desk) (whole : desk.broken ≡ false) (id : ItemId) (total : ℕ) (stated : Option (List ℕ)) (naming : Naming) (closing : IsClosing desk id total stated naming) where
  own : IsLifeOf closing.item closing.life
  own = subst (LifeOf (Some closing.item)) closing.lives (subst (λ (found : Option Item). LifeOf found (life_in id.0 desk.lives)) closing.there (is.lives whole id.0))

  brought : IsTrue (brings closing.item)
  brought = subst (λ (p : Phase). IsTrue (is_running p && is_some closing.item.key)) (sym (running_is closing.item.phase own.runs)) closing.told

  pub closing_stands : tells → Stands (now (clock desk.disk)) naming.part
  closing_stands told =
      let history : History = is.founded.before ++ desk.list in
      let holds = is.founded.holds told in
      let sits = at_rest false says_all clock desk history whole holds in
      subst (Stands (now (clock desk.disk))) (sym (naming_part desk id total naming closing.naming_is closing.item closing.there))
      (sits.stand id.0 closing.item (subst (λ (list : List Item). item_in id.0 list ≡ Some closing.item) (items_are history desk.items holds.items) closing.there) brought)
