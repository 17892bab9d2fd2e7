-- What recording the entry of an item that was being finished owes.
use Rattle.std.proofs.Common.{◌≡◌, ◌≢◌, ℕ, true, false, ◌||◌, IsTrue, List, ◌++◌, Some, refl, sym, ◌∙◌, ap, subst}
use Rattle.dm_types.specs.declared.entry.Entry.{Entry}
use Rattle.dm_types.specs.declared.entry.Entry.TheVariants as entries
use Rattle.dm_types.specs.declared.item.Item.{Item}
use Rattle.dm_types.specs.declared.item.ItemId.{ItemId}
use Rattle.dm_types.specs.declared.item.Phase.{Phase}
use Rattle.dm_types.specs.declared.item.Phase.TheVariants as phases
use Rattle.dm_types.specs.declared.reason.Reason.{Reason}
use Rattle.dm_types.specs.declared.reason.Reason.TheVariants as reasons
use Rattle.dm_disk_model.specs.Disk.{History as Clock, now}
use Rattle.dm_item.specs.Fields.{is_running}
use Rattle.dm_item.specs.Lawful.{History}
use Rattle.dm_item.specs.Listing.{Admits, Row, item_in}
use Rattle.dm_item.specs.Row.{is_finishing}
use Rattle.dm_kept.specs.Files.{PartsStand, says_all}
use Rattle.dm_kept.proofs.Entered.{items_are}
use Rattle.dm_kept.proofs.Lists.{some_is}
use Rattle.dm_kept.proofs.Standing.{stand_over}
use Rattle.dm_store.specs.Keeps.{IsDesk, StandBehind}
use Rattle.dm_store.specs.Lives.{AreAfter}
use Rattle.dm_store.specs.View.{View}
use Rattle.dm_store.proofs.Keeping.{at_rest}
use Rattle.dm_store.proofs.Lives.{lives_ended, lives_idle}
use Rattle.dm_answers.specs.Settling.{settles_with}
use Rattle.dm_settle.specs.Moving.{AreStated, IsFinishingAt}

-- the reasons of settling are none of the two that no Broke has
no_cancel : (reason : Reason) → settles_with reason ≡ true → reason ≢ reasons.UserCanceled
no_cancel reason settles same = absurd (off (subst (λ (r : Reason). settles_with r ≡ true) same settles))
  where
    off : false ≡ true → ⊥
    off is = absurd cc

no_crash : (reason : Reason) → settles_with reason ≡ true → reason ≢ reasons.Crash
no_crash reason settles same = absurd (off (subst (λ (r : Reason). settles_with r ≡ true) same settles))
  where
    off : false ≡ true → ⊥
    off is = absurd cc

module _ {D O : Type 0} (tells : Type 0) (clock : D → Clock) (desk : View D O) (id : ItemId) (is : IsDesk tells clock desk) (whole : desk.broken ≡ false) (moving : IsFinishingAt desk.items.items id) where
  row_at : (entry : Entry) → Row entry desk.items.items (Some moving.item) → Row entry desk.items.items (item_in id.0 desk.items.items)
  row_at entry row = subst (Row entry desk.items.items) (sym moving.there) row

  phase_of : (item : Item) → item_in id.0 desk.items.items ≡ Some item → item.phase ≡ phases.Finishing
  phase_of item there = ap (λ (i : Item). i.phase) (some_is item moving.item (sym there ∙ moving.there)) ∙ moving.finishing

  pub broke_admits : (reason : Reason) → settles_with reason ≡ true → Admits desk.items (entries.Broke id reason)
  broke_admits reason settles = record {
    room = tt;
    meets = row_at (entries.Broke id reason) (subst (λ (p : Phase). IsTrue (is_running p || is_finishing p)) (sym moving.finishing) refl, (no_cancel reason settles, no_crash reason settles));
  }

  pub broke_lives : (reason : Reason) → AreAfter (entries.Broke id reason) desk.items desk.lives
  broke_lives reason = lives_ended (entries.Broke id reason) id.0 desk.items.items desk.lives (λ item. refl) (λ item. refl) (is.lives whole)

  pub done_admits : (sum : List ℕ) (at : ℕ) → AreStated desk.items.items id sum → Admits desk.items (entries.Done id sum at)
  done_admits sum at stated = record {
    room = tt;
    meets = row_at (entries.Done id sum at) (subst (λ (p : Phase). IsTrue (is_finishing p)) (sym moving.finishing) refl, stated moving.item moving.there);
  }

  pub done_lives : (sum : List ℕ) (at : ℕ) → AreAfter (entries.Done id sum at) desk.items desk.lives
  done_lives sum at =
      lives_idle (entries.Done id sum at) id.0 desk.items.items desk.lives (λ item. refl) (λ item there. ap is_running (phase_of item there)) (λ item there. refl) (is.lives whole)

  standing : tells → PartsStand desk.items.items (now (clock desk.disk)).files
  standing told =
      let history : History = is.founded.before ++ desk.list in
      let sits = at_rest false says_all clock desk history whole (is.founded.holds told) in
      subst (λ (items : List Item). PartsStand items (now (clock desk.disk)).files) (sym (items_are history desk.items is.founded.items)) sits.stand

  pub broke_stands : (reason : Reason) → tells → StandBehind clock desk (entries.Broke id reason)
  broke_stands reason told = stand_over (entries.Broke id reason) id.0 desk.items.items (now (clock desk.disk)).files (λ item. refl) (λ item there. refl) (standing told)

  pub done_stands : (sum : List ℕ) (at : ℕ) → tells → StandBehind clock desk (entries.Done id sum at)
  done_stands sum at told = stand_over (entries.Done id sum at) id.0 desk.items.items (now (clock desk.disk)).files (λ item. refl) (λ item there. refl) (standing told)
