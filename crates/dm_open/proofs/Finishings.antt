-- What is kept where an opening is finished.
use Rattle.std.proofs.Common.{◌≡◌, inl, inr, ℕ, false, List, [], ◌++◌, Result, Ok, Err, refl, sym, ◌∙◌, ap, subst, arith}
use Rattle.std.proofs.lemmas.List.{append-nil}
use Rattle.dm_disk_model.specs.Disk.{History as Clock}
use Rattle.dm_item.specs.Lawful.{History}
use Rattle.dm_item.specs.Listing.{Listing, item_in}
use Rattle.dm_store.specs.Becomes.{Becomes, Recorded}
use Rattle.dm_store.specs.Keeps.{StaysNear}
use Rattle.dm_store.specs.Lives.{part_place}
use Rattle.dm_store.specs.View.{View}
use Rattle.dm_store.proofs.Composing.{becomes_then, near_then}
use Rattle.dm_answers.specs.Settling.{AreSettlings, finishing, name_place, stands}
use Rattle.dm_answers.specs.Sweep.{IsLeftover}
use Rattle.dm_find.specs.declared.hindered.Hindered.{Hindered}
use Rattle.dm_find.specs.declared.hindered.Hindered.TheVariants as hindrances
use Rattle.dm_settle.specs.Settled.{AreSettled, IsPartOrGiven, IsUnsettled}
use Rattle.dm_settle.proofs.All.{GoesOn, settlings_later}
use Rattle.dm_open.specs.Finishing.{FinishMakes, SweptOr}

pub swept_becomes : {D O : Type 0} (tells : Type 0) (clock : D → Clock) (mid new : View D O) (result : Result (Unit {0}) Hindered) → SweptOr tells clock mid new result → Recorded mid new []
swept_becomes tells clock mid new (Ok done) swept = swept.0
swept_becomes tells clock mid new (Err fault) becomes = becomes

-- all was settled, and then it was swept
module _ {D O : Type 0} (tells : Type 0) (clock : D → Clock) (old mid new : View D O) (at : ℕ) (settled : AreSettled tells clock old mid at) (on : tells → GoesOn (clock mid.disk) (clock new.disk)) where
  settled_later : AreSettlings tells (clock old.disk) (clock new.disk) at (finishing old.items.items) (settled.recorded ++ []) []
  settled_later =
      subst (λ (h : History). AreSettlings tells (clock old.disk) (clock new.disk) at (finishing old.items.items) h []) (sym (append-nil settled.recorded))
      (settlings_later tells (clock old.disk) (clock mid.disk) (clock new.disk) at (finishing old.items.items) settled.recorded [] on settled.settles)

  unsettled : Recorded mid new [] → IsUnsettled tells clock old new at
  unsettled becomes = record {
    recorded = settled.recorded ++ [];
    failed = [];
    broken = false;
    becomes = becomes_then old mid new settled.recorded settled.becomes [] [] false becomes;
    one = omega arith;
    left = [];
    settles = subst (λ (h : History). AreSettlings tells (clock old.disk) (clock new.disk) at (finishing old.items.items) h []) (sym (append-nil (settled.recorded ++ []))) settled_later;
  }

  pub finish_makes : (result : Result (Unit {0}) Hindered) → SweptOr tells clock mid new result → FinishMakes tells clock old new at result
  finish_makes (Ok done) swept = (record { recorded = settled.recorded ++ []; becomes = becomes_then old mid new settled.recorded settled.becomes [] [] false swept.0; settles = settled_later }, swept.1)
  finish_makes (Err (hindrances.Disk kind)) becomes = unsettled becomes
  finish_makes (Err hindrances.NoMemory) becomes = (unsettled becomes, becomes.failed_is)

  pub finish_near : (result : Result (Unit {0}) Hindered) → SweptOr tells clock mid new result → (before between after : ℕ) → StaysNear before between old mid → StaysNear between after mid new → StaysNear before after old new
  finish_near result swept before between after near later =
      near_then old mid new settled.recorded settled.becomes [] before between after (swept_becomes tells clock mid new result swept).list_is near later

-- nothing was settled
pub all_untried : {D O : Type 0} (tells : Type 0) (clock : D → Clock) (old new : View D O) (at : ℕ) → Becomes old new [] [] false → IsUnsettled tells clock old new at
all_untried tells clock old new at becomes = record { recorded = []; failed = []; broken = false; becomes = becomes; one = omega arith; left = finishing old.items.items; settles = refl }

-- leftovers are parts
pub left_part : {D O : Type 0} (clock : D → Clock) (old : View D O) (items : Listing) (name : List ℕ) → IsLeftover items name → IsPartOrGiven clock old name
left_part clock old items name left = inl (record { id = left.id; epoch = left.epoch; small = left.small; is = left.is })

-- the same names are given after a reading of the disk
pub given_still : {D O : Type 0} (clock : D → Clock) (old mid : View D O) → mid.items ≡ old.items → clock mid.disk ≡ clock old.disk → (name : List ℕ) → IsPartOrGiven clock mid name → IsPartOrGiven clock old name
given_still clock old mid items still name (inl part) = inl part
given_still clock old mid items still name (inr given) = inr (record {
  id = given.id;
  item = given.item;
  there = sym (ap (λ (v : Listing). item_in given.id v.items) items) ∙ given.there;
  finishing = given.finishing;
  named = given.named;
  parted = sym (ap (λ (h : Clock). stands h (part_place given.item.id.0 given.item.epoch.0)) still) ∙ given.parted;
  free = sym (ap (λ (h : Clock). stands h (name_place given.item)) still) ∙ given.free;
})
