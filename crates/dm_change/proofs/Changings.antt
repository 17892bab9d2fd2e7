-- What is said of a change of an item.
use Rattle.std.proofs.Common.{◌≡◌, ◌≢◌, Bool, false, Option, Some, None, IsTrue, refl, sym, ◌∙◌, ap, subst}
use Rattle.std.specs.Prelude.{IsSomeAnd}
use Rattle.std.specs.Option.{option_map}
use Rattle.dm_types.specs.declared.item.Item.{Item}
use Rattle.dm_types.specs.declared.item.ItemId.{ItemId}
use Rattle.dm_types.specs.declared.item.Phase.{Phase}
use Rattle.dm_record.specs.Limits.{IsSpellable}
use Rattle.dm_item.specs.declared.fault.ApplyFault.{ApplyFault}
use Rattle.dm_item.specs.declared.fault.ApplyFault.TheVariants as applies
use Rattle.dm_item.specs.Listing.{Admits, Listing, Row, item_in}
use Rattle.dm_item.specs.Declines.{Declines}
use Rattle.dm_item.proofs.Declined.{declined}
use Rattle.dm_store.specs.Idle.{is_idle}
use Rattle.dm_answers.specs.Change.{IsWrong, is_left, stands_in}
use Rattle.dm_change.specs.Changing.{entry_of, leaves}
use Rattle.dm_change.specs.declared.changing.Change.{Change}
use Rattle.dm_change.specs.declared.changing.Change.TheVariants as changes

pub idle_of : (change : Change) (id : ItemId) → IsTrue (is_idle (entry_of change id))
idle_of changes.Resume id = refl
idle_of changes.Cancel id = refl
idle_of changes.Remove id = refl
idle_of changes.Archive id = refl

pub spellable_of : (change : Change) (id : ItemId) → IsSpellable (entry_of change id)
spellable_of changes.Resume id = tt
spellable_of changes.Cancel id = tt
spellable_of changes.Remove id = tt
spellable_of changes.Archive id = tt

-- the list takes the entry of a change where the row of its item does
admits_of : (change : Change) (id : ItemId) (items : Listing) → Row (entry_of change id) items.items (item_in id.0 items.items) → Admits items (entry_of change id)
admits_of changes.Resume id items met = record { room = tt; meets = met }
admits_of changes.Cancel id items met = record { room = tt; meets = met }
admits_of changes.Remove id items met = record { room = tt; meets = met }
admits_of changes.Archive id items met = record { room = tt; meets = met }

-- one that it takes is declined for want of memory alone
not_declined : (change : Change) (id : ItemId) (items : Listing) (fault : ApplyFault) → Row (entry_of change id) items.items (item_in id.0 items.items) → Declines items (entry_of change id) fault → fault ≡ applies.NoMemory
not_declined change id items fault row declines = let may = admits_of change id items row in declined items (entry_of change id) fault may.room may.meets declines

-- the phase of the item that was found
abbrev phase_in : Option Item → Option Phase
phase_in found = option_map (λ (item : Item). item.phase) found

stands_at : (those : Phase → Bool) (found : Option Item) (phase : Phase) → phase_in found ≡ Some phase → stands_in those found ≡ those phase
stands_at those None phase is = absurd cc
stands_at those (Some item) phase is = let same : item.phase ≡ phase = cc in ap those same

pub left_as : (change : Change) (id : ItemId) (items : Listing) (phase : Phase) → phase_in (item_in id.0 items.items) ≡ Some phase → is_left (leaves change) id items ≡ leaves change phase
left_as change id items phase is = stands_at (leaves change) (item_in id.0 items.items) phase is

no_phase : (found : Option Item) → phase_in found ≡ None → found ≡ None
no_phase None is = refl
no_phase (Some item) is = absurd cc

pub no_item : (id : ItemId) (items : Listing) → phase_in (item_in id.0 items.items) ≡ None → item_in id.0 items.items ≡ None
no_item id items is = no_phase (item_in id.0 items.items) is

-- an item whose phase or mode refuses the entry
pub wrong_state : (change : Change) (id : ItemId) (items : Listing) (phase : Phase) (fault : ApplyFault) → phase_in (item_in id.0 items.items) ≡ Some phase → leaves change phase ≡ false
    → Declines items (entry_of change id) fault → fault ≢ applies.NoMemory → IsSomeAnd (item_in id.0 items.items) (IsWrong (leaves change) (entry_of change id) items phase)
wrong_state change id items phase fault is not_left declines other = at (item_in id.0 items.items) refl is where
  at : (found : Option Item) → item_in id.0 items.items ≡ found → phase_in found ≡ Some phase → IsSomeAnd found (IsWrong (leaves change) (entry_of change id) items phase)
  at None same has = absurd cc
  at (Some item) same has =
      let here : item.phase ≡ phase = cc in
      record {
        phase_is = here;
        not_left = ap (leaves change) here ∙ not_left;
        row = λ row. other (not_declined change id items fault (subst (Row (entry_of change id) items.items) (sym same) row) declines);
      }
