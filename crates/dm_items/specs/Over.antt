-- An attempt that is over at a desk, and how its passes are refused.
use Rattle.std.specs.Prelude.{◌≡◌, ◌⊎◌, ℕ, ◌<◌, ◌≤◌, false, Some, None, Result, Err}
use Rattle.dm_types.specs.declared.item.Item.{Item}
use Rattle.dm_item.specs.Fields.{is_running}
use Rattle.dm_item.specs.Listing.{Listing, item_in}
use Rattle.dm_answers.specs.declared.fault.DeskFault.{DeskFault}
use Rattle.dm_answers.specs.declared.fault.DeskFault.TheVariants as faults

-- the item doesn't run, and had this attempt or a later one
pub record HasStopped (items : Listing) (id attempt : ℕ) : Type 0 where
  pub item : Item
  pub there : item_in id items.items ≡ Some item
  pub idle : is_running item.phase ≡ false
  pub had : attempt ≤ item.attempt.0

-- the id was given, no item has it any more, and none may be restored
pub record IsLost (items : Listing) (id : ℕ) : Type 0 where
  pub late : items.is_early ≡ false
  pub given : id < items.next
  pub none : item_in id items.items ≡ None

-- the attempt is over: it ended, or the item is gone
abbrev pub IsOver : Listing → ℕ → ℕ → Type 0
IsOver items id attempt = HasStopped items id attempt ⊎ IsLost items id

-- refused, since the desk is broken, the item is gone, or the attempt is over
abbrev pub RefusesOld : {A : Type 0} → Result A DeskFault → Type 0
RefusesOld (Err faults.Broken) = Unit {0}
RefusesOld (Err (faults.NoItem id)) = Unit {0}
RefusesOld (Err (faults.Stale attempt round)) = Unit {0}
RefusesOld _ = ⊥
