-- How the user resumes, cancels, removes or archives an item.
use Rattle.std.specs.Prelude.{◌≡◌, ◌⊎◌, Bool, false, ◌||◌, [], ◌∷◌, Option, Some, None, IsTrue, IsSomeAnd, Result, Ok, Err}
use Rattle.dm_types.specs.declared.entry.Entry.{Entry}
use Rattle.dm_types.specs.declared.item.Item.{Item}
use Rattle.dm_types.specs.declared.item.ItemId.{ItemId}
use Rattle.dm_types.specs.declared.item.Phase.{Phase}
use Rattle.dm_item.specs.Fields.{is_running}
use Rattle.dm_item.specs.Row.{is_waiting}
use Rattle.dm_item.specs.Listing.{Admits, Listing, Row, item_in}
use Rattle.dm_store.specs.Becomes.{Fell, Recorded, Refuses}
use Rattle.dm_store.specs.View.{View}
use Rattle.dm_answers.specs.declared.fault.DeskFault.{DeskFault}
use Rattle.dm_answers.specs.declared.fault.DeskFault.TheVariants as faults
use Rattle.dm_answers.specs.Frame.{IsBroken}
use Rattle.dm_answers.specs.Running.{HasNone}

-- The phases in which nothing is left to do: for resuming, that the item waits or runs; for cancelling `is_cancelled`; else none.
abbrev pub is_under_way : Phase → Bool
is_under_way phase = is_waiting phase || is_running phase

abbrev pub in_no_phase : Phase → Bool
in_no_phase phase = false

-- the item stands, in one of these phases
abbrev pub stands_in : (Phase → Bool) → Option Item → Bool
stands_in those None = false
stands_in those (Some item) = those item.phase

-- nothing is left to do
abbrev pub is_left : (Phase → Bool) → ItemId → Listing → Bool
is_left is_done id items = stands_in is_done (item_in id.0 items.items)

-- something is left to do, and the list takes the entry
pub record IsDueChange (is_done : Phase → Bool) (entry : Entry) (id : ItemId) (items : Listing) : Type 0 where
  pub not_left : is_left is_done id items ≡ false
  pub admits : Admits items entry

-- the item's phase is this one, in which something is left to do, and the item's row doesn't take the entry
pub record IsWrong (is_done : Phase → Bool) (entry : Entry) (items : Listing) (phase : Phase) (item : Item) : Type 0 where
  pub phase_is : item.phase ≡ phase
  pub not_left : is_done item.phase ≡ false
  pub row : Row entry items.items (Some item) → ⊥

-- Each answer, with its cause and what it makes of the desk. Want of memory comes behind the other refusals.
abbrev pub ChangeAnswers : {D O : Type 0} → (Phase → Bool) → Entry → ItemId → View D O → View D O → Result (Unit {0}) DeskFault → Type 0
ChangeAnswers is_done entry id old new (Ok done) =
    Refuses old new (IsTrue (is_left is_done id old.items)) ⊎ (IsDueChange is_done entry id old.items × Recorded old new (entry ∷ []))
ChangeAnswers is_done entry id old new (Err faults.Broken) = IsBroken old new
ChangeAnswers is_done entry id old new (Err (faults.NoItem other)) = Refuses old new (HasNone old id other)
ChangeAnswers is_done entry id old new (Err (faults.WrongState phase)) = Refuses old new (IsSomeAnd (item_in id.0 old.items.items) (IsWrong is_done entry old.items phase))
ChangeAnswers is_done entry id old new (Err faults.NoMemory) = Refuses old new (IsDueChange is_done entry id old.items)
ChangeAnswers is_done entry id old new (Err (faults.Journal kind)) = IsDueChange is_done entry id old.items × Fell old new (entry ∷ [])
ChangeAnswers is_done entry id old new _ = ⊥
