-- Two answers to one change on one desk.
use Rattle.std.proofs.Common.{◌≡◌, ◌⊎◌, inl, inr, Bool, true, false, Option, Some, None, IsTrue, Result, Ok, Err, refl, sym, ◌∙◌, ap, subst}
use Rattle.std.specs.Prelude.{IsSomeAnd}
use Rattle.std.proofs.lemmas.Bool.{false≢true}
use Rattle.dm_types.specs.declared.entry.Entry.{Entry}
use Rattle.dm_types.specs.declared.entry.Entry.TheVariants as entries
use Rattle.dm_types.specs.declared.item.Item.{Item}
use Rattle.dm_types.specs.declared.item.ItemId.{ItemId}
use Rattle.dm_types.specs.declared.item.Phase.{Phase}
use Rattle.dm_item.specs.Row.{target_of}
use Rattle.dm_item.specs.Listing.{Listing, Meets, Row, RowAt, item_in}
use Rattle.dm_store.specs.View.{View}
use Rattle.dm_answers.specs.declared.fault.DeskFault.{DeskFault}
use Rattle.dm_answers.specs.declared.fault.DeskFault.TheVariants as faults
use Rattle.dm_answers.specs.Change.{ChangeAnswers, IsWrong, stands_in}
use Rattle.dm_change.specs.Changing.{SameAnswer}

-- an entry that names an item and meets its row
row_of : (entry : Entry) (items : Listing) (id : ItemId) → target_of entry ≡ Some id → Meets items entry → Row entry items.items (item_in id.0 items.items)
row_of (entries.Added other word address wish digest at) items id named meets = absurd cc
row_of (entries.Reopened next at) items id named meets = absurd cc
row_of (entries.Restored item) items id named meets = absurd cc
row_of (entries.Began other attempt by at) items id named meets = subst (RowAt (entries.Began other attempt by at) items.items) named meets
row_of (entries.Described other key last_address total name modified) items id named meets = subst (RowAt (entries.Described other key last_address total name modified) items.items) named meets
row_of (entries.Progress other slices) items id named meets = subst (RowAt (entries.Progress other slices) items.items) named meets
row_of (entries.Broke other reason) items id named meets = subst (RowAt (entries.Broke other reason) items.items) named meets
row_of (entries.Paused other) items id named meets = subst (RowAt (entries.Paused other) items.items) named meets
row_of (entries.Cancelled other) items id named meets = subst (RowAt (entries.Cancelled other) items.items) named meets
row_of (entries.Restarted other epoch because) items id named meets = subst (RowAt (entries.Restarted other epoch because) items.items) named meets
row_of (entries.Finishing other total) items id named meets = subst (RowAt (entries.Finishing other total) items.items) named meets
row_of (entries.Done other digest at) items id named meets = subst (RowAt (entries.Done other digest at) items.items) named meets
row_of (entries.Removed other) items id named meets = subst (RowAt (entries.Removed other) items.items) named meets
row_of (entries.Archived other) items id named meets = subst (RowAt (entries.Archived other) items.items) named meets
row_of (entries.Asked other) items id named meets = subst (RowAt (entries.Asked other) items.items) named meets

module _ (is_done : Phase → Bool) (entry : Entry) (items : Listing) where
  -- the item is left as it is, or its row takes the entry
  abbrev IsGood : Option Item → Type 0
  IsGood found = IsTrue (stands_in is_done found) ⊎ Row entry items.items found

  good_stands : (found : Option Item) → IsGood found → found ≡ None → ⊥
  good_stands None (inl left) none = false≢true left
  good_stands None (inr row) none = row
  good_stands (Some item) good none = cc

  not_both : (found : Option Item) (phase : Phase) → IsGood found → IsSomeAnd found (IsWrong is_done entry items phase) → ⊥
  not_both None phase good wrong = wrong
  not_both (Some item) phase (inl left) wrong = false≢true (sym wrong.not_left ∙ left)
  not_both (Some item) phase (inr row) wrong = wrong.row row

  stands : (found : Option Item) (phase : Phase) → IsSomeAnd found (IsWrong is_done entry items phase) → found ≡ None → ⊥
  stands None phase wrong none = wrong
  stands (Some item) phase wrong none = cc

  one_phase : (found : Option Item) (a b : Phase) → IsSomeAnd found (IsWrong is_done entry items a) → IsSomeAnd found (IsWrong is_done entry items b) → a ≡ b
  one_phase None a b first second = absurd first
  one_phase (Some item) a b first second = sym first.phase_is ∙ second.phase_is

module _ {D O : Type 0} (is_done : Phase → Bool) (entry : Entry) (id : ItemId) (old new other : View D O) (named : target_of entry ≡ Some id) where
  good : (desk : View D O) → ChangeAnswers is_done entry id old desk (Ok tt) → (old.broken ≡ false) × IsGood is_done entry old.items (item_in id.0 old.items.items)
  good desk (inl left) = (left.whole, inl left.cause)
  good desk (inr took) = (took.1.whole, inr (row_of entry old.items id named took.0.admits.meets))

  apart : {A : Type 0} → old.broken ≡ false → old.broken ≡ true → A
  apart whole broken = absurd (false≢true (sym whole ∙ broken))

  -- beside each answer no other one comes
  beside_ok : (b : Result (Unit {0}) DeskFault) → (old.broken ≡ false) × IsGood is_done entry old.items (item_in id.0 old.items.items) → ChangeAnswers is_done entry id old other b → SameAnswer (Ok tt) b
  beside_ok (Ok done) first second free_a free_b = refl
  beside_ok (Err (faults.NoItem named_id)) first second free_a free_b = absurd (good_stands is_done entry old.items (item_in id.0 old.items.items) first.1 second.cause.none)
  beside_ok (Err (faults.WrongState phase)) first second free_a free_b = absurd (not_both is_done entry old.items (item_in id.0 old.items.items) phase first.1 second.cause)
  beside_ok (Err faults.Broken) first second free_a free_b = apart first.0 second.broken
  beside_ok (Err faults.NoMemory) first second free_a free_b = absurd (false≢true (sym free_b))
  beside_ok (Err (faults.Journal kind)) first second free_a free_b = absurd (false≢true (sym free_b))
  beside_ok (Err (faults.Stale attempt round)) first second free_a free_b = absurd second
  beside_ok (Err (faults.NotNext place)) first second free_a free_b = absurd second
  beside_ok (Err (faults.PastEnd end)) first second free_a free_b = absurd second
  beside_ok (Err (faults.CheckpointDue bytes)) first second free_a free_b = absurd second
  beside_ok (Err (faults.ItemsFull count)) first second free_a free_b = absurd second
  beside_ok (Err (faults.WordTaken known)) first second free_a free_b = absurd second
  beside_ok (Err (faults.File kind)) first second free_a free_b = absurd second
  beside_ok (Err (faults.Damaged place)) first second free_a free_b = absurd second

  beside_no_item : (a : ItemId) (b : Result (Unit {0}) DeskFault) → ChangeAnswers is_done entry id old new (Err (faults.NoItem a)) → ChangeAnswers is_done entry id old other b → SameAnswer (Err (faults.NoItem a)) b
  beside_no_item a (Ok done) first second free_a free_b = absurd (good_stands is_done entry old.items (item_in id.0 old.items.items) (good other second).1 first.cause.none)
  beside_no_item a (Err (faults.NoItem named_id)) first second free_a free_b = ap (λ (i : ItemId). Err (faults.NoItem i)) (first.cause.is ∙ sym second.cause.is)
  beside_no_item a (Err (faults.WrongState phase)) first second free_a free_b = absurd (stands is_done entry old.items (item_in id.0 old.items.items) phase second.cause first.cause.none)
  beside_no_item a (Err faults.Broken) first second free_a free_b = apart first.whole second.broken
  beside_no_item a (Err faults.NoMemory) first second free_a free_b = absurd (false≢true (sym free_b))
  beside_no_item a (Err (faults.Journal kind)) first second free_a free_b = absurd (false≢true (sym free_b))
  beside_no_item a (Err (faults.Stale attempt round)) first second free_a free_b = absurd second
  beside_no_item a (Err (faults.NotNext place)) first second free_a free_b = absurd second
  beside_no_item a (Err (faults.PastEnd end)) first second free_a free_b = absurd second
  beside_no_item a (Err (faults.CheckpointDue bytes)) first second free_a free_b = absurd second
  beside_no_item a (Err (faults.ItemsFull count)) first second free_a free_b = absurd second
  beside_no_item a (Err (faults.WordTaken known)) first second free_a free_b = absurd second
  beside_no_item a (Err (faults.File kind)) first second free_a free_b = absurd second
  beside_no_item a (Err (faults.Damaged place)) first second free_a free_b = absurd second

  beside_wrong : (a : Phase) (b : Result (Unit {0}) DeskFault) → ChangeAnswers is_done entry id old new (Err (faults.WrongState a)) → ChangeAnswers is_done entry id old other b → SameAnswer (Err (faults.WrongState a)) b
  beside_wrong a (Ok done) first second free_a free_b = absurd (not_both is_done entry old.items (item_in id.0 old.items.items) a (good other second).1 first.cause)
  beside_wrong a (Err (faults.NoItem named_id)) first second free_a free_b = absurd (stands is_done entry old.items (item_in id.0 old.items.items) a first.cause second.cause.none)
  beside_wrong a (Err (faults.WrongState phase)) first second free_a free_b = ap (λ (p : Phase). Err (faults.WrongState p)) (one_phase is_done entry old.items (item_in id.0 old.items.items) a phase first.cause second.cause)
  beside_wrong a (Err faults.Broken) first second free_a free_b = apart first.whole second.broken
  beside_wrong a (Err faults.NoMemory) first second free_a free_b = absurd (false≢true (sym free_b))
  beside_wrong a (Err (faults.Journal kind)) first second free_a free_b = absurd (false≢true (sym free_b))
  beside_wrong a (Err (faults.Stale attempt round)) first second free_a free_b = absurd second
  beside_wrong a (Err (faults.NotNext place)) first second free_a free_b = absurd second
  beside_wrong a (Err (faults.PastEnd end)) first second free_a free_b = absurd second
  beside_wrong a (Err (faults.CheckpointDue bytes)) first second free_a free_b = absurd second
  beside_wrong a (Err (faults.ItemsFull count)) first second free_a free_b = absurd second
  beside_wrong a (Err (faults.WordTaken known)) first second free_a free_b = absurd second
  beside_wrong a (Err (faults.File kind)) first second free_a free_b = absurd second
  beside_wrong a (Err (faults.Damaged place)) first second free_a free_b = absurd second

  beside_broken : (b : Result (Unit {0}) DeskFault) → old.broken ≡ true → ChangeAnswers is_done entry id old other b → SameAnswer (Err faults.Broken) b
  beside_broken (Ok done) first second free_a free_b = apart (good other second).0 first
  beside_broken (Err (faults.NoItem named_id)) first second free_a free_b = apart second.whole first
  beside_broken (Err (faults.WrongState phase)) first second free_a free_b = apart second.whole first
  beside_broken (Err faults.Broken) first second free_a free_b = refl
  beside_broken (Err faults.NoMemory) first second free_a free_b = absurd (false≢true (sym free_b))
  beside_broken (Err (faults.Journal kind)) first second free_a free_b = absurd (false≢true (sym free_b))
  beside_broken (Err (faults.Stale attempt round)) first second free_a free_b = absurd second
  beside_broken (Err (faults.NotNext place)) first second free_a free_b = absurd second
  beside_broken (Err (faults.PastEnd end)) first second free_a free_b = absurd second
  beside_broken (Err (faults.CheckpointDue bytes)) first second free_a free_b = absurd second
  beside_broken (Err (faults.ItemsFull count)) first second free_a free_b = absurd second
  beside_broken (Err (faults.WordTaken known)) first second free_a free_b = absurd second
  beside_broken (Err (faults.File kind)) first second free_a free_b = absurd second
  beside_broken (Err (faults.Damaged place)) first second free_a free_b = absurd second

  pub same_answer : (a b : Result (Unit {0}) DeskFault) → ChangeAnswers is_done entry id old new a → ChangeAnswers is_done entry id old other b → SameAnswer a b
  same_answer (Ok done) b first second = beside_ok b (good new first) second
  same_answer (Err (faults.NoItem a)) b first second = beside_no_item a b first second
  same_answer (Err (faults.WrongState a)) b first second = beside_wrong a b first second
  same_answer (Err faults.Broken) b first second = beside_broken b first.broken second
  same_answer (Err faults.NoMemory) b first second = λ free_a. absurd (false≢true (sym free_a))
  same_answer (Err (faults.Journal kind)) b first second = λ free_a. absurd (false≢true (sym free_a))
  same_answer (Err (faults.Stale attempt round)) b first second = absurd first
  same_answer (Err (faults.NotNext place)) b first second = absurd first
  same_answer (Err (faults.PastEnd end)) b first second = absurd first
  same_answer (Err (faults.CheckpointDue bytes)) b first second = absurd first
  same_answer (Err (faults.ItemsFull count)) b first second = absurd first
  same_answer (Err (faults.WordTaken known)) b first second = absurd first
  same_answer (Err (faults.File kind)) b first second = absurd first
  same_answer (Err (faults.Damaged place)) b first second = absurd first
