-- What each call of a desk makes of it.
use Rattle.std.proofs.Common.{◌≡◌, inl, inr, ℕ, Bool, true, false, List, [], ◌∷◌, ◌++◌, Option, Some, None, Result, Ok, Err, sym, ◌∙◌, ap, subst, append_assoc, arith}
use Rattle.std.specs.Prelude.{filter, map, cond, ◌==◌}
use Rattle.std.proofs.lemmas.Bool.{false≢true}
use Rattle.std.proofs.lemmas.List.{append-nil}
use Rattle.dm_types.specs.Name.{IsPart}
use Rattle.dm_types.specs.declared.entry.Entry.{Entry}
use Rattle.dm_types.specs.declared.entry.Entry.TheVariants as entries
use Rattle.dm_types.specs.declared.item.Item.{Item}
use Rattle.dm_types.specs.declared.item.ItemId.{ItemId}
use Rattle.dm_types.specs.declared.item.Phase.{Phase}
use Rattle.dm_types.specs.declared.kinds.DiskKind.{DiskKind}
use Rattle.dm_types.specs.declared.reason.Reason.TheVariants as reasons
use Rattle.dm_disk_model.specs.Disk.{History as Clock}
use Rattle.dm_policy.specs.Cause.{reason_of_file}
use Rattle.dm_slice.specs.Cover.{normal_of}
use Rattle.dm_item.specs.Fields.{is_running}
use Rattle.dm_item.specs.Lawful.{History}
use Rattle.dm_item.specs.Listing.{Listing}
use Rattle.dm_store.specs.Becomes.{Fell, Recorded}
use Rattle.dm_store.specs.Keeps.{IsDesk}
use Rattle.dm_store.specs.Lives.{life_in}
use Rattle.dm_store.specs.View.{View}
use Rattle.dm_store.specs.declared.life.Life.{Life}
use Rattle.dm_store.proofs.Composing.{lawful_same}
use Rattle.dm_answers.specs.Add.{AddAnswers, added_by}
use Rattle.dm_answers.specs.Change.{ChangeAnswers}
use Rattle.dm_answers.specs.Frame.{FellWith, FileBroke}
use Rattle.dm_answers.specs.Pause.{PauseAnswers, PauseFell, pausing, saving_of}
use Rattle.dm_answers.specs.Shut.{ShutAnswers, shuts}
use Rattle.dm_answers.specs.Sweep.{IsLeftover, SweepAnswers}
use Rattle.dm_answers.specs.declared.fault.DeskFault.{DeskFault}
use Rattle.dm_answers.specs.declared.fault.DeskFault.TheVariants as faults
use Rattle.dm_answers.specs.declared.order.Order.{Order}
use Rattle.dm_answers.specs.declared.order.Taken.{Taken}
use Rattle.dm_answers.specs.declared.order.Taken.TheVariants.{New, Same}
use Rattle.dm_does.specs.Log.{ArePlain}
use Rattle.dm_does.proofs.Plain.{plain_both, plain_front}
use Rattle.dm_works.specs.Moving.{Moved, fell, recorded, same}

pub fell_moved : {D O : Type 0} (old new : View D O) (tries : History) → ArePlain tries → Fell old new tries → Moved old new
fell_moved old new tries plain failed =
    fell failed.recorded failed.entry
    (plain_front (failed.recorded ++ failed.entry ∷ []) failed.rest (subst ArePlain (failed.tries_are ∙ sym (append_assoc failed.recorded (failed.entry ∷ []) failed.rest)) plain))
    failed.becomes

pub change_moved : {D O : Type 0} (is_done : Phase → Bool) (entry : Entry) (id : ItemId) (old new : View D O) (result : Result (Unit {0}) DeskFault) → ArePlain (entry ∷ []) → ChangeAnswers is_done entry id old new result → Moved old new
change_moved is_done entry id old new (Ok done) plain (inl refused) = same refused.same
change_moved is_done entry id old new (Ok done) plain (inr (due, becomes)) = recorded (entry ∷ []) plain becomes
change_moved is_done entry id old new (Err faults.Broken) plain answers = same answers.same
change_moved is_done entry id old new (Err (faults.NoItem other)) plain answers = same answers.same
change_moved is_done entry id old new (Err (faults.WrongState phase)) plain answers = same answers.same
change_moved is_done entry id old new (Err faults.NoMemory) plain answers = same answers.same
change_moved is_done entry id old new (Err (faults.Journal kind)) plain (due, failed) = fell_moved old new (entry ∷ []) plain failed
change_moved is_done entry id old new (Err fault) plain answers = absurd answers

pub add_moved : {D O : Type 0} (old new : View D O) (order : Order) (at : ℕ) (result : Result Taken DeskFault) → AddAnswers old new order at result → Moved old new
add_moved old new order at (Ok (New id)) (id_is, fits, becomes) = recorded (added_by old.items order at ∷ []) tt becomes
add_moved old new order at (Ok (Same id)) answers = same answers.same
add_moved old new order at (Err faults.Broken) answers = same answers.same
add_moved old new order at (Err (faults.WordTaken id)) answers = same answers.same
add_moved old new order at (Err (faults.ItemsFull count)) answers = same answers.same
add_moved old new order at (Err faults.NoMemory) answers = same answers.same
add_moved old new order at (Err (faults.Journal kind)) (fits, failed) = fell_moved old new (added_by old.items order at ∷ []) tt failed
add_moved old new order at (Err fault) answers = absurd answers

-- what is saved opens no list
one_or_none : (none : Bool) (entry : Entry) → ArePlain (entry ∷ []) → ArePlain (cond none [] (entry ∷ []))
one_or_none true entry plain = tt
one_or_none false entry plain = plain

saved_plain : (item : Item) (life : Option Life) → ArePlain (saving_of item life)
saved_plain item None = tt
saved_plain item (Some life) = one_or_none (life.unsaved == 0) (entries.Progress item.id (normal_of item.total life.cover)) tt

pub pausing_plain : (item : Item) (life : Option Life) → ArePlain (pausing item life)
pausing_plain item life = plain_both (saving_of item life) (entries.Paused item.id ∷ []) (saved_plain item life) tt

file_fell : {D O : Type 0} (before after : DiskKind → ℕ) (id : ItemId) (old new : View D O) → FellWith old new [] (FileBroke before after id) → Moved old new
file_fell before after id old new with_one =
    fell_moved old new with_one.behind (subst ArePlain (sym (with_one.is.one ∙ ap (λ (e : Entry). e ∷ []) with_one.is.is.is)) tt) with_one.fell

pause_fell : {D O : Type 0} (counts : D → DiskKind → ℕ) (old new : View D O) (id : ItemId) (item : Item) → PauseFell counts old new id item → Moved old new
pause_fell counts old new id item (inl failed) = fell_moved old new (pausing item (life_in id.0 old.lives)) (pausing_plain item (life_in id.0 old.lives)) failed
pause_fell counts old new id item (inr (unsaved, failed)) = file_fell (counts old.disk) (counts new.disk) id old new failed

pub pause_moved : {D O : Type 0} (counts : D → DiskKind → ℕ) (old new : View D O) (id : ItemId) (result : Result (Unit {0}) DeskFault) → PauseAnswers counts old new id result → Moved old new
pause_moved counts old new id (Ok done) (inl refused) = same refused.same
pause_moved counts old new id (Ok done) (inr with_item) = recorded (pausing with_item.item (life_in id.0 old.lives)) (pausing_plain with_item.item (life_in id.0 old.lives)) with_item.is.1
pause_moved counts old new id (Err faults.Broken) answers = same answers.same
pause_moved counts old new id (Err (faults.NoItem other)) answers = same answers.same
pause_moved counts old new id (Err (faults.WrongState phase)) answers = same answers.same
pause_moved counts old new id (Err faults.NoMemory) answers = same answers.same
pause_moved counts old new id (Err (faults.File kind)) (unsaved, becomes) = recorded (entries.Broke id (reason_of_file kind) ∷ []) tt becomes
pause_moved counts old new id (Err (faults.Journal kind)) with_item = pause_fell counts old new id with_item.item with_item.is.1
pause_moved counts old new id (Err fault) answers = absurd answers

pub leftover_part : (items : Listing) (name : List ℕ) → IsLeftover items name → IsPart name
leftover_part items name is = record { id = is.id; epoch = is.epoch; small = is.small; is = is.is }

-- A sweep records nothing.
pub swept_none : {D O : Type 0} (tells : Type 0) (clock : D → Clock) (old new : View D O) (result : Result (Unit {0}) DeskFault) → IsDesk tells clock old → SweepAnswers tells clock old new result → old.broken ≡ false → Recorded old new []
swept_none tells clock old new (Ok done) desk answers whole = answers.0
swept_none tells clock old new (Err faults.Broken) desk answers whole = absurd (false≢true (sym whole ∙ answers.broken))
swept_none tells clock old new (Err faults.NoMemory) desk answers whole = record {
  whole = whole;
  items_are = ap (λ (v : View _ _). v.items) answers.same;
  lives_are = ap (λ (v : View _ _). v.lives) answers.same;
  list_is = ap (λ (v : View _ _). v.list) answers.same ∙ sym (append-nil old.list);
  lawful = lawful_same old.items new.items (ap (λ (v : View _ _). v.items) answers.same);
  gate_is = let is = ap (λ (v : View _ _). v.gate) answers.same in omega (arith, is);
  failed_is = ap (λ (v : View _ _). v.failed) answers.same ∙ desk.failed whole;
  may = tt;
  broken_is = ap (λ (v : View _ _). v.broken) answers.same ∙ whole;
  origin = ap (λ (v : View _ _). v.origin) answers.same;
  limits = ap (λ (v : View _ _). v.limits) answers.same;
}
swept_none tells clock old new (Err (faults.File kind)) desk answers whole = answers
swept_none tells clock old new (Err fault) desk answers whole = absurd answers

pub sweep_moved : {D O : Type 0} (tells : Type 0) (clock : D → Clock) (old new : View D O) (result : Result (Unit {0}) DeskFault) → IsDesk tells clock old → SweepAnswers tells clock old new result → Moved old new
sweep_moved tells clock old new (Ok done) desk answers = recorded [] tt answers.0
sweep_moved tells clock old new (Err faults.Broken) desk answers = same answers.same
sweep_moved tells clock old new (Err faults.NoMemory) desk answers = recorded [] tt (swept_none tells clock old new (Err faults.NoMemory) desk answers answers.whole)
sweep_moved tells clock old new (Err (faults.File kind)) desk answers = recorded [] tt answers
sweep_moved tells clock old new (Err fault) desk answers = absurd answers

shuts_plain : (items : List Item) → ArePlain (map (λ (item : Item). entries.Broke item.id reasons.UserShutdown) items)
shuts_plain [] = tt
shuts_plain (item ∷ more) = shuts_plain more

pub shut_moved : {D O : Type 0} (old new : View D O) (result : Result (Unit {0}) DeskFault) → ShutAnswers old new result → Moved old new
shut_moved old new (Ok done) answers = recorded (shuts old.items.items) (shuts_plain (filter (λ (item : Item). is_running item.phase) old.items.items)) answers
shut_moved old new (Err faults.Broken) answers = same answers.same
shut_moved old new (Err (faults.Journal kind)) answers = fell_moved old new (shuts old.items.items) (shuts_plain (filter (λ (item : Item). is_running item.phase) old.items.items)) answers
shut_moved old new (Err fault) answers = absurd answers
