-- What the desk's calls answer is what the job does.
use Rattle.std.proofs.Common.{◌≡◌, ◌⊎◌, inl, inr, ℕ, ◌≤◌, Bool, true, false, if◌then◌else◌, List, [], ◌∷◌, length, Option, Some, None, Result, Ok, Err, refl, sym, ◌∙◌, ap, subst, arith}
use Rattle.std.specs.Prelude.{IfSome, IsSomeAnd, nat_lt, not}
use Rattle.std.specs.Str.{bytes_eq}
use Rattle.std.proofs.lemmas.Bool.{and_from, and_left, and_right, and_parts, false_from_ne_true, false≢true, le-ltb, lt-ltb}
use Rattle.std.proofs.lemmas.Slice.Eq.{bytes_eq-Decides}
use Rattle.dm_types.specs.Faults.{Rose}
use Rattle.dm_types.specs.declared.entry.Entry.{Entry}
use Rattle.dm_types.specs.declared.entry.Entry.TheVariants as entries
use Rattle.dm_types.specs.declared.item.Item.{Item}
use Rattle.dm_types.specs.declared.item.ItemId.{ItemId}
use Rattle.dm_types.specs.declared.item.Phase.{Phase}
use Rattle.dm_types.specs.declared.kinds.DiskKind.{DiskKind}
use Rattle.dm_policy.specs.Mode.{is_invalid}
use Rattle.dm_item.specs.Kept.{IsNumbered}
use Rattle.dm_item.specs.Listing.{Admits, HasRoom, Listing, Row, item_in}
use Rattle.dm_item.specs.Row.{allows, is_cancelled, mode_of_item}
use Rattle.dm_item.proofs.Undoing.{found-id}
use Rattle.dm_report.specs.declared.verdict.Verdict.TheVariants as verdicts
use Rattle.dm_store.specs.Becomes.{Fell, Recorded}
use Rattle.dm_store.specs.View.{View}
use Rattle.dm_answers.specs.Add.{AddAnswers, IsFull, IsKnown, IsNew, IsOther, added_by}
use Rattle.dm_answers.specs.Change.{ChangeAnswers, IsWrong, in_no_phase, is_under_way, stands_in}
use Rattle.dm_answers.specs.Faults.{desk_kind}
use Rattle.dm_answers.specs.declared.fault.DeskFault.{DeskFault}
use Rattle.dm_answers.specs.declared.fault.DeskFault.TheVariants as faults
use Rattle.dm_answers.specs.declared.order.Order.{Order}
use Rattle.dm_answers.specs.declared.order.Taken.{Taken}
use Rattle.dm_answers.specs.declared.order.Taken.TheVariants.{New, Same}
use Rattle.dm_does.specs.declared.course.Course.{Course}
use Rattle.dm_does.specs.declared.course.Course.TheVariants.{Ends, Brings}
use Rattle.dm_does.specs.declared.course.Show.TheVariants.{Nothing, Line}
use Rattle.dm_does.specs.declared.job.Job.TheVariants as jobs
use Rattle.dm_does.specs.Deciding.{Decides, ShowsFault, course_of, course_of_fault, course_of_order, did, fell, wanted}
use Rattle.dm_does.specs.Doing.{Doing, Given, by_word, changes, does, ends, has_room, may_ask, named_by, on_found, records, refuses}
use Rattle.dm_does.proofs.Naming.{with_free, with_known}

-- the list of a desk, and the moment
abbrev pub given_of : {D O : Type 0} → View D O → ℕ → Given
given_of desk at = record { list = desk.items; at = at }

-- An order, by the item that has its word.

room_true : (list : Listing) → HasRoom list → has_room list ≡ true
room_true list has =
    and_from (nat_lt (length list.items) list.limit) (nat_lt list.next 4294967295) (lt-ltb (length list.items) list.limit has.room) (lt-ltb list.next 4294967295 has.number)

room_false : (list : Listing) → (list.limit ≤ length list.items) ⊎ (list.next ≡ 4294967295) → has_room list ≡ false
room_false list (inl full) = and_left (nat_lt (length list.items) list.limit) (nat_lt list.next 4294967295) (le-ltb (length list.items) list.limit full)
room_false list (inr last) = and_right (nat_lt (length list.items) list.limit) (nat_lt list.next 4294967295) (le-ltb list.next 4294967295 (omega (arith, last)))

pub word_new : (given : Given) (order : Order) (same : Item → Doing) (course : ItemId → Course) → IsNew given.list order
    → by_word given order same course ≡ records (added_by given.list order given.at) (course (record { 0 = given.list.next }))
word_new given order same course new =
    ap (named_by given order same course) (with_free order.word given.list.items new.free)
    ∙ ap (λ (b : Bool). if b then records (added_by given.list order given.at) (course (record { 0 = given.list.next })) else refuses (verdicts.ItemsFull (length given.list.items))) (room_true given.list new.room)

pub word_full : (given : Given) (order : Order) (same : Item → Doing) (course : ItemId → Course) (count : ℕ) → IsFull given.list order count → by_word given order same course ≡ refuses (verdicts.ItemsFull count)
word_full given order same course count full =
    ap (named_by given order same course) (with_free order.word given.list.items full.free)
    ∙ ap (λ (b : Bool). if b then records (added_by given.list order given.at) (course (record { 0 = given.list.next })) else refuses (verdicts.ItemsFull (length given.list.items))) (room_false given.list full.full)
    ∙ ap (λ (n : ℕ). refuses (verdicts.ItemsFull n)) (sym full.count_is)

pub id_of_found : (id : ItemId) (items : List Item) (item : Item) → item_in id.0 items ≡ Some item → item.id ≡ id
id_of_found id items item there = ap (λ (n : ℕ). (let made : ItemId = record { 0 = n } in made)) (found-id id.0 items item there)

pub word_known : (given : Given) (order : Order) (same : Item → Doing) (course : ItemId → Course) (id : ItemId) → IsNumbered 1 given.list.items given.list.next → (known : IsKnown given.list.items order id)
    → by_word given order same course ≡ same known.item
word_known given order same course id numbered known =
    ap (named_by given order same course) (with_known order.word given.list.items id known.item given.list.next numbered known.named known.there)
    ∙ ap (λ (b : Bool). if b then same known.item else refuses (verdicts.OtherWord known.item.id)) ((bytes_eq-Decides known.item.first_address order.address.text).1 known.is)

pub word_other : (given : Given) (order : Order) (same : Item → Doing) (course : ItemId → Course) (id : ItemId) → IsNumbered 1 given.list.items given.list.next → IsOther given.list.items order id
    → by_word given order same course ≡ refuses (verdicts.OtherWord id)
word_other given order same course id numbered other =
    ap (named_by given order same course) (with_known order.word given.list.items id other.item given.list.next numbered other.named other.there)
    ∙ ap (λ (b : Bool). if b then same other.item else refuses (verdicts.OtherWord other.item.id))
    (false_from_ne_true (bytes_eq other.item.first_address order.address.text) (λ test. other.is ((bytes_eq-Decides other.item.first_address order.address.text).0 test)))
    ∙ ap (λ (i : ItemId). refuses (verdicts.OtherWord i)) (id_of_found id given.list.items other.item other.there)

-- From what a job does to what it decides.

module _ {D O : Type 0} (old new : View D O) (doing : Doing) where
  pub one_did : (entry : Entry) (course : Course) → doing ≡ records entry course → Recorded old new (entry ∷ []) → Decides doing old new course
  one_did entry course is recorded = did (inl (subst (λ (d : Doing). Recorded old new d.entries) (sym is) recorded)) (sym (ap (λ (d : Doing). d.course) is))

  pub none_did : (course : Course) → doing ≡ record { entries = []; course = course } → new ≡ old → Decides doing old new course
  none_did course is same = did (inr (ap (λ (d : Doing). d.entries) is, same)) (sym (ap (λ (d : Doing). d.course) is))

  pub one_fell : (entry : Entry) (course : Course) (kind : DiskKind) → doing ≡ records entry course → Fell old new (entry ∷ []) → Decides doing old new (Ends (verdicts.DiskFailed kind) Nothing)
  one_fell entry course kind is failed = fell kind (subst (λ (d : Doing). Fell old new d.entries) (sym is) failed) refl

pub at_id : {D O : Type 0} (old new : View D O) (doing : Doing) (course : ItemId → Course) (id other : ItemId) → id ≡ other → Decides doing old new (course id) → Decides doing old new (course other)
at_id old new doing course id other same decides = subst (λ (i : ItemId). Decides doing old new (course i)) same decides

-- an order that is a new item, or refused
order_decides : {D O : Type 0} (old new : View D O) (order : Order) (at : ℕ) (same : Item → Doing) (course known : ItemId → Course) (result : Result Taken DeskFault) → IsNumbered 1 old.items.items old.items.next → old.broken ≡ false
    → ((id : ItemId) → result ≡ Ok (Same id) → ⊥) → AddAnswers old new order at result → Decides (by_word (given_of old at) order same course) old new (course_of_order course known result)
order_decides old new order at same course known (Ok (New id)) numbered whole not_same (id_is, fits, recorded) =
    at_id old new (by_word (given_of old at) order same course) course (record { 0 = old.items.next }) id (ap (λ (n : ℕ). (let made : ItemId = record { 0 = n } in made)) (sym id_is))
    (one_did old new (by_word (given_of old at) order same course) (added_by old.items order at) (course (record { 0 = old.items.next })) (word_new (given_of old at) order same course fits) recorded)
order_decides old new order at same course known (Ok (Same id)) numbered whole not_same answers = absurd (not_same id refl)
order_decides old new order at same course known (Err faults.Broken) numbered whole not_same answers = absurd (false≢true (sym whole ∙ answers.broken))
order_decides old new order at same course known (Err (faults.WordTaken id)) numbered whole not_same answers =
    none_did old new (by_word (given_of old at) order same course) (Ends (verdicts.OtherWord id) Nothing) (word_other (given_of old at) order same course id numbered answers.cause) answers.same
order_decides old new order at same course known (Err (faults.ItemsFull count)) numbered whole not_same answers =
    none_did old new (by_word (given_of old at) order same course) (Ends (verdicts.ItemsFull count) Nothing) (word_full (given_of old at) order same course count answers.cause) answers.same
order_decides old new order at same course known (Err faults.NoMemory) numbered whole not_same answers = wanted answers.same refl
order_decides old new order at same course known (Err (faults.Journal kind)) numbered whole not_same (fits, failed) =
    one_fell old new (by_word (given_of old at) order same course) (added_by old.items order at) (course (record { 0 = old.items.next })) kind (word_new (given_of old at) order same course fits) failed
order_decides old new order at same course known (Err fault) numbered whole not_same answers = absurd answers

-- `add`
pub add_decides : {D O : Type 0} (old new : View D O) (order : Order) (at : ℕ) (result : Result Taken DeskFault) → IsNumbered 1 old.items.items old.items.next → old.broken ≡ false
    → AddAnswers old new order at result → Decides (does (jobs.Add order) (given_of old at)) old new (course_of_order (λ id. Ends verdicts.Done (Line id)) (λ id. Ends verdicts.Done (Line id)) result)
add_decides old new order at (Ok (Same id)) numbered whole answers =
    let known = answers.cause in
    at_id old new (does (jobs.Add order) (given_of old at)) (λ i. Ends verdicts.Done (Line i)) known.item.id id (id_of_found id old.items.items known.item known.there)
    (none_did old new (does (jobs.Add order) (given_of old at)) (Ends verdicts.Done (Line known.item.id))
    (word_known (given_of old at) order (λ item. ends verdicts.Done (Line item.id)) (λ i. Ends verdicts.Done (Line i)) id numbered known) answers.same)
add_decides old new order at (Ok (New id)) numbered whole answers =
    order_decides old new order at (λ item. ends verdicts.Done (Line item.id)) (λ i. Ends verdicts.Done (Line i)) (λ i. Ends verdicts.Done (Line i)) (Ok (New id)) numbered whole (λ i is. absurd cc) answers
add_decides old new order at (Err fault) numbered whole answers =
    order_decides old new order at (λ item. ends verdicts.Done (Line item.id)) (λ i. Ends verdicts.Done (Line i)) (λ i. Ends verdicts.Done (Line i)) (Err fault) numbered whole (λ i is. absurd cc) answers

-- One entry that changes an item.

pub changes_done : (is_done may : Bool) (entry : Entry) (course : Course) (item : Item) → is_done ≡ true → changes is_done may entry course item ≡ record { entries = []; course = course }
changes_done is_done may entry course item is = ap (λ (b : Bool). changes b may entry course item) is

pub changes_may : (is_done may : Bool) (entry : Entry) (course : Course) (item : Item) → is_done ≡ false → may ≡ true → changes is_done may entry course item ≡ records entry course
changes_may is_done may entry course item not_done is = ap (λ (b : Bool). changes b may entry course item) not_done ∙ ap (λ (b : Bool). changes false b entry course item) is

pub changes_not : (is_done may : Bool) (entry : Entry) (course : Course) (item : Item) → is_done ≡ false → may ≡ false → changes is_done may entry course item ≡ refuses (verdicts.WrongState item.phase)
changes_not is_done may entry course item not_done is = ap (λ (b : Bool). changes b may entry course item) not_done ∙ ap (λ (b : Bool). changes false b entry course item) is

-- the phases in which nothing is left to do, the entry, whether an item's row takes it, and the course behind it
pub record Change : Type 0 where
  pub is_done : Phase → Bool
  pub make : ItemId → Entry
  pub may : Item → Bool
  pub course : ItemId → Course

abbrev pub changes_by : Change → Item → Doing
changes_by change item = changes (change.is_done item.phase) (change.may item) (change.make item.id) (change.course item.id) item

-- the row of the entry is this test
pub record Tests (change : Change) (id : ItemId) (items : Listing) : Type 0 where
  pub admits : Admits items (change.make id) → Row (change.make id) items.items (item_in id.0 items.items)
  pub taken : (item : Item) → Row (change.make id) items.items (Some item) → change.may item ≡ true
  pub takes : (item : Item) → change.may item ≡ true → Row (change.make id) items.items (Some item)

module _ {D O : Type 0} (old new : View D O) (change : Change) (id : ItemId) (tests : Tests change id old.items) where
  abbrev doing : Doing
  doing = on_found id (item_in id.0 old.items.items) (changes_by change)

  found_is : (found : Option Item) → item_in id.0 old.items.items ≡ found → doing ≡ on_found id found (changes_by change)
  found_is found is = ap (λ (f : Option Item). on_found id f (changes_by change)) is

  id_is : (item : Item) → item_in id.0 old.items.items ≡ Some item → item.id ≡ id
  id_is item there = id_of_found id old.items.items item there

  left_did : (found : Option Item) → item_in id.0 old.items.items ≡ found → stands_in change.is_done found ≡ true → new ≡ old → Decides doing old new (change.course id)
  left_did None there left same = absurd (false≢true left)
  left_did (Some item) there left same =
      at_id old new doing change.course item.id id (id_is item there)
      (none_did old new doing (change.course item.id) (found_is (Some item) there ∙ changes_done (change.is_done item.phase) (change.may item) (change.make item.id) (change.course item.id) item left) same)

  -- the entry of the item is that of the id
  due_is : (found : Option Item) → item_in id.0 old.items.items ≡ found → stands_in change.is_done found ≡ false → Row (change.make id) old.items.items found → doing ≡ records (change.make id) (change.course id)
  due_is None there not_left row = absurd row
  due_is (Some item) there not_left row =
      found_is (Some item) there
      ∙ changes_may (change.is_done item.phase) (change.may item) (change.make item.id) (change.course item.id) item not_left (tests.taken item row)
      ∙ ap (λ (i : ItemId). records (change.make i) (change.course i)) (id_is item there)

  wrong_is : (item : Item) → item_in id.0 old.items.items ≡ Some item → change.is_done item.phase ≡ false → (Row (change.make id) old.items.items (Some item) → ⊥) → doing ≡ refuses (verdicts.WrongState item.phase)
  wrong_is item there not_left row =
      found_is (Some item) there
      ∙ changes_not (change.is_done item.phase) (change.may item) (change.make item.id) (change.course item.id) item not_left (false_from_ne_true (change.may item) (λ may. row (tests.takes item may)))

  wrong_did : (phase : Phase) (found : Option Item) → item_in id.0 old.items.items ≡ found → IsSomeAnd found (IsWrong change.is_done (change.make id) old.items phase) → new ≡ old → Decides doing old new (Ends (verdicts.WrongState phase) Nothing)
  wrong_did phase None there wrong same = absurd wrong
  wrong_did phase (Some item) there wrong same =
      none_did old new doing (Ends (verdicts.WrongState phase) Nothing) (wrong_is item there wrong.not_left wrong.row ∙ ap (λ (p : Phase). refuses (verdicts.WrongState p)) wrong.phase_is) same

  change_decides : (result : Result (Unit {0}) DeskFault) → old.broken ≡ false → ChangeAnswers change.is_done (change.make id) id old new result → Decides doing old new (course_of (change.course id) result)
  change_decides (Ok done) whole (inl refused) = left_did (item_in id.0 old.items.items) refl refused.cause refused.same
  change_decides (Ok done) whole (inr (due, recorded)) =
      one_did old new doing (change.make id) (change.course id) (due_is (item_in id.0 old.items.items) refl due.not_left (tests.admits due.admits)) recorded
  change_decides (Err faults.Broken) whole answers = absurd (false≢true (sym whole ∙ answers.broken))
  change_decides (Err (faults.NoItem other)) whole answers =
      none_did old new doing (Ends (verdicts.NoItem other) Nothing) (found_is None answers.cause.none ∙ ap (λ (i : ItemId). refuses (verdicts.NoItem i)) (sym answers.cause.is)) answers.same
  change_decides (Err (faults.WrongState phase)) whole answers = wrong_did phase (item_in id.0 old.items.items) refl answers.cause answers.same
  change_decides (Err faults.NoMemory) whole answers = wanted answers.same refl
  change_decides (Err (faults.Journal kind)) whole (due, failed) =
      one_fell old new doing (change.make id) (change.course id) kind (due_is (item_in id.0 old.items.items) refl due.not_left (tests.admits due.admits)) failed
  change_decides (Err fault) whole answers = absurd answers

-- the three changes

abbrev cancelling : Change
cancelling = record { is_done = is_cancelled; make = entries.Cancelled; may = λ item. allows (entries.Cancelled item.id) item.phase; course = λ id. Ends verdicts.Done (Line id) }

abbrev removing : Change
removing = record { is_done = in_no_phase; make = entries.Removed; may = λ item. allows (entries.Removed item.id) item.phase; course = λ id. Ends verdicts.Done Nothing }

abbrev asking : ℕ → Change
asking slices = record { is_done = is_under_way; make = entries.Asked; may = may_ask; course = λ id. Brings id slices }

pub cancel_decides : {D O : Type 0} (old new : View D O) (id : ItemId) (at : ℕ) (result : Result (Unit {0}) DeskFault) → old.broken ≡ false → ChangeAnswers is_cancelled (entries.Cancelled id) id old new result
    → Decides (does (jobs.Cancel id) (given_of old at)) old new (course_of (Ends verdicts.Done (Line id)) result)
cancel_decides old new id at result whole answers =
    change_decides old new cancelling id (record { admits = λ admits. admits.meets; taken = λ item row. row.0; takes = λ item may. (may, tt) }) result whole answers

pub remove_decides : {D O : Type 0} (old new : View D O) (id : ItemId) (at : ℕ) (result : Result (Unit {0}) DeskFault) → old.broken ≡ false → ChangeAnswers in_no_phase (entries.Removed id) id old new result
    → Decides (does (jobs.Remove id) (given_of old at)) old new (course_of (Ends verdicts.Done Nothing) result)
remove_decides old new id at result whole answers =
    change_decides old new removing id (record { admits = λ admits. admits.meets; taken = λ item row. row.0; takes = λ item may. (may, tt) }) result whole answers

pub resume_decides : {D O : Type 0} (old new : View D O) (id : ItemId) (slices at : ℕ) (result : Result (Unit {0}) DeskFault) → old.broken ≡ false → ChangeAnswers is_under_way (entries.Asked id) id old new result
    → Decides (does (jobs.Resume id slices) (given_of old at)) old new (course_of (Brings id slices) result)
resume_decides old new id slices at result whole answers =
    change_decides old new (asking slices) id
    (record {
      admits = λ admits. admits.meets;
      taken = λ item row. and_from (allows (entries.Asked item.id) item.phase) (not (is_invalid (mode_of_item item))) row.0 row.1;
      takes = λ item may. and_parts (allows (entries.Asked item.id) item.phase) (not (is_invalid (mode_of_item item))) may;
    }) result whole answers

-- Where the course is that the disk failed, the fault said so.

pub fault_shows : (before after : DiskKind → ℕ) (fault : DeskFault) → IfSome (desk_kind fault) (λ kind. Rose (before kind) (after kind)) → ShowsFault before after (course_of_fault fault)
fault_shows before after (faults.NoItem id) cause = tt
fault_shows before after (faults.WrongState phase) cause = tt
fault_shows before after (faults.Stale attempt round) cause = tt
fault_shows before after (faults.NotNext place) cause = tt
fault_shows before after (faults.PastEnd end) cause = tt
fault_shows before after (faults.CheckpointDue bytes) cause = tt
fault_shows before after (faults.ItemsFull count) cause = tt
fault_shows before after (faults.WordTaken id) cause = tt
fault_shows before after (faults.File kind) cause = cause
fault_shows before after (faults.Journal kind) cause = cause
fault_shows before after faults.Broken cause = tt
fault_shows before after faults.NoMemory cause = tt
fault_shows before after (faults.Damaged place) cause = tt
