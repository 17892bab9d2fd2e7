-- Whatever a job records of its own is at most one entry, which the list takes; where it is refused there is none.
use Rattle.std.proofs.Common.{◌≡◌, ℕ, Bool, true, false, if◌then◌else◌, length, Option, Some, None, refl, sym, subst}
use Rattle.std.specs.Prelude.{IsTrue, not, ◌||◌, nat_lt}
use Rattle.std.specs.Str.{bytes_eq}
use Rattle.std.proofs.lemmas.Bool.{and_parts, ltb-true}
use Rattle.dm_types.specs.declared.entry.Entry.{Entry}
use Rattle.dm_types.specs.declared.entry.Entry.TheVariants as entries
use Rattle.dm_types.specs.declared.item.Item.{Item}
use Rattle.dm_types.specs.declared.item.ItemId.{ItemId}
use Rattle.dm_item.specs.Kept.{IsNumbered}
use Rattle.dm_item.specs.Listing.{Admits, HasRoom, Listing, Row, item_in}
use Rattle.dm_item.specs.Row.{allows, is_cancelled, is_complete, is_paused, is_waiting, mode_of_item}
use Rattle.dm_policy.specs.Mode.{is_invalid}
use Rattle.dm_item.specs.Fields.{is_running}
use Rattle.dm_item.specs.Words.{IsFreeWord}
use Rattle.dm_item.proofs.Undoing.{found-id}
use Rattle.dm_report.specs.declared.verdict.Verdict.{Verdict}
use Rattle.dm_report.specs.declared.verdict.Verdict.TheVariants.{Done, WrongState, ItemsFull, OtherWord}
use Rattle.dm_answers.specs.Add.{added_by}
use Rattle.dm_answers.specs.declared.order.Order.{Order}
use Rattle.dm_does.specs.declared.course.Course.{Course}
use Rattle.dm_does.specs.declared.course.Course.TheVariants.{Ends, Brings}
use Rattle.dm_does.specs.declared.course.Show.TheVariants.{Nothing, Line, Whole}
use Rattle.dm_does.specs.declared.job.Job.{Job}
use Rattle.dm_does.specs.declared.job.Job.TheVariants as jobs
use Rattle.dm_does.specs.Doing.{Doing, Given, cancels, changes, does, ends, goes_on, asks_for, has_room, may_ask, named_by, on_found, pauses, records, refuses, removes, takes_on, with_word}
use Rattle.dm_does.specs.Laws.{Fits, GoesOn, IsOfList, is_own}
use Rattle.dm_does.proofs.Naming.{free_of, with_there}

one_or_none : (list : Listing) (test : Bool) (entry : Entry) (course : Course) (verdict : Verdict) → GoesOn course → IsOfList course → IsOfList (Ends verdict Nothing) → (test ≡ true → IsTrue (is_own entry) × Admits list entry)
    → Fits list (if test then records entry course else refuses verdict)
one_or_none list true entry course verdict on of_list refused may = let own = may refl in record { entries = (own.0, own.1, on); course = of_list }
one_or_none list false entry course verdict on of_list refused may = record { entries = tt; course = refused }

changes_fit : (list : Listing) (is_done may : Bool) (entry : Entry) (course : Course) (item : Item) → GoesOn course → IsOfList course → (may ≡ true → IsTrue (is_own entry) × Admits list entry) → Fits list (changes is_done may entry course item)
changes_fit list true may entry course item on of_list takes = record { entries = tt; course = of_list }
changes_fit list false may entry course item on of_list takes = one_or_none list may entry course (WrongState item.phase) on of_list tt takes

found_fits : (list : Listing) (id : ItemId) (found : Option Item) (with_item : Item → Doing) → ((item : Item) → found ≡ Some item → Fits list (with_item item)) → Fits list (on_found id found with_item)
found_fits list id None with_item each = record { entries = tt; course = tt }
found_fits list id (Some item) with_item each = each item refl

-- the item with the id is the one with its own
at_its_id : (list : Listing) (id : ItemId) (item : Item) → item_in id.0 list.items ≡ Some item → item_in item.id.0 list.items ≡ Some item
at_its_id list id item there = subst (λ (n : ℕ). item_in n list.items ≡ Some item) (sym (found-id id.0 list.items item there)) there

pauses_fit : (list : Listing) (item : Item) → item_in item.id.0 list.items ≡ Some item → Fits list (pauses item)
pauses_fit list item there = changes_fit list (is_paused item.phase) (allows (entries.Paused item.id) item.phase) (entries.Paused item.id) (Ends Done (Line item.id)) item tt tt
    (λ may. (refl, record { room = tt; meets = subst (λ (found : Option Item). Row (entries.Paused item.id) list.items found) (sym there) (may, tt) }))

cancels_fit : (list : Listing) (item : Item) → item_in item.id.0 list.items ≡ Some item → Fits list (cancels item)
cancels_fit list item there = changes_fit list (is_cancelled item.phase) (allows (entries.Cancelled item.id) item.phase) (entries.Cancelled item.id) (Ends Done (Line item.id)) item tt tt
    (λ may. (refl, record { room = tt; meets = subst (λ (found : Option Item). Row (entries.Cancelled item.id) list.items found) (sym there) (may, tt) }))

removes_fit : (list : Listing) (item : Item) → item_in item.id.0 list.items ≡ Some item → Fits list (removes item)
removes_fit list item there = changes_fit list false (allows (entries.Removed item.id) item.phase) (entries.Removed item.id) (Ends Done Nothing) item tt tt
    (λ may. (refl, record { room = tt; meets = subst (λ (found : Option Item). Row (entries.Removed item.id) list.items found) (sym there) (may, tt) }))

asks_fit : (list : Listing) (slices : ℕ) (item : Item) → item_in item.id.0 list.items ≡ Some item → Fits list (asks_for slices item)
asks_fit list slices item there = changes_fit list (is_waiting item.phase || is_running item.phase) (may_ask item) (entries.Asked item.id) (Brings item.id slices) item tt tt
    (λ may. (refl, record { room = tt; meets = subst (λ (found : Option Item). Row (entries.Asked item.id) list.items found) (sym there) (both may) }))
  where
    both : may_ask item ≡ true → Row (entries.Asked item.id) list.items (Some item)
    both may = let parts = and_parts (allows (entries.Asked item.id) item.phase) (not (is_invalid (mode_of_item item))) may in (parts.0, parts.1)

complete_or : (list : Listing) (test : Bool) (item : Item) (rest : Doing) → Fits list rest → Fits list (if test then ends Done (Line item.id) else rest)
complete_or list true item rest fits = record { entries = tt; course = tt }
complete_or list false item rest fits = fits

goes_fit : (list : Listing) (slices : ℕ) (item : Item) → item_in item.id.0 list.items ≡ Some item → Fits list (goes_on slices item)
goes_fit list slices item there = complete_or list (is_complete item.phase) item (asks_for slices item) (asks_fit list slices item there)

same_or : (list : Listing) (test : Bool) (id : ItemId) (same : Doing) → Fits list same → Fits list (if test then same else refuses (OtherWord id))
same_or list true id same fits = fits
same_or list false id same fits = record { entries = tt; course = tt }

takes_fit : (given : Given) (order : Order) (course : ItemId → Course) → IsFreeWord order.word given.list.items → GoesOn (course (record { 0 = given.list.next })) → IsOfList (course (record { 0 = given.list.next }))
    → Fits given.list (takes_on given order course)
takes_fit given order course free on of_list =
    one_or_none given.list (has_room given.list) (added_by given.list order given.at) (course (record { 0 = given.list.next })) (ItemsFull (length given.list.items)) on of_list tt
    (λ room. (refl, record { room = room_of room; meets = (refl, free) }))
  where
    room_of : has_room given.list ≡ true → HasRoom given.list
    room_of room =
        let parts = and_parts (nat_lt (length given.list.items) given.list.limit) (nat_lt given.list.next 4294967295) room in
        record { room = ltb-true (length given.list.items) given.list.limit parts.0; number = ltb-true given.list.next 4294967295 parts.1 }

named_fits : (given : Given) (order : Order) (same : Item → Doing) (course : ItemId → Course) (found : Option Item) → with_word order.word given.list.items ≡ found → IsNumbered 1 given.list.items given.list.next
    → GoesOn (course (record { 0 = given.list.next })) → IsOfList (course (record { 0 = given.list.next }))
    → ((item : Item) → item_in item.id.0 given.list.items ≡ Some item → Fits given.list (same item)) → Fits given.list (named_by given order same course found)
named_fits given order same course None is numbered on of_list each = takes_fit given order course (free_of order.word given.list.items is) on of_list
named_fits given order same course (Some item) is numbered on of_list each =
    same_or given.list (bytes_eq item.first_address order.address.text) item.id (same item) (each item (with_there order.word given.list.items given.list.next item numbered is))

-- what a job does fits the list
pub does_fit : (job : Job) (given : Given) → IsNumbered 1 given.list.items given.list.next → Fits given.list (does job given)
does_fit jobs.List given numbered = record { entries = tt; course = tt }
does_fit jobs.Report given numbered = record { entries = tt; course = tt }
does_fit jobs.Export given numbered = record { entries = tt; course = tt }
does_fit (jobs.Show id) given numbered = found_fits given.list id (item_in id.0 given.list.items) (λ item. ends Done (Whole item.id)) (λ item there. record { entries = tt; course = tt })
does_fit (jobs.Pause id) given numbered = found_fits given.list id (item_in id.0 given.list.items) pauses (λ item there. pauses_fit given.list item (at_its_id given.list id item there))
does_fit (jobs.Cancel id) given numbered = found_fits given.list id (item_in id.0 given.list.items) cancels (λ item there. cancels_fit given.list item (at_its_id given.list id item there))
does_fit (jobs.Remove id) given numbered = found_fits given.list id (item_in id.0 given.list.items) removes (λ item there. removes_fit given.list item (at_its_id given.list id item there))
does_fit (jobs.Resume id slices) given numbered =
    found_fits given.list id (item_in id.0 given.list.items) (asks_for slices) (λ item there. asks_fit given.list slices item (at_its_id given.list id item there))
does_fit (jobs.Add order) given numbered =
    named_fits given order (λ item. ends Done (Line item.id)) (λ id. Ends Done (Line id)) (with_word order.word given.list.items) refl numbered tt tt (λ item there. record { entries = tt; course = tt })
does_fit (jobs.Get order slices) given numbered =
    named_fits given order (goes_on slices) (λ id. Brings id slices) (with_word order.word given.list.items) refl numbered tt tt (goes_fit given.list slices)
