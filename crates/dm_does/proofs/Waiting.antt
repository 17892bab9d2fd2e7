-- The item that a job is to bring waits behind the job's own entries.
use Rattle.std.proofs.Common.{◌≡◌, ℕ, Bool, true, false, if◌then◌else◌, [], ◌∷◌, length, Option, Some, None, refl, sym, ◌∙◌, ap, subst}
use Rattle.std.specs.Prelude.{not, ◌||◌}
use Rattle.std.specs.Str.{bytes_eq}
use Rattle.std.proofs.lemmas.Bool.{and_parts, false≢true}
use Rattle.dm_types.specs.declared.entry.Entry.{Entry}
use Rattle.dm_types.specs.declared.entry.Entry.TheVariants as entries
use Rattle.dm_types.specs.declared.item.Item.{Item}
use Rattle.dm_types.specs.declared.item.ItemId.{ItemId}
use Rattle.dm_types.specs.declared.item.Phase.{Phase}
use Rattle.dm_types.specs.declared.item.Phase.TheVariants as phases
use Rattle.dm_policy.specs.Mode.{is_invalid}
use Rattle.dm_item.specs.Fields.{added_item, is_running}
use Rattle.dm_item.specs.Kept.{IsNumbered}
use Rattle.dm_item.specs.Listing.{Listing, Row, applied, item_in}
use Rattle.dm_item.specs.Row.{allows, is_cancelled, is_complete, is_paused, is_waiting, mode_of_item}
use Rattle.dm_item.specs.Words.{IsFreeWord}
use Rattle.dm_item.proofs.Applied.{item_after, item_applied}
use Rattle.dm_item.proofs.Basics.{eq_true}
use Rattle.dm_item.proofs.Undoing.{found-id}
use Rattle.dm_report.specs.declared.verdict.Verdict.{Verdict}
use Rattle.dm_report.specs.declared.verdict.Verdict.TheVariants.{Done, ItemsFull, OtherWord}
use Rattle.dm_answers.specs.Add.{added_by}
use Rattle.dm_answers.specs.declared.order.Order.{Order}
use Rattle.dm_does.specs.declared.course.Course.{Course}
use Rattle.dm_does.specs.declared.course.Course.TheVariants.{Ends, Brings}
use Rattle.dm_does.specs.declared.course.Show.{Show}
use Rattle.dm_does.specs.declared.course.Show.TheVariants.{Nothing, Line, Whole}
use Rattle.dm_does.specs.declared.job.Job.{Job}
use Rattle.dm_does.specs.declared.job.Job.TheVariants as jobs
use Rattle.dm_does.specs.Doing.{Doing, Given, asks_for, cancels, changes, does, ends, goes_on, has_room, may_ask, named_by, on_found, pauses, records, refuses, removes, with_word}
use Rattle.dm_does.specs.Laws.{NoneRuns, Waits, WaitsBy}
use Rattle.dm_does.proofs.Naming.{free_of, with_there}

abbrev WaitsBehind : Listing → Doing → Type 0
WaitsBehind list doing = WaitsBy list doing.entries doing.course

-- a change that ends the command
ends_waits : (list : Listing) (is_done may : Bool) (entry : Entry) (verdict : Verdict) (show : Show) (item : Item) → WaitsBehind list (changes is_done may entry (Ends verdict show) item)
ends_waits list true may entry verdict show item = tt
ends_waits list false true entry verdict show item = tt
ends_waits list false false entry verdict show item = tt

found_waits : (list : Listing) (id : ItemId) (found : Option Item) (with_item : Item → Doing) → ((item : Item) → found ≡ Some item → WaitsBehind list (with_item item)) → WaitsBehind list (on_found id found with_item)
found_waits list id None with_item each = tt
found_waits list id (Some item) with_item each = each item refl

waiting_is : (phase : Phase) → is_waiting phase ≡ true → phase ≡ phases.Waiting
waiting_is phases.Waiting is = refl
waiting_is phase is = absurd (false≢true is)

asked_waits : (list : Listing) (item : Item) → IsNumbered 1 list.items list.next → item_in item.id.0 list.items ≡ Some item → may_ask item ≡ true → Waits item.id (applied (entries.Asked item.id) list).items
asked_waits list item numbered there may =
    let parts = and_parts (allows (entries.Asked item.id) item.phase) (not (is_invalid (mode_of_item item))) may in
    record {
      item = record item { phase = phases.Waiting };
      there =
          item_applied (entries.Asked item.id) list item.id.0 numbered (subst (λ (found : Option Item). Row (entries.Asked item.id) list.items found) (sym there) (parts.0, parts.1)) (eq_true item.id.0)
          ∙ ap (item_after (entries.Asked item.id)) there;
      waits = refl;
    }

asks_by : (list : Listing) (slices : ℕ) (item : Item) (is_done may : Bool) → (is_done ≡ true → item.phase ≡ phases.Waiting) → (may ≡ true → Waits item.id (applied (entries.Asked item.id) list).items) → item_in item.id.0 list.items ≡ Some item
    → WaitsBehind list (changes is_done may (entries.Asked item.id) (Brings item.id slices) item)
asks_by list slices item true may done asked there = record { item = item; there = there; waits = done refl }
asks_by list slices item false true done asked there = asked refl
asks_by list slices item false false done asked there = tt

under_way : (phase : Phase) → is_running phase ≡ false → (is_waiting phase || is_running phase) ≡ true → phase ≡ phases.Waiting
under_way phases.Waiting none is = refl
under_way phases.Running none is = absurd (false≢true (sym none))
under_way phase none is = absurd (false≢true is)

asks_wait : (list : Listing) (slices : ℕ) (item : Item) → IsNumbered 1 list.items list.next → NoneRuns list.items → item_in item.id.0 list.items ≡ Some item → WaitsBehind list (asks_for slices item)
asks_wait list slices item numbered none there =
    asks_by list slices item (is_waiting item.phase || is_running item.phase) (may_ask item) (under_way item.phase (none item.id.0 item there)) (asked_waits list item numbered there) there

complete_or : (list : Listing) (test : Bool) (item : Item) (rest : Doing) → WaitsBehind list rest → WaitsBehind list (if test then ends Done (Line item.id) else rest)
complete_or list true item rest waits = tt
complete_or list false item rest waits = waits

same_or : (list : Listing) (test : Bool) (id : ItemId) (same : Doing) → WaitsBehind list same → WaitsBehind list (if test then same else refuses (OtherWord id))
same_or list true id same waits = waits
same_or list false id same waits = tt

new_or : (given : Given) (order : Order) (course : ItemId → Course) (test : Bool) → WaitsBy given.list (added_by given.list order given.at ∷ []) (course (record { 0 = given.list.next }))
    → WaitsBehind given.list (if test then records (added_by given.list order given.at) (course (record { 0 = given.list.next })) else refuses (ItemsFull (length given.list.items)))
new_or given order course true waits = waits
new_or given order course false waits = tt

added_waits : (given : Given) (order : Order) (slices : ℕ) → IsNumbered 1 given.list.items given.list.next → IsFreeWord order.word given.list.items
    → WaitsBy given.list (added_by given.list order given.at ∷ []) (Brings (record { 0 = given.list.next }) slices)
added_waits given order slices numbered free = record {
  item = added_item (record { 0 = given.list.next }) order.word order.address.text order.wish order.digest given.at;
  there = item_applied (added_by given.list order given.at) given.list given.list.next numbered (refl, free) (eq_true given.list.next);
  waits = refl;
}

named_waits : (given : Given) (order : Order) (same : Item → Doing) (course : ItemId → Course) (found : Option Item) → with_word order.word given.list.items ≡ found → IsNumbered 1 given.list.items given.list.next
    → (IsFreeWord order.word given.list.items → WaitsBy given.list (added_by given.list order given.at ∷ []) (course (record { 0 = given.list.next })))
    → ((item : Item) → item_in item.id.0 given.list.items ≡ Some item → WaitsBehind given.list (same item)) → WaitsBehind given.list (named_by given order same course found)
named_waits given order same course None is numbered new each = new_or given order course (has_room given.list) (new (free_of order.word given.list.items is))
named_waits given order same course (Some item) is numbered new each =
    same_or given.list (bytes_eq item.first_address order.address.text) item.id (same item) (each item (with_there order.word given.list.items given.list.next item numbered is))

-- the item with the id is the one with its own
at_its_id : (list : Listing) (id : ItemId) (item : Item) → item_in id.0 list.items ≡ Some item → item_in item.id.0 list.items ≡ Some item
at_its_id list id item there = subst (λ (n : ℕ). item_in n list.items ≡ Some item) (sym (found-id id.0 list.items item there)) there

pub does_wait : (job : Job) (given : Given) → IsNumbered 1 given.list.items given.list.next → NoneRuns given.list.items → WaitsBy given.list (does job given).entries (does job given).course
does_wait jobs.List given numbered none = tt
does_wait jobs.Report given numbered none = tt
does_wait jobs.Export given numbered none = tt
does_wait (jobs.Show id) given numbered none = found_waits given.list id (item_in id.0 given.list.items) (λ item. ends Done (Whole item.id)) (λ item there. tt)
does_wait (jobs.Pause id) given numbered none = found_waits given.list id (item_in id.0 given.list.items) pauses
    (λ item there. ends_waits given.list (is_paused item.phase) (allows (entries.Paused item.id) item.phase) (entries.Paused item.id) Done (Line item.id) item)
does_wait (jobs.Cancel id) given numbered none = found_waits given.list id (item_in id.0 given.list.items) cancels
    (λ item there. ends_waits given.list (is_cancelled item.phase) (allows (entries.Cancelled item.id) item.phase) (entries.Cancelled item.id) Done (Line item.id) item)
does_wait (jobs.Remove id) given numbered none = found_waits given.list id (item_in id.0 given.list.items) removes
    (λ item there. ends_waits given.list false (allows (entries.Removed item.id) item.phase) (entries.Removed item.id) Done Nothing item)
does_wait (jobs.Resume id slices) given numbered none =
    found_waits given.list id (item_in id.0 given.list.items) (asks_for slices) (λ item there. asks_wait given.list slices item numbered none (at_its_id given.list id item there))
does_wait (jobs.Add order) given numbered none =
    named_waits given order (λ item. ends Done (Line item.id)) (λ id. Ends Done (Line id)) (with_word order.word given.list.items) refl numbered (λ free. tt) (λ item there. tt)
does_wait (jobs.Get order slices) given numbered none =
    named_waits given order (goes_on slices) (λ id. Brings id slices) (with_word order.word given.list.items) refl numbered (added_waits given order slices numbered)
    (λ item there. complete_or given.list (is_complete item.phase) item (asks_for slices item) (asks_wait given.list slices item numbered none there))
