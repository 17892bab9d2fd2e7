-- A job's own part, by the answer of the desk's call.
use Rattle.std.proofs.Common.{◌≡◌, ℕ, Bool, true, false, if◌then◌else◌, ◌++◌, Option, Some, None, Result, Ok, Err, refl, sym, ◌∙◌, ap, subst, arith}
use Rattle.std.proofs.lemmas.Bool.{false≢true}
use Rattle.std.specs.Prelude.{IfSome}
use Rattle.dm_types.specs.Faults.{HasCause, NoneFell, Rose}
use Rattle.dm_types.specs.Name.{IsPart}
use Rattle.dm_types.specs.declared.entry.Entry.TheVariants as entries
use Rattle.dm_types.specs.declared.item.Item.{Item}
use Rattle.dm_types.specs.declared.item.ItemId.{ItemId}
use Rattle.dm_types.specs.declared.kinds.DiskKind.{DiskKind}
use Rattle.dm_disk_model.specs.Beside.{Besides}
use Rattle.dm_disk_model.specs.Disk.{History as Clock}
use Rattle.dm_disk_model.specs.Moments.{KeepsFiles}
use Rattle.dm_disk_model.proofs.Beside.{besides_same, besides_stay}
use Rattle.dm_item.specs.Listing.{item_in}
use Rattle.dm_item.specs.Kept.{IsNumbered}
use Rattle.dm_item.specs.Row.{is_cancelled, is_complete}
use Rattle.dm_item.proofs.Shorts.{numbered_of}
use Rattle.dm_kept.specs.Files.{Says}
use Rattle.dm_store.specs.Keeps.{IsDesk, Keeps, StaysNear}
use Rattle.dm_store.specs.Lives.{life_in}
use Rattle.dm_store.specs.View.{View}
use Rattle.dm_store.proofs.Keeping.{keeps_same}
use Rattle.dm_report.specs.declared.verdict.Verdict.TheVariants as verdicts
use Rattle.dm_answers.specs.Add.{AddAnswers, added_by}
use Rattle.dm_answers.specs.Change.{ChangeAnswers, in_no_phase, is_under_way}
use Rattle.dm_answers.specs.Faults.{desk_kind}
use Rattle.dm_answers.specs.Pause.{PauseAnswers}
use Rattle.dm_answers.specs.declared.fault.DeskFault.{DeskFault}
use Rattle.dm_answers.specs.declared.fault.DeskFault.TheVariants as faults
use Rattle.dm_answers.specs.declared.order.Order.{Order}
use Rattle.dm_answers.specs.declared.order.Taken.{Taken}
use Rattle.dm_answers.specs.declared.order.Taken.TheVariants.{New, Same}
use Rattle.dm_does.specs.declared.course.Course.{Course}
use Rattle.dm_does.specs.declared.course.Course.TheVariants.{Ends, Brings}
use Rattle.dm_does.specs.declared.course.Show.{Show}
use Rattle.dm_does.specs.declared.course.Show.TheVariants.{Nothing, Line, Lines, Whole, Counts, Records}
use Rattle.dm_does.specs.declared.job.Job.{Job}
use Rattle.dm_does.specs.declared.job.Job.TheVariants as jobs
use Rattle.dm_does.specs.Deciding.{Decides, ShowsFault, course_of, course_of_fault, course_of_order, wanted}
use Rattle.dm_does.specs.Doing.{Doing, asks_for, does, ends, goes_on, on_found}
use Rattle.dm_does.proofs.Decisions.{add_decides, at_id, cancel_decides, fault_shows, given_of, id_of_found, none_did, one_did, one_fell, remove_decides, resume_decides, word_full, word_known, word_new, word_other}
use Rattle.dm_does.proofs.Pausing.{pause_decides}
use Rattle.dm_list.specs.Working.{CallGoes}

-- A desk that is as before.

pub goes_same : {D O : Type 0} (tells : Type 0) (clock : D → Clock) (counts : D → DiskKind → ℕ) (far : D → ℕ) (says : O → Says) (desk : View D O) → CallGoes tells clock counts far says desk desk
goes_same tells clock counts far says desk = record {
  keeps = keeps_same tells clock says desk desk refl;
  beside = λ told. besides_stay IsPart (clock desk.disk) (clock desk.disk) refl;
  later = λ kind. omega arith;
  near = λ short. refl;
}

-- The item with an id, or none.

pub look_none : {D O : Type 0} (desk : View D O) (id : ItemId) (at : ℕ) → None ≡ item_in id.0 desk.items.items → Decides (does (jobs.Show id) (given_of desk at)) desk desk (Ends (verdicts.NoItem id) Nothing)
look_none desk id at none = none_did desk desk (does (jobs.Show id) (given_of desk at)) (Ends (verdicts.NoItem id) Nothing) (ap (λ (f : Option Item). on_found id f (λ item. ends verdicts.Done (Whole item.id))) (sym none)) refl

pub look_some : {D O : Type 0} (desk : View D O) (id : ItemId) (at : ℕ) (item : Item) → Some item ≡ item_in id.0 desk.items.items → Decides (does (jobs.Show id) (given_of desk at)) desk desk (Ends verdicts.Done (Whole id))
look_some desk id at item there =
    at_id desk desk (does (jobs.Show id) (given_of desk at)) (λ i. Ends verdicts.Done (Whole i)) item.id id (id_of_found id desk.items.items item (sym there))
    (none_did desk desk (does (jobs.Show id) (given_of desk at)) (Ends verdicts.Done (Whole item.id)) (ap (λ (f : Option Item). on_found id f (λ one. ends verdicts.Done (Whole one.id))) (sym there)) refl)

-- The calls that change the list.

pub add_decided : {D O : Type 0} (tells : Type 0) (clock : D → Clock) (old new : View D O) (order : Order) (at : ℕ) (answer : Result Taken DeskFault) (course : Course) → IsDesk tells clock old → old.broken ≡ false → AddAnswers old new order at answer
    → course ≡ course_of_order (λ id. Ends verdicts.Done (Line id)) (λ id. Ends verdicts.Done (Line id)) answer → Decides (does (jobs.Add order) (given_of old at)) old new course
add_decided tells clock old new order at answer course desk whole answers is =
    subst (Decides (does (jobs.Add order) (given_of old at)) old new) (sym is) (add_decides old new order at answer (numbered_of (desk.founded.before ++ old.list) old.items desk.founded.items) whole answers)

pub pause_decided : {D O : Type 0} (counts : D → DiskKind → ℕ) (old new : View D O) (id : ItemId) (at : ℕ) (answer : Result (Unit {0}) DeskFault) (course : Course) → old.broken ≡ false → life_in id.0 old.lives ≡ None → PauseAnswers counts old new id answer
    → course ≡ course_of (Ends verdicts.Done (Line id)) answer → Decides (does (jobs.Pause id) (given_of old at)) old new course
pause_decided counts old new id at answer course whole none answers is = subst (Decides (does (jobs.Pause id) (given_of old at)) old new) (sym is) (pause_decides counts old new id at answer whole none answers)

pub cancel_decided : {D O : Type 0} (old new : View D O) (id : ItemId) (at : ℕ) (answer : Result (Unit {0}) DeskFault) (course : Course) → old.broken ≡ false → ChangeAnswers is_cancelled (entries.Cancelled id) id old new answer
    → course ≡ course_of (Ends verdicts.Done (Line id)) answer → Decides (does (jobs.Cancel id) (given_of old at)) old new course
cancel_decided old new id at answer course whole answers is = subst (Decides (does (jobs.Cancel id) (given_of old at)) old new) (sym is) (cancel_decides old new id at answer whole answers)

pub remove_decided : {D O : Type 0} (old new : View D O) (id : ItemId) (at : ℕ) (answer : Result (Unit {0}) DeskFault) (course : Course) → old.broken ≡ false → ChangeAnswers in_no_phase (entries.Removed id) id old new answer
    → course ≡ course_of (Ends verdicts.Done Nothing) answer → Decides (does (jobs.Remove id) (given_of old at)) old new course
remove_decided old new id at answer course whole answers is = subst (Decides (does (jobs.Remove id) (given_of old at)) old new) (sym is) (remove_decides old new id at answer whole answers)

pub list_decided : {D O : Type 0} (desk : View D O) (at : ℕ) → Decides (does jobs.List (given_of desk at)) desk desk (Ends verdicts.Done Lines)
list_decided desk at = none_did desk desk (does jobs.List (given_of desk at)) (Ends verdicts.Done Lines) refl refl

pub report_decided : {D O : Type 0} (desk : View D O) (at : ℕ) → Decides (does jobs.Report (given_of desk at)) desk desk (Ends verdicts.Done Counts)
report_decided desk at = none_did desk desk (does jobs.Report (given_of desk at)) (Ends verdicts.Done Counts) refl refl

pub export_decided : {D O : Type 0} (desk : View D O) (at : ℕ) → Decides (does jobs.Export (given_of desk at)) desk desk (Ends verdicts.Done Records)
export_decided desk at = none_did desk desk (does jobs.Export (given_of desk at)) (Ends verdicts.Done Records) refl refl

pub resume_decided : {D O : Type 0} (old new : View D O) (id : ItemId) (slices at : ℕ) (answer : Result (Unit {0}) DeskFault) (course : Course) → old.broken ≡ false → ChangeAnswers is_under_way (entries.Asked id) id old new answer
    → course ≡ course_of (Brings id slices) answer → Decides (does (jobs.Resume id slices) (given_of old at)) old new course
resume_decided old new id slices at answer course whole answers is = subst (Decides (does (jobs.Resume id slices) (given_of old at)) old new) (sym is) (resume_decides old new id slices at answer whole answers)

-- An item that is gone on with: a complete one is shown, and every other one is asked for.

going_is : (slices : ℕ) (item : Item) (complete : Bool) → is_complete item.phase ≡ complete → goes_on slices item ≡ (if complete then ends verdicts.Done (Line item.id) else asks_for slices item)
going_is slices item complete is = ap (λ (b : Bool). if b then ends verdicts.Done (Line item.id) else asks_for slices item) is

pub shown_decided : {D O : Type 0} (desk : View D O) (id : ItemId) (slices : ℕ) (item : Item) → item_in id.0 desk.items.items ≡ Some item → is_complete item.phase ≡ true → Decides (goes_on slices item) desk desk (Ends verdicts.Done (Line id))
shown_decided desk id slices item there is =
    at_id desk desk (goes_on slices item) (λ i. Ends verdicts.Done (Line i)) item.id id (id_of_found id desk.items.items item there)
    (none_did desk desk (goes_on slices item) (Ends verdicts.Done (Line item.id)) (going_is slices item true is) refl)

pub asked_decided : {D O : Type 0} (old new : View D O) (id : ItemId) (slices at : ℕ) (item : Item) (course : Course) → item_in id.0 old.items.items ≡ Some item → is_complete item.phase ≡ false
    → Decides (does (jobs.Resume id slices) (given_of old at)) old new course → Decides (goes_on slices item) old new course
asked_decided old new id slices at item course there is decides =
    subst (λ (d : Doing). Decides d old new course) (ap (λ (f : Option Item). on_found id f (asks_for slices)) there ∙ sym (going_is slices item false is)) decides

-- An order that is brought: a new item, one that is there, or a refusal.

pub new_decided : {D O : Type 0} (old new : View D O) (order : Order) (slices at : ℕ) (id : ItemId) → AddAnswers old new order at (Ok (New id)) → Decides (does (jobs.Get order slices) (given_of old at)) old new (Brings id slices)
new_decided old new order slices at id (id_is, fits, recorded) =
    at_id old new (does (jobs.Get order slices) (given_of old at)) (λ i. Brings i slices) (record { 0 = old.items.next }) id (ap (λ (n : ℕ). (let made : ItemId = record { 0 = n } in made)) (sym id_is))
    (one_did old new (does (jobs.Get order slices) (given_of old at)) (added_by old.items order at) (Brings (record { 0 = old.items.next }) slices)
    (word_new (given_of old at) order (goes_on slices) (λ i. Brings i slices) fits) recorded)

pub known_decided : {D O : Type 0} (tells : Type 0) (clock : D → Clock) (old amid new : View D O) (order : Order) (slices at : ℕ) (id : ItemId) (course : Course) → IsDesk tells clock old → AddAnswers old amid order at (Ok (Same id))
    → ((item : Item) → item_in id.0 amid.items.items ≡ Some item → Decides (goes_on slices item) amid new course) → Decides (does (jobs.Get order slices) (given_of old at)) old new course
known_decided {D} {O} tells clock old amid new order slices at id course desk answers decides =
    let known = answers.cause in
    subst (λ (d : Doing). Decides d old new course)
    (sym (word_known (given_of old at) order (goes_on slices) (λ i. Brings i slices) id (numbered_of (desk.founded.before ++ old.list) old.items desk.founded.items) known))
    (subst (λ (v : View D O). Decides (goes_on slices known.item) v new course) answers.same
    (decides known.item (subst (λ (v : View D O). item_in id.0 v.items.items ≡ Some known.item) (sym answers.same) known.there)))

refused_get : {D O : Type 0} (old new : View D O) (order : Order) (slices at : ℕ) (fault : DeskFault) → IsNumbered 1 old.items.items old.items.next → old.broken ≡ false → AddAnswers old new order at (Err fault)
    → Decides (does (jobs.Get order slices) (given_of old at)) old new (course_of_fault fault)
refused_get old new order slices at faults.Broken numbered whole answers = absurd (false≢true (sym whole ∙ answers.broken))
refused_get old new order slices at (faults.WordTaken id) numbered whole answers =
    none_did old new (does (jobs.Get order slices) (given_of old at)) (Ends (verdicts.OtherWord id) Nothing) (word_other (given_of old at) order (goes_on slices) (λ i. Brings i slices) id numbered answers.cause) answers.same
refused_get old new order slices at (faults.ItemsFull count) numbered whole answers =
    none_did old new (does (jobs.Get order slices) (given_of old at)) (Ends (verdicts.ItemsFull count) Nothing) (word_full (given_of old at) order (goes_on slices) (λ i. Brings i slices) count answers.cause) answers.same
refused_get old new order slices at faults.NoMemory numbered whole answers = wanted answers.same refl
refused_get old new order slices at (faults.Journal kind) numbered whole (fits, failed) =
    one_fell old new (does (jobs.Get order slices) (given_of old at)) (added_by old.items order at) (Brings (record { 0 = old.items.next }) slices) kind (word_new (given_of old at) order (goes_on slices) (λ i. Brings i slices) fits) failed
refused_get old new order slices at fault numbered whole answers = absurd answers

pub refused_decided : {D O : Type 0} (tells : Type 0) (clock : D → Clock) (old new : View D O) (order : Order) (slices at : ℕ) (fault : DeskFault) (course : Course) → IsDesk tells clock old → old.broken ≡ false
    → AddAnswers old new order at (Err fault) → course ≡ course_of_fault fault → Decides (does (jobs.Get order slices) (given_of old at)) old new course
refused_decided tells clock old new order slices at fault course desk whole answers is =
    subst (Decides (does (jobs.Get order slices) (given_of old at)) old new) (sym is)
    (refused_get old new order slices at fault (numbered_of (desk.founded.before ++ old.list) old.items desk.founded.items) whole answers)

-- what such a job does
pub for_job : {D O : Type 0} (old new : View D O) (at : ℕ) (job other : Job) (course : Course) → job ≡ other → Decides (does other (given_of old at)) old new course → Decides (does job (given_of old at)) old new course
for_job old new at job other course is decides = subst (λ (j : Job). Decides (does j (given_of old at)) old new course) (sym is) decides

-- Where the course is that the disk failed, the call said so.

pub change_shows : (before after : DiskKind → ℕ) (show : Show) (answer : Result (Unit {0}) DeskFault) (course : Course) → course ≡ course_of (Ends verdicts.Done show) answer → HasCause desk_kind before after answer → ShowsFault before after course
change_shows before after show (Ok done) course is cause = subst (ShowsFault before after) (sym is) tt
change_shows before after show (Err fault) course is cause = subst (ShowsFault before after) (sym is) (fault_shows before after fault cause.cause)

pub resume_shows : (before after : DiskKind → ℕ) (id : ItemId) (slices : ℕ) (answer : Result (Unit {0}) DeskFault) (course : Course) → course ≡ course_of (Brings id slices) answer → HasCause desk_kind before after answer
    → ShowsFault before after course
resume_shows before after id slices (Ok done) course is cause = subst (ShowsFault before after) (sym is) tt
resume_shows before after id slices (Err fault) course is cause = subst (ShowsFault before after) (sym is) (fault_shows before after fault cause.cause)

pub get_shows : (before after : DiskKind → ℕ) (fault : DeskFault) (course : Course) → course ≡ course_of_fault fault → IfSome (desk_kind fault) (λ kind. Rose (before kind) (after kind)) → ShowsFault before after course
get_shows before after fault course is cause = subst (ShowsFault before after) (sym is) (fault_shows before after fault cause)

pub add_shows : (before after : DiskKind → ℕ) (answer : Result Taken DeskFault) (course : Course) → course ≡ course_of_order (λ id. Ends verdicts.Done (Line id)) (λ id. Ends verdicts.Done (Line id)) answer → HasCause desk_kind before after answer
    → ShowsFault before after course
add_shows before after (Ok (New id)) course is cause = subst (ShowsFault before after) (sym is) tt
add_shows before after (Ok (Same id)) course is cause = subst (ShowsFault before after) (sym is) tt
add_shows before after (Err fault) course is cause = subst (ShowsFault before after) (sym is) (fault_shows before after fault cause.cause)

-- what the calls keep that touch no file of the user's
pub goes_still : {D O : Type 0} (tells : Type 0) (clock : D → Clock) (counts : D → DiskKind → ℕ) (far : D → ℕ) (says : O → Says) (old new : View D O) → Keeps tells clock says old new → (tells → KeepsFiles (clock old.disk) (clock new.disk))
    → NoneFell (counts old.disk) (counts new.disk) → StaysNear (far old.disk) (far new.disk) old new → CallGoes tells clock counts far says old new
goes_still tells clock counts far says old new keeps files later near = record {
  keeps = keeps;
  beside = λ told. besides_same IsPart (clock old.disk) (clock new.disk) (files told);
  later = later;
  near = near;
}

-- the same where parts are written
pub goes_parts : {D O : Type 0} (tells : Type 0) (clock : D → Clock) (counts : D → DiskKind → ℕ) (far : D → ℕ) (says : O → Says) (old new : View D O) → Keeps tells clock says old new → (tells → Besides IsPart (clock old.disk) (clock new.disk))
    → NoneFell (counts old.disk) (counts new.disk) → StaysNear (far old.disk) (far new.disk) old new → CallGoes tells clock counts far says old new
goes_parts tells clock counts far says old new keeps beside later near = record { keeps = keeps; beside = beside; later = later; near = near }

-- What starts at a desk that is as before starts there.

pub whole_from : {D O : Type 0} (old amid : View D O) → amid ≡ old → old.broken ≡ false → amid.broken ≡ false
whole_from {D} {O} old amid same whole = ap (λ (v : View D O). v.broken) same ∙ whole

pub goes_from : {D O : Type 0} (tells : Type 0) (clock : D → Clock) (counts : D → DiskKind → ℕ) (far : D → ℕ) (says : O → Says) (old amid new : View D O) → amid ≡ old → CallGoes tells clock counts far says amid new
    → CallGoes tells clock counts far says old new
goes_from {D} {O} tells clock counts far says old amid new same goes = subst (λ (v : View D O). CallGoes tells clock counts far says v new) same goes

pub shows_from : {D O : Type 0} (counts : D → DiskKind → ℕ) (old amid new : View D O) (course : Course) → amid ≡ old → ShowsFault (counts amid.disk) (counts new.disk) course → ShowsFault (counts old.disk) (counts new.disk) course
shows_from {D} {O} counts old amid new course same shows = subst (λ (v : View D O). ShowsFault (counts v.disk) (counts new.disk) course) same shows
