-- What a job's own part and the removal of parts make of a desk, and what calls keep one behind another.
use Rattle.std.proofs.Common.{◌≡◌, ◌⊎◌, inl, inr, ℕ, Bool, true, false, ◌||◌, if◌then◌else◌, List, [], ◌++◌, Option, Some, None, Result, Ok, Err, refl, sym, ◌∙◌, ap, subst, arith}
use Rattle.std.specs.Str.{bytes_eq}
use Rattle.std.proofs.lemmas.Bool.{false≢true}
use Rattle.std.proofs.lemmas.List.{append-nil}
use Rattle.dm_types.specs.Faults.{NoneFell}
use Rattle.dm_types.specs.Name.{IsPart}
use Rattle.dm_types.specs.declared.entry.Entry.{Entry}
use Rattle.dm_types.specs.declared.entry.Entry.TheVariants as entries
use Rattle.dm_types.specs.declared.item.Item.{Item}
use Rattle.dm_types.specs.declared.item.ItemId.{ItemId}
use Rattle.dm_types.specs.declared.kinds.DiskKind.{DiskKind}
use Rattle.dm_disk_model.specs.Beside.{Besides}
use Rattle.dm_disk_model.specs.Disk.{History as Clock}
use Rattle.dm_disk_model.proofs.Beside.{besides_more}
use Rattle.dm_item.specs.Fields.{is_running}
use Rattle.dm_item.specs.Lawful.{History}
use Rattle.dm_item.specs.Listing.{Listing, item_in}
use Rattle.dm_item.specs.Row.{allows, is_cancelled, is_complete, is_paused, is_waiting}
use Rattle.dm_kept.specs.Files.{Says}
use Rattle.dm_store.specs.Keeps.{IsDesk, Keeps, StaysNear}
use Rattle.dm_store.specs.View.{View}
use Rattle.dm_store.proofs.Composing.{lawful_none}
use Rattle.dm_answers.specs.Frame.{Went}
use Rattle.dm_answers.specs.Sweep.{IsLeftover, SweepAnswers}
use Rattle.dm_answers.specs.declared.fault.DeskFault.{DeskFault}
use Rattle.dm_answers.specs.declared.fault.DeskFault.TheVariants as faults
use Rattle.dm_answers.specs.declared.order.Order.{Order}
use Rattle.dm_report.specs.declared.verdict.Verdict.TheVariants as verdicts
use Rattle.dm_answers.proofs.Steps.{becomes_went}
use Rattle.dm_attempt.specs.Goes.{DeskGoes}
use Rattle.dm_attempt.proofs.Goes.{call_more, goes_then}
use Rattle.dm_bring.specs.Bringing.{MayBring}
use Rattle.dm_does.specs.declared.course.Course.{Course}
use Rattle.dm_does.specs.declared.course.Course.TheVariants.{Ends, Brings}
use Rattle.dm_does.specs.declared.course.Show.TheVariants.{Nothing, Line, Whole}
use Rattle.dm_does.specs.declared.job.Job.{Job}
use Rattle.dm_does.specs.declared.job.Job.TheVariants as jobs
use Rattle.dm_does.specs.Deciding.{Decides, Did, did, fell, wanted}
use Rattle.dm_does.specs.Doing.{Doing, Given, asks_for, cancels, changes, does, ends, goes_on, has_room, may_ask, named_by, on_found, pauses, removes, with_word}
use Rattle.dm_does.proofs.Decisions.{given_of}
use Rattle.dm_list.specs.Reading.{AreSlices, FitsJob}
use Rattle.dm_list.specs.Working.{CallGoes}

-- few parts at once are asked for
abbrev CountsFew : Course → Type 0
CountsFew (Ends verdict show) = Unit {0}
CountsFew (Brings id slices) = AreSlices slices

-- nothing changed but the disk
pub went_none : {D O : Type 0} (desk : View D O) (disk : D) → desk.broken ≡ false → desk.failed ≡ [] → Went desk (record desk { disk = disk }) [] [] false
went_none desk disk whole none = record {
  whole = whole;
  items_are = refl;
  list_is = sym (append-nil desk.list);
  lawful = lawful_none desk.items;
  gate_is = omega arith;
  failed_is = none;
  may = tt;
  broken_is = whole;
  origin = refl;
  limits = refl;
}

-- A sweep.

pub swept_went : {D O : Type 0} (tells : Type 0) (clock : D → Clock) (old new : View D O) (result : Result (Unit {0}) DeskFault) → IsDesk tells clock old → SweepAnswers tells clock old new result → old.broken ≡ false → Went old new [] [] false
swept_went tells clock old new (Ok done) desk answers whole = becomes_went old new [] [] false answers.0
swept_went tells clock old new (Err faults.Broken) desk answers whole = absurd (false≢true (sym whole ∙ answers.broken))
swept_went tells clock old new (Err faults.NoMemory) desk answers whole = subst (λ (v : View _ _). Went old v [] [] false) (sym answers.same) (went_none old new.disk whole (desk.failed whole))
swept_went tells clock old new (Err (faults.File kind)) desk answers whole = becomes_went old new [] [] false answers
swept_went tells clock old new (Err fault) desk answers whole = absurd answers

pub swept_broken : {D O : Type 0} (tells : Type 0) (clock : D → Clock) (old new : View D O) (result : Result (Unit {0}) DeskFault) → SweepAnswers tells clock old new result → old.broken ≡ true → new ≡ old
swept_broken tells clock old new (Ok done) answers broken = absurd (false≢true (sym answers.0.whole ∙ broken))
swept_broken tells clock old new (Err faults.Broken) answers broken = answers.same
swept_broken tells clock old new (Err faults.NoMemory) answers broken = absurd (false≢true (sym answers.whole ∙ broken))
swept_broken tells clock old new (Err (faults.File kind)) answers broken = absurd (false≢true (sym answers.whole ∙ broken))
swept_broken tells clock old new (Err fault) answers broken = absurd answers

leftover_part : (items : Listing) (name : List ℕ) → IsLeftover items name → IsPart name
leftover_part items name is = record { id = is.id; epoch = is.epoch; small = is.small; is = is.is }

pub swept_goes : {D O : Type 0} (tells : Type 0) (clock : D → Clock) (counts : D → DiskKind → ℕ) (far : D → ℕ) (says : O → Says) (old new : View D O) → Keeps tells clock says old new
    → (tells → Besides (IsLeftover old.items) (clock old.disk) (clock new.disk)) → NoneFell (counts old.disk) (counts new.disk) → StaysNear (far old.disk) (far new.disk) old new → CallGoes tells clock counts far says old new
swept_goes tells clock counts far says old new keeps beside later near = record {
  keeps = keeps;
  beside = λ told. besides_more (IsLeftover old.items) IsPart (clock old.disk) (clock new.disk) (leftover_part old.items) (beside told);
  later = later;
  near = near;
}

-- A job's own part.

pub did_went : {D O : Type 0} (doing : Doing) (old new : View D O) → old.broken ≡ false → old.failed ≡ [] → Did doing old new → Went old new doing.entries [] false
did_went doing old new whole none (inl recorded) = becomes_went old new doing.entries [] false recorded
did_went doing old new whole none (inr (empty, same)) = subst (λ (h : History). Went old new h [] false) (sym empty) (subst (λ (v : View _ _). Went old v [] [] false) (sym same) (went_none old old.disk whole none))

pub decided_origin : {D O : Type 0} (doing : Doing) (old new : View D O) (course : Course) → Decides doing old new course → new.origin ≡ old.origin
decided_origin doing old new course (did (inl recorded) is) = recorded.origin
decided_origin doing old new course (did (inr (empty, same)) is) = ap (λ (v : View _ _). v.origin) same
decided_origin doing old new course (fell kind failed is) = failed.becomes.origin
decided_origin doing old new course (wanted same is) = ap (λ (v : View _ _). v.origin) same

-- What it decides to bring may be brought.

changes_count : (is_done may : Bool) (entry : Entry) (course : Course) (item : Item) → CountsFew course → CountsFew (changes is_done may entry course item).course
changes_count true may entry course item few = few
changes_count false true entry course item few = few
changes_count false false entry course item few = tt

found_count : (id : ItemId) (found : Option Item) (with_item : Item → Doing) → ((item : Item) → CountsFew (with_item item).course) → CountsFew (on_found id found with_item).course
found_count id None with_item each = tt
found_count id (Some item) with_item each = each item

either_count : (test : Bool) (one other : Doing) → CountsFew one.course → CountsFew other.course → CountsFew (if test then one else other).course
either_count true one other first second = first
either_count false one other first second = second

named_count : (given : Given) (order : Order) (same : Item → Doing) (course : ItemId → Course) (found : Option Item) → ((item : Item) → CountsFew (same item).course) → ((id : ItemId) → CountsFew (course id)) → CountsFew (named_by given order same course found).course
named_count given order same course None each new = either_count (has_room given.list) _ _ (new (record { 0 = given.list.next })) tt
named_count given order same course (Some item) each new = either_count (bytes_eq item.first_address order.address.text) _ _ (each item) tt

asks_count : (slices : ℕ) (item : Item) → AreSlices slices → CountsFew (asks_for slices item).course
asks_count slices item few = changes_count (is_waiting item.phase || is_running item.phase) (may_ask item) (entries.Asked item.id) (Brings item.id slices) item few

job_count : (job : Job) (given : Given) → FitsJob job → CountsFew (does job given).course
job_count jobs.List given fits = tt
job_count jobs.Report given fits = tt
job_count jobs.Export given fits = tt
job_count (jobs.Show id) given fits = found_count id (item_in id.0 given.list.items) (λ item. ends verdicts.Done (Whole item.id)) (λ item. tt)
job_count (jobs.Pause id) given fits =
    found_count id (item_in id.0 given.list.items) pauses (λ item. changes_count (is_paused item.phase) (allows (entries.Paused item.id) item.phase) (entries.Paused item.id) (Ends verdicts.Done (Line item.id)) item tt)
job_count (jobs.Cancel id) given fits =
    found_count id (item_in id.0 given.list.items) cancels (λ item. changes_count (is_cancelled item.phase) (allows (entries.Cancelled item.id) item.phase) (entries.Cancelled item.id) (Ends verdicts.Done (Line item.id)) item tt)
job_count (jobs.Remove id) given fits = found_count id (item_in id.0 given.list.items) removes (λ item. changes_count false (allows (entries.Removed item.id) item.phase) (entries.Removed item.id) (Ends verdicts.Done Nothing) item tt)
job_count (jobs.Resume id slices) given fits = found_count id (item_in id.0 given.list.items) (asks_for slices) (λ item. asks_count slices item fits)
job_count (jobs.Add order) given fits = named_count given order (λ item. ends verdicts.Done (Line item.id)) (λ id. Ends verdicts.Done (Line id)) (with_word order.word given.list.items) (λ item. tt) (λ id. tt)
job_count (jobs.Get order slices) given fits =
    named_count given order (goes_on slices) (λ id. Brings id slices) (with_word order.word given.list.items)
    (λ item. either_count (is_complete item.phase) (ends verdicts.Done (Line item.id)) (asks_for slices item) tt (asks_count slices item fits.1)) (λ id. fits.1)

may_bring : {D O : Type 0} (desk : View D O) (course : Course) → desk.broken ≡ false → CountsFew course → MayBring desk course
may_bring desk (Ends verdict show) whole few = tt
may_bring desk (Brings id slices) whole few = (whole, few.some, few.few)

did_whole : {D O : Type 0} (doing : Doing) (old new : View D O) → old.broken ≡ false → Did doing old new → new.broken ≡ false
did_whole doing old new whole (inl recorded) = recorded.broken_is
did_whole doing old new whole (inr (empty, same)) = ap (λ (v : View _ _). v.broken) same ∙ whole

pub decided_may : {D O : Type 0} (job : Job) (at : ℕ) (old new : View D O) (course : Course) → FitsJob job → old.broken ≡ false → Decides (does job (given_of old at)) old new course → MayBring new course
decided_may job at old new course fits whole (did there is) =
    subst (MayBring new) (sym is) (may_bring new (does job (given_of old at)).course (did_whole (does job (given_of old at)) old new whole there) (job_count job (given_of old at) fits))
decided_may job at old new course fits whole (fell kind failed is) = subst (MayBring new) (sym is) tt
decided_may job at old new course fits whole (wanted same is) = subst (MayBring new) (sym is) tt

-- One behind another, where names of parts are spared.
module _ {D O : Type 0} (tells : Type 0) (clock : D → Clock) (counts : D → DiskKind → ℕ) (far : D → ℕ) (says : O → Says) (spared : List ℕ → Type 0) (parts : (name : List ℕ) → IsPart name → spared name) where
  pub goes_one : (old new : View D O) (recorded failed : History) (broken : Bool) → Went old new recorded failed broken → CallGoes tells clock counts far says old new → DeskGoes tells clock says far counts spared old new recorded failed broken
  goes_one old new recorded failed broken went goes = record {
    went = went;
    keeps = goes.keeps;
    near = goes.near;
    later = goes.later;
    beside = λ told. besides_more IsPart spared (clock old.disk) (clock new.disk) parts (goes.beside told);
  }

  -- and then parts are removed
  pub goes_swept : (old mid new : View D O) (recorded failed : History) (broken : Bool) → DeskGoes tells clock says far counts spared old mid recorded failed broken → (mid.broken ≡ false → mid.failed ≡ []) → (mid.broken ≡ false → Went mid new [] [] false)
      → (mid.broken ≡ true → new ≡ mid) → CallGoes tells clock counts far says mid new → DeskGoes tells clock says far counts spared old new recorded failed broken
  goes_swept old mid new recorded failed true goes unfailed went stays call = subst (λ (v : View D O). DeskGoes tells clock says far counts spared old v recorded failed true) (sym (stays goes.went.broken_is)) goes
  goes_swept old mid new recorded failed false goes unfailed went stays call =
      let none : failed ≡ [] = sym goes.went.failed_is ∙ unfailed goes.went.broken_is in
      subst (λ (h : History). DeskGoes tells clock says far counts spared old new recorded h false) (sym none)
      (subst (λ (h : History). DeskGoes tells clock says far counts spared old new h [] false) (append-nil recorded)
      (goes_then tells clock says far counts spared old mid new recorded [] [] false (subst (λ (h : History). DeskGoes tells clock says far counts spared old mid recorded h false) none goes) (went goes.went.broken_is)
      (call_more tells clock says far counts IsPart spared parts mid new call)))
