-- What a desk's call answers is what the job does.
use Rattle.std.proofs.Common.{◌≡◌, inl, inr, ℕ, Bool, true, false, [], ◌++◌, Option, Some, None, Result, Ok, Err, refl, sym, ◌∙◌, ap, subst}
use Rattle.std.proofs.lemmas.Bool.{false≢true}
use Rattle.std.proofs.lemmas.List.{append-nil}
use Rattle.dm_types.specs.Faults.{HasCause}
use Rattle.dm_types.specs.declared.entry.Entry.{Entry}
use Rattle.dm_types.specs.declared.entry.Entry.TheVariants as entries
use Rattle.dm_types.specs.declared.item.Item.{Item}
use Rattle.dm_types.specs.declared.item.ItemId.{ItemId}
use Rattle.dm_types.specs.declared.item.Phase.{Phase}
use Rattle.dm_types.specs.declared.kinds.DiskKind.{DiskKind}
use Rattle.dm_disk_model.specs.Disk.{History as Clock}
use Rattle.dm_item.specs.Lawful.{History}
use Rattle.dm_item.specs.Listing.{item_in}
use Rattle.dm_item.specs.Row.{is_cancelled}
use Rattle.dm_item.proofs.Shorts.{numbered_of}
use Rattle.dm_report.specs.declared.verdict.Verdict.TheVariants as verdicts
use Rattle.dm_store.specs.Becomes.{Recorded}
use Rattle.dm_store.specs.Keeps.{IsDesk}
use Rattle.dm_store.specs.View.{View}
use Rattle.dm_store.proofs.Composing.{becomes_then}
use Rattle.dm_answers.specs.Add.{AddAnswers}
use Rattle.dm_answers.specs.Change.{ChangeAnswers, in_no_phase, is_under_way}
use Rattle.dm_answers.specs.Faults.{desk_kind}
use Rattle.dm_answers.specs.Frame.{IsBroken}
use Rattle.dm_answers.specs.declared.fault.DeskFault.{DeskFault}
use Rattle.dm_answers.specs.declared.fault.DeskFault.TheVariants as faults
use Rattle.dm_answers.specs.declared.order.Order.{Order}
use Rattle.dm_answers.specs.declared.order.Taken.{Taken}
use Rattle.dm_answers.specs.declared.order.Taken.TheVariants.{New, Same}
use Rattle.dm_does.specs.declared.course.Course.{Course}
use Rattle.dm_does.specs.declared.course.Course.TheVariants.{Ends, Brings}
use Rattle.dm_does.specs.declared.course.Show.{Show}
use Rattle.dm_does.specs.declared.course.Show.TheVariants.{Nothing, Line, Lines, Whole}
use Rattle.dm_does.specs.declared.job.Job.{Job}
use Rattle.dm_does.specs.declared.job.Job.TheVariants as jobs
use Rattle.dm_does.specs.Deciding.{Decides, ShowsFault, course_of, course_of_order, did, fell, wanted}
use Rattle.dm_does.specs.Doing.{Doing, does, ends, on_found}
use Rattle.dm_does.proofs.Decisions.{add_decides, at_id, cancel_decides, fault_shows, given_of, id_of_found, none_did, remove_decides, resume_decides}
use Rattle.dm_works.specs.Courses.{course_by, course_by_order}
use Rattle.dm_service.specs.Api.{does_now, is_change}
use Rattle.dm_works.specs.Deciding.{DecidesNow, DidAll, Settles, seen_of}
use Rattle.dm_works.specs.Deciding as deciding
use Rattle.dm_works.specs.declared.deciding.Broken.{Broken}

-- a course that is no failure of the disk
abbrev pub IsGood : Course → Type 0
IsGood (Ends (verdicts.DiskFailed kind) show) = ⊥
IsGood _ = Unit {0}

good_shows : (before after : DiskKind → ℕ) (course : Course) → IsGood course → ShowsFault before after course
good_shows before after (Ends (verdicts.DiskFailed kind) show) good = absurd good
good_shows before after (Ends verdict show) good = tt
good_shows before after (Brings id slices) good = tt

change_shows : (before after : DiskKind → ℕ) (course : Course) (answer : Result (Unit {0}) DeskFault) → IsGood course → HasCause desk_kind before after answer → ShowsFault before after (course_of course answer)
change_shows before after course (Ok done) good cause = good_shows before after course good
change_shows before after course (Err fault) good cause = fault_shows before after fault cause.cause

order_shows : (before after : DiskKind → ℕ) (answer : Result Taken DeskFault) → HasCause desk_kind before after answer → ShowsFault before after (course_of_order (λ id. Ends verdicts.Done (Line id)) (λ id. Ends verdicts.Done (Line id)) answer)
order_shows before after (Ok (New id)) cause = tt
order_shows before after (Ok (Same id)) cause = tt
order_shows before after (Err fault) cause = fault_shows before after fault cause.cause

module _ {D O : Type 0} (counts : D → DiskKind → ℕ) (doing : Doing) (old new : View D O) where
  pub settled : (course : Course) → Decides doing old new course → ShowsFault (counts old.disk) (counts new.disk) course → Settles counts doing old new course
  settled course (did there is) shows = deciding.did there is
  settled course (fell kind failed is) shows = deciding.fell kind (subst (ShowsFault (counts old.disk) (counts new.disk)) is shows) (inl failed) is
  settled course (wanted same is) shows = deciding.wanted same is

  pub decided : (course : Course) → old.broken ≡ false → Settles counts doing old new course → DecidesNow counts true doing old new (Ok course)
  decided course whole settles = record { whole = λ changes. whole; settles = settles }

  pub refused : IsBroken old new → DecidesNow counts true doing old new (Err (record {}))
  refused broken = record { changes_is = refl; broken = broken }

  -- on a list that isn't broken it settles, and a broken one answers that
  pub change_now : (is_done : Phase → Bool) (entry : Entry) (id : ItemId) (course : Course) (answer : Result (Unit {0}) DeskFault) → ChangeAnswers is_done entry id old new answer → (old.broken ≡ false → Settles counts doing old new (course_of course answer))
      → DecidesNow counts true doing old new (course_by course answer)
  change_now is_done entry id course (Ok done) (inl same) settles = decided course same.whole (settles same.whole)
  change_now is_done entry id course (Ok done) (inr (due, becomes)) settles = decided course becomes.whole (settles becomes.whole)
  change_now is_done entry id course (Err faults.Broken) answers settles = refused answers
  change_now is_done entry id course (Err (faults.NoItem other)) answers settles = decided _ answers.whole (settles answers.whole)
  change_now is_done entry id course (Err (faults.WrongState phase)) answers settles = decided _ answers.whole (settles answers.whole)
  change_now is_done entry id course (Err faults.NoMemory) answers settles = decided _ answers.whole (settles answers.whole)
  change_now is_done entry id course (Err (faults.Journal kind)) (due, failed) settles = decided _ failed.becomes.whole (settles failed.becomes.whole)
  change_now is_done entry id course (Err fault) answers settles = absurd answers

  order_now : (order : Order) (at : ℕ) (answer : Result Taken DeskFault) → AddAnswers old new order at answer → (old.broken ≡ false → Settles counts doing old new (course_of_order (λ id. Ends verdicts.Done (Line id)) (λ id. Ends verdicts.Done (Line id)) answer))
      → DecidesNow counts true doing old new (course_by_order answer)
  order_now order at (Ok (New id)) (id_is, fits, becomes) settles = decided _ becomes.whole (settles becomes.whole)
  order_now order at (Ok (Same id)) answers settles = decided _ answers.whole (settles answers.whole)
  order_now order at (Err faults.Broken) answers settles = refused answers
  order_now order at (Err (faults.WordTaken id)) answers settles = decided _ answers.whole (settles answers.whole)
  order_now order at (Err (faults.ItemsFull count)) answers settles = decided _ answers.whole (settles answers.whole)
  order_now order at (Err faults.NoMemory) answers settles = decided _ answers.whole (settles answers.whole)
  order_now order at (Err (faults.Journal kind)) (fits, failed) settles = decided _ failed.becomes.whole (settles failed.becomes.whole)
  order_now order at (Err fault) answers settles = absurd answers

-- The calls.

module _ {D O : Type 0} (tells : Type 0) (clock : D → Clock) (counts : D → DiskKind → ℕ) (old new : View D O) (at : ℕ) where
  pub add_now : (order : Order) (answer : Result Taken DeskFault) → IsDesk tells clock old → AddAnswers old new order at answer → HasCause desk_kind (counts old.disk) (counts new.disk) answer
      → DecidesNow counts true (does (jobs.Add order) (given_of old at)) old new (course_by_order answer)
  add_now order answer desk answers cause =
      order_now counts (does (jobs.Add order) (given_of old at)) old new order at answer answers
      (λ whole. settled counts (does (jobs.Add order) (given_of old at)) old new (course_of_order (λ id. Ends verdicts.Done (Line id)) (λ id. Ends verdicts.Done (Line id)) answer)
      (add_decides old new order at answer (numbered_of (desk.founded.before ++ old.list) old.items desk.founded.items) whole answers)
      (order_shows (counts old.disk) (counts new.disk) answer cause))

  pub cancel_now : (id : ItemId) (answer : Result (Unit {0}) DeskFault) → ChangeAnswers is_cancelled (entries.Cancelled id) id old new answer → HasCause desk_kind (counts old.disk) (counts new.disk) answer
      → DecidesNow counts true (does (jobs.Cancel id) (given_of old at)) old new (course_by (Ends verdicts.Done (Line id)) answer)
  cancel_now id answer answers cause =
      change_now counts (does (jobs.Cancel id) (given_of old at)) old new is_cancelled (entries.Cancelled id) id (Ends verdicts.Done (Line id)) answer answers
      (λ whole. settled counts (does (jobs.Cancel id) (given_of old at)) old new (course_of (Ends verdicts.Done (Line id)) answer) (cancel_decides old new id at answer whole answers)
      (change_shows (counts old.disk) (counts new.disk) (Ends verdicts.Done (Line id)) answer tt cause))

  pub remove_now : (id : ItemId) (answer : Result (Unit {0}) DeskFault) → ChangeAnswers in_no_phase (entries.Removed id) id old new answer → HasCause desk_kind (counts old.disk) (counts new.disk) answer
      → DecidesNow counts true (does (jobs.Remove id) (given_of old at)) old new (course_by (Ends verdicts.Done Nothing) answer)
  remove_now id answer answers cause =
      change_now counts (does (jobs.Remove id) (given_of old at)) old new in_no_phase (entries.Removed id) id (Ends verdicts.Done Nothing) answer answers
      (λ whole. settled counts (does (jobs.Remove id) (given_of old at)) old new (course_of (Ends verdicts.Done Nothing) answer) (remove_decides old new id at answer whole answers)
      (change_shows (counts old.disk) (counts new.disk) (Ends verdicts.Done Nothing) answer tt cause))

  pub resume_now : (id : ItemId) (slices : ℕ) (answer : Result (Unit {0}) DeskFault) → ChangeAnswers is_under_way (entries.Asked id) id old new answer → HasCause desk_kind (counts old.disk) (counts new.disk) answer
      → DecidesNow counts true (does (jobs.Resume id slices) (given_of old at)) old new (course_by (Brings id slices) answer)
  resume_now id slices answer answers cause =
      change_now counts (does (jobs.Resume id slices) (given_of old at)) old new is_under_way (entries.Asked id) id (Brings id slices) answer answers
      (λ whole. settled counts (does (jobs.Resume id slices) (given_of old at)) old new (course_of (Brings id slices) answer) (resume_decides old new id slices at answer whole answers)
      (change_shows (counts old.disk) (counts new.disk) (Brings id slices) answer tt cause))

  -- a look
  pub look_none : (id : ItemId) → None ≡ item_in id.0 old.items.items → Settles counts (does (jobs.Show id) (given_of old at)) old old (Ends (verdicts.NoItem id) Nothing)
  look_none id none =
      settled counts (does (jobs.Show id) (given_of old at)) old old (Ends (verdicts.NoItem id) Nothing)
      (none_did old old (does (jobs.Show id) (given_of old at)) (Ends (verdicts.NoItem id) Nothing) (ap (λ (f : Option Item). on_found id f (λ item. ends verdicts.Done (Whole item.id))) (sym none)) refl) tt

  pub look_some : (id : ItemId) (item : Item) → Some item ≡ item_in id.0 old.items.items → Settles counts (does (jobs.Show id) (given_of old at)) old old (Ends verdicts.Done (Whole id))
  look_some id item there =
      settled counts (does (jobs.Show id) (given_of old at)) old old (Ends verdicts.Done (Whole id))
      (at_id old old (does (jobs.Show id) (given_of old at)) (λ i. Ends verdicts.Done (Whole i)) item.id id (id_of_found id old.items.items item (sym there))
      (none_did old old (does (jobs.Show id) (given_of old at)) (Ends verdicts.Done (Whole item.id)) (ap (λ (f : Option Item). on_found id f (λ one. ends verdicts.Done (Whole one.id))) (sym there)) refl)) tt

-- Behind a call that was answered Ok the parts that none needs were removed.
module _ {D O : Type 0} (counts : D → DiskKind → ℕ) (doing : Doing) (old mid new : View D O) where
  did_then : DidAll doing.entries old mid → Recorded mid new [] → DidAll doing.entries old new
  did_then (inl becomes) swept = inl (subst (λ (h : History). Recorded old new h) (append-nil doing.entries) (becomes_then old mid new doing.entries becomes [] [] false swept))
  did_then (inr (none, same)) swept = inl (subst (λ (h : History). Recorded old new h) (sym none) (subst (λ (v : View D O). Recorded v new []) same swept))

  broken_then : DidAll doing.entries old mid → old.broken ≡ false → mid.broken ≡ false
  broken_then (inl becomes) whole = becomes.broken_is
  broken_then (inr (none, same)) whole = ap (λ (v : View D O). v.broken) same ∙ whole

  settles_then : (show : Show) → old.broken ≡ false → (mid.broken ≡ false → Recorded mid new []) → Settles counts doing old mid (Ends verdicts.Done show) → Settles counts doing old new (Ends verdicts.Done show)
  settles_then show whole swept (deciding.did there is) = deciding.did (did_then there (swept (broken_then there whole))) is
  settles_then show whole swept (deciding.fell kind rose failed is) = absurd (cc)
  settles_then show whole swept (deciding.wanted same is) = absurd (cc)

  pub swept_now : (show : Show) → (mid.broken ≡ false → Recorded mid new []) → DecidesNow counts true doing old mid (Ok (Ends verdicts.Done show)) → DecidesNow counts true doing old new (Ok (Ends verdicts.Done show))
  swept_now show swept d = record { whole = d.whole; settles = settles_then show (d.whole refl) swept d.settles }

-- what such a job does
pub for_now : {D O : Type 0} (counts : D → DiskKind → ℕ) (old new : View D O) (at : ℕ) (job other : Job) (result : Result Course Broken) → job ≡ other → DecidesNow counts (is_change other) (does_now other (seen_of old at)) old new result
    → DecidesNow counts (is_change job) (does_now job (seen_of old at)) old new result
for_now counts old new at job other result is decides = subst (λ (j : Job). DecidesNow counts (is_change j) (does_now j (seen_of old at)) old new result) (sym is) decides

-- a look decides also at a broken list
pub look_now : {D O : Type 0} (counts : D → DiskKind → ℕ) (doing : Doing) (desk : View D O) (course : Course) → Settles counts doing desk desk course → DecidesNow counts false doing desk desk (Ok course)
look_now counts doing desk course settles = record { whole = λ changes. absurd (false≢true changes); settles = settles }

pub list_now : {D O : Type 0} (counts : D → DiskKind → ℕ) (desk : View D O) (at : ℕ) → Settles counts (does jobs.List (given_of desk at)) desk desk (Ends verdicts.Done Lines)
list_now counts desk at = deciding.did (inr (refl, refl)) refl
