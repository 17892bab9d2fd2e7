-- What the desk answers where an item is paused is what the job does, whether an attempt runs or not.
use Rattle.std.proofs.Common.{◌≡◌, inl, inr, ℕ, Bool, true, false, if◌then◌else◌, [], Option, Some, None, Result, Ok, Err, refl, sym, ◌∙◌, ap, subst}
use Rattle.std.proofs.lemmas.Bool.{false≢true}
use Rattle.dm_types.specs.Faults.{HasCause, Rose}
use Rattle.dm_types.specs.declared.entry.Entry.TheVariants as entries
use Rattle.dm_types.specs.declared.item.Item.{Item}
use Rattle.dm_types.specs.declared.item.ItemId.{ItemId}
use Rattle.dm_types.specs.declared.item.Phase.{Phase}
use Rattle.dm_types.specs.declared.item.Phase.TheVariants as phases
use Rattle.dm_types.specs.declared.kinds.DiskKind.{DiskKind}
use Rattle.dm_item.specs.Lawful.{History}
use Rattle.dm_item.specs.Listing.{item_in}
use Rattle.dm_item.specs.Row.{allows, is_paused}
use Rattle.dm_report.specs.declared.verdict.Verdict.TheVariants as verdicts
use Rattle.dm_store.specs.Becomes.{Fell, Recorded}
use Rattle.dm_store.specs.Lives.{life_in}
use Rattle.dm_store.specs.View.{View}
use Rattle.dm_answers.specs.Faults.{desk_kind}
use Rattle.dm_answers.specs.Pause.{PauseAnswers, PauseFell, pausing}
use Rattle.dm_answers.specs.declared.fault.DeskFault.{DeskFault}
use Rattle.dm_answers.specs.declared.fault.DeskFault.TheVariants as faults
use Rattle.dm_does.specs.declared.course.Course.{Course}
use Rattle.dm_does.specs.declared.course.Course.TheVariants.{Ends}
use Rattle.dm_does.specs.declared.course.Show.TheVariants.{Nothing, Line}
use Rattle.dm_does.specs.Doing.{Doing, on_found, refuses}
use Rattle.dm_does.proofs.Decisions.{id_of_found}
use Rattle.dm_service.specs.Api.{pauses_with}
use Rattle.dm_works.specs.Courses.{course_by}
use Rattle.dm_works.specs.Deciding.{DecidesNow, Settles, did, fell, wanted}
use Rattle.dm_works.proofs.Settling.{decided, refused}

-- an item that may be paused isn't paused
not_paused : (item : Item) (phase : Phase) → allows (entries.Paused item.id) phase ≡ true → is_paused phase ≡ false
not_paused item phases.Paused may = absurd (false≢true may)
not_paused item phase may = refl

-- its entries, and the course behind them
abbrev pauses_by : Bool → Bool → History → Item → Doing
pauses_by paused may entries item =
    if paused then record { entries = []; course = Ends verdicts.Done (Line item.id) } else (if may then record { entries = entries; course = Ends verdicts.Done (Line item.id) } else refuses (verdicts.WrongState item.phase))

module _ {D O : Type 0} (counts : D → DiskKind → ℕ) (old new : View D O) (id : ItemId) where
  abbrev doing : Doing
  doing = on_found id (item_in id.0 old.items.items) (pauses_with old.lives)

  abbrev Now : Course → Type 0
  Now course = Settles counts doing old new course

  found_is : (found : Option Item) → item_in id.0 old.items.items ≡ found → doing ≡ on_found id found (pauses_with old.lives)
  found_is found is = ap (λ (f : Option Item). on_found id f (pauses_with old.lives)) is

  same_id : (item : Item) → item_in id.0 old.items.items ≡ Some item → item.id ≡ id
  same_id item there = id_of_found id old.items.items item there

  -- what is saved is what is live under the id
  entries_are : (item : Item) → item_in id.0 old.items.items ≡ Some item → pausing item (life_in item.id.0 old.lives) ≡ pausing item (life_in id.0 old.lives)
  entries_are item there = ap (λ (i : ItemId). pausing item (life_in i.0 old.lives)) (same_id item there)

  paused_is : (item : Item) → item_in id.0 old.items.items ≡ Some item → is_paused item.phase ≡ true → doing ≡ record { entries = []; course = Ends verdicts.Done (Line item.id) }
  paused_is item there paused = found_is (Some item) there ∙ ap (λ (b : Bool). pauses_by b (allows (entries.Paused item.id) item.phase) (pausing item (life_in item.id.0 old.lives)) item) paused

  may_is : (item : Item) → item_in id.0 old.items.items ≡ Some item → allows (entries.Paused item.id) item.phase ≡ true → doing ≡ record { entries = pausing item (life_in id.0 old.lives); course = Ends verdicts.Done (Line item.id) }
  may_is item there may =
      found_is (Some item) there
      ∙ ap (λ (b : Bool). pauses_by b (allows (entries.Paused item.id) item.phase) (pausing item (life_in item.id.0 old.lives)) item) (not_paused item item.phase may)
      ∙ ap (λ (b : Bool). pauses_by false b (pausing item (life_in item.id.0 old.lives)) item) may
      ∙ ap (λ (h : History). pauses_by false true h item) (entries_are item there)

  wrong_is : (item : Item) → item_in id.0 old.items.items ≡ Some item → is_paused item.phase ≡ false → allows (entries.Paused item.id) item.phase ≡ false → doing ≡ refuses (verdicts.WrongState item.phase)
  wrong_is item there paused may =
      found_is (Some item) there
      ∙ ap (λ (b : Bool). pauses_by b (allows (entries.Paused item.id) item.phase) (pausing item (life_in item.id.0 old.lives)) item) paused
      ∙ ap (λ (b : Bool). pauses_by false b (pausing item (life_in item.id.0 old.lives)) item) may

  none_did : (course : Course) → doing ≡ record { entries = []; course = course } → new ≡ old → Now course
  none_did course is same = did (inr (ap (λ (d : Doing). d.entries) is, same)) (sym (ap (λ (d : Doing). d.course) is))

  to_id : (item : Item) → item_in id.0 old.items.items ≡ Some item → Now (Ends verdicts.Done (Line item.id)) → Now (Ends verdicts.Done (Line id))
  to_id item there now = subst (λ (i : ItemId). Now (Ends verdicts.Done (Line i))) (same_id item there) now

  fell_by : (kind : DiskKind) → Rose (counts old.disk kind) (counts new.disk kind) → (item : Item) → item_in id.0 old.items.items ≡ Some item → allows (entries.Paused item.id) item.phase ≡ true → PauseFell counts old new id item → Now (Ends (verdicts.DiskFailed kind) Nothing)
  fell_by kind rose item there may (inl failed) = fell kind rose (inl (subst (λ (d : Doing). Fell old new d.entries) (sym (may_is item there may)) failed)) refl
  fell_by kind rose item there may (inr (unsaved, failed)) = fell kind rose (inr (record { id = id; is = inr failed })) refl

  whole_of : (item : Item) → PauseFell counts old new id item → old.broken ≡ false
  whole_of item (inl failed) = failed.becomes.whole
  whole_of item (inr (unsaved, failed)) = failed.fell.becomes.whole

  pub pause_now : (answer : Result (Unit {0}) DeskFault) → PauseAnswers counts old new id answer → HasCause desk_kind (counts old.disk) (counts new.disk) answer → DecidesNow counts true doing old new (course_by (Ends verdicts.Done (Line id)) answer)
  pause_now (Ok done) (inl same) cause =
      let with_item = same.cause in
      decided counts doing old new (Ends verdicts.Done (Line id)) same.whole
      (to_id with_item.item with_item.there (none_did (Ends verdicts.Done (Line with_item.item.id)) (paused_is with_item.item with_item.there with_item.is) same.same))
  pause_now (Ok done) (inr with_item) cause =
      let may = may_is with_item.item with_item.there with_item.is.0 in
      decided counts doing old new (Ends verdicts.Done (Line id)) with_item.is.1.whole
      (to_id with_item.item with_item.there (did (inl (subst (λ (d : Doing). Recorded old new d.entries) (sym may) with_item.is.1)) (sym (ap (λ (d : Doing). d.course) may))))
  pause_now (Err faults.Broken) answers cause = refused counts doing old new answers
  pause_now (Err (faults.NoItem other)) answers cause =
      decided counts doing old new (Ends (verdicts.NoItem other) Nothing) answers.whole
      (none_did (Ends (verdicts.NoItem other) Nothing) (found_is None answers.cause.none ∙ ap (λ (i : ItemId). refuses (verdicts.NoItem i)) (sym answers.cause.is)) answers.same)
  pause_now (Err (faults.WrongState phase)) answers cause =
      let with_item = answers.cause in
      decided counts doing old new (Ends (verdicts.WrongState phase) Nothing) answers.whole
      (none_did (Ends (verdicts.WrongState phase) Nothing)
      (wrong_is with_item.item with_item.there with_item.is.not_paused with_item.is.row ∙ ap (λ (p : Phase). refuses (verdicts.WrongState p)) (sym with_item.is.phase_is)) answers.same)
  pause_now (Err faults.NoMemory) answers cause = decided counts doing old new (Ends verdicts.NoMemory Nothing) answers.whole (wanted answers.same refl)
  pause_now (Err (faults.File kind)) (unsaved, becomes) cause = decided counts doing old new (Ends (verdicts.DiskFailed kind) Nothing) becomes.whole (fell kind cause.cause (inr (record { id = id; is = inl becomes })) refl)
  pause_now (Err (faults.Journal kind)) with_item cause =
      decided counts doing old new (Ends (verdicts.DiskFailed kind) Nothing) (whole_of with_item.item with_item.is.1) (fell_by kind cause.cause with_item.item with_item.there with_item.is.0 with_item.is.1)
  pause_now (Err fault) answers cause = absurd answers
