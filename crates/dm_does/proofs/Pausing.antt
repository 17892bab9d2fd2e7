-- What the desk answers where an item is paused, and no attempt runs, is what the job does.
use Rattle.std.proofs.Common.{◌≡◌, inl, inr, ℕ, ◌<◌, true, false, Option, Some, None, Result, Ok, Err, refl, sym, ◌∙◌, ap, subst}
use Rattle.std.specs.Prelude.{IsSomeAnd}
use Rattle.std.proofs.lemmas.Bool.{false≢true}
use Rattle.dm_types.specs.declared.entry.Entry.TheVariants as entries
use Rattle.dm_types.specs.declared.item.Item.{Item}
use Rattle.dm_types.specs.declared.item.ItemId.{ItemId}
use Rattle.dm_types.specs.declared.item.Phase.{Phase}
use Rattle.dm_types.specs.declared.item.Phase.TheVariants as phases
use Rattle.dm_types.specs.declared.kinds.DiskKind.{DiskKind}
use Rattle.dm_item.specs.Listing.{item_in}
use Rattle.dm_item.specs.Row.{allows, is_paused}
use Rattle.dm_report.specs.declared.verdict.Verdict.TheVariants as verdicts
use Rattle.dm_store.specs.Becomes.{Fell, Recorded}
use Rattle.dm_store.specs.Lives.{life_in}
use Rattle.dm_store.specs.View.{View}
use Rattle.dm_store.specs.declared.life.Life.{Life}
use Rattle.dm_answers.specs.Pause.{HasUnsavedLife, PauseAnswers, PauseFell, pausing}
use Rattle.dm_answers.specs.declared.fault.DeskFault.{DeskFault}
use Rattle.dm_answers.specs.declared.fault.DeskFault.TheVariants as faults
use Rattle.dm_does.specs.declared.course.Course.TheVariants.{Ends}
use Rattle.dm_does.specs.declared.course.Show.TheVariants.{Nothing, Line}
use Rattle.dm_does.specs.declared.job.Job.TheVariants as jobs
use Rattle.dm_does.specs.Deciding.{Decides, course_of, wanted}
use Rattle.dm_does.specs.Doing.{Doing, does, on_found, pauses, records, refuses}
use Rattle.dm_does.proofs.Decisions.{at_id, changes_done, changes_may, changes_not, given_of, id_of_found, none_did, one_did, one_fell}

-- an item that may be paused isn't paused
not_paused : (item : Item) (phase : Phase) → allows (entries.Paused item.id) phase ≡ true → is_paused phase ≡ false
not_paused item phases.Paused may = absurd (false≢true may)
not_paused item phase may = refl

no_unsaved : (item : Item) (life : Option Life) → life ≡ None → HasUnsavedLife life item → ⊥
no_unsaved item life none has = subst (λ (found : Option Life). IsSomeAnd found (λ running. 0 < running.unsaved)) none has.unsaved

module _ {D O : Type 0} (old new : View D O) (id : ItemId) (none : life_in id.0 old.lives ≡ None) where
  abbrev doing : Doing
  doing = on_found id (item_in id.0 old.items.items) pauses

  found_is : (found : Option Item) → item_in id.0 old.items.items ≡ found → doing ≡ on_found id found pauses
  found_is found is = ap (λ (f : Option Item). on_found id f pauses) is

  to_id : (item : Item) → item_in id.0 old.items.items ≡ Some item → Decides doing old new (Ends verdicts.Done (Line item.id)) → Decides doing old new (Ends verdicts.Done (Line id))
  to_id item there decides = at_id old new doing (λ i. Ends verdicts.Done (Line i)) item.id id (id_of_found id old.items.items item there) decides

  may_is : (item : Item) → item_in id.0 old.items.items ≡ Some item → allows (entries.Paused item.id) item.phase ≡ true → doing ≡ records (entries.Paused item.id) (Ends verdicts.Done (Line item.id))
  may_is item there may =
      found_is (Some item) there
      ∙ changes_may (is_paused item.phase) (allows (entries.Paused item.id) item.phase) (entries.Paused item.id) (Ends verdicts.Done (Line item.id)) item (not_paused item item.phase may) may

  fell_by : (counts : D → DiskKind → ℕ) (kind : DiskKind) (item : Item) → item_in id.0 old.items.items ≡ Some item → allows (entries.Paused item.id) item.phase ≡ true → PauseFell counts old new id item
      → Decides doing old new (Ends (verdicts.DiskFailed kind) Nothing)
  fell_by counts kind item there may (inl failed) =
      one_fell old new doing (entries.Paused item.id) (Ends verdicts.Done (Line item.id)) kind (may_is item there may) (subst (λ (life : Option Life). Fell old new (pausing item life)) none failed)
  fell_by counts kind item there may (inr unsaved) = absurd (no_unsaved item (life_in id.0 old.lives) none unsaved.0)

  by_answer : (counts : D → DiskKind → ℕ) (result : Result (Unit {0}) DeskFault) → old.broken ≡ false → PauseAnswers counts old new id result → Decides doing old new (course_of (Ends verdicts.Done (Line id)) result)
  by_answer counts (Ok done) whole (inl refused) =
      let with_item = refused.cause in
      to_id with_item.item with_item.there
      (none_did old new doing (Ends verdicts.Done (Line with_item.item.id))
      (found_is (Some with_item.item) with_item.there
      ∙ changes_done (is_paused with_item.item.phase) (allows (entries.Paused with_item.item.id) with_item.item.phase) (entries.Paused with_item.item.id) (Ends verdicts.Done (Line with_item.item.id)) with_item.item with_item.is)
      refused.same)
  by_answer counts (Ok done) whole (inr with_item) =
      to_id with_item.item with_item.there
      (one_did old new doing (entries.Paused with_item.item.id) (Ends verdicts.Done (Line with_item.item.id)) (may_is with_item.item with_item.there with_item.is.0)
      (subst (λ (life : Option Life). Recorded old new (pausing with_item.item life)) none with_item.is.1))
  by_answer counts (Err faults.Broken) whole answers = absurd (false≢true (sym whole ∙ answers.broken))
  by_answer counts (Err (faults.NoItem other)) whole answers =
      none_did old new doing (Ends (verdicts.NoItem other) Nothing) (found_is None answers.cause.none ∙ ap (λ (i : ItemId). refuses (verdicts.NoItem i)) (sym answers.cause.is)) answers.same
  by_answer counts (Err (faults.WrongState phase)) whole answers =
      let with_item = answers.cause in
      none_did old new doing (Ends (verdicts.WrongState phase) Nothing)
      (found_is (Some with_item.item) with_item.there
      ∙ changes_not (is_paused with_item.item.phase) (allows (entries.Paused with_item.item.id) with_item.item.phase) (entries.Paused with_item.item.id) (Ends verdicts.Done (Line with_item.item.id)) with_item.item with_item.is.not_paused with_item.is.row
      ∙ ap (λ (p : Phase). refuses (verdicts.WrongState p)) (sym with_item.is.phase_is))
      answers.same
  by_answer counts (Err faults.NoMemory) whole answers = wanted answers.same refl
  by_answer counts (Err (faults.File kind)) whole answers = absurd (no_unsaved answers.0.item (life_in id.0 old.lives) none answers.0.is)
  by_answer counts (Err (faults.Journal kind)) whole answers = fell_by counts kind answers.item answers.there answers.is.0 answers.is.1
  by_answer counts (Err fault) whole answers = absurd answers

pub pause_decides : {D O : Type 0} (counts : D → DiskKind → ℕ) (old new : View D O) (id : ItemId) (at : ℕ) (result : Result (Unit {0}) DeskFault) → old.broken ≡ false → life_in id.0 old.lives ≡ None → PauseAnswers counts old new id result
    → Decides (does (jobs.Pause id) (given_of old at)) old new (course_of (Ends verdicts.Done (Line id)) result)
pause_decides counts old new id at result whole none answers = by_answer old new id none counts result whole answers
