-- What is tried of a record, by what the history and the list answer.
use Rattle.std.proofs.Common.{◌≡◌, ℕ, true, false, [], ◌∷◌, ◌++◌, Some, Result, Ok, Err, refl, sym, ◌∙◌, ap, subst}
use Rattle.std.proofs.lemmas.Bool.{false≢true}
use Rattle.dm_types.specs.Faults.{HasCause, Rose}
use Rattle.dm_types.specs.declared.entry.Entry.{Entry}
use Rattle.dm_types.specs.declared.item.ItemId.{ItemId}
use Rattle.dm_types.specs.declared.kinds.DiskKind.{DiskKind}
use Rattle.dm_disk_model.specs.Disk.{History as Clock}
use Rattle.dm_item.specs.Kept.{IsNumbered}
use Rattle.dm_item.specs.Lawful.{History}
use Rattle.dm_item.proofs.Shorts.{numbered_of}
use Rattle.dm_land.proofs.Steps.{recorded_none}
use Rattle.dm_store.specs.Becomes.{Becomes, Fell, Recorded}
use Rattle.dm_store.specs.Keeps.{IsDesk}
use Rattle.dm_store.specs.View.{View}
use Rattle.dm_answers.specs.Add.{AddAnswers, IsNew, added_by}
use Rattle.dm_answers.specs.Faults.{desk_kind}
use Rattle.dm_answers.specs.declared.fault.DeskFault.{DeskFault}
use Rattle.dm_answers.specs.declared.fault.DeskFault.TheVariants as desks
use Rattle.dm_answers.specs.declared.order.Order.{Order}
use Rattle.dm_answers.specs.declared.order.Taken.{Taken}
use Rattle.dm_answers.specs.declared.order.Taken.TheVariants.{New, Same}
use Rattle.dm_report.specs.declared.verdict.Verdict.TheVariants as verdicts
use Rattle.dm_hist.specs.declared.row.Row.{Row}
use Rattle.dm_shown.specs.declared.named.Named.{Named}
use Rattle.dm_shown.specs.declared.named.Named.TheVariants as names
use Rattle.dm_does.specs.declared.course.Course.TheVariants.{Ends}
use Rattle.dm_does.specs.declared.course.Show.TheVariants.{Line}
use Rattle.dm_does.specs.declared.job.Job.TheVariants as jobs
use Rattle.dm_does.specs.Doing.{Doing, ends, records}
use Rattle.dm_does.proofs.Decisions.{given_of, id_of_found, word_full, word_known, word_new, word_other}
use Rattle.dm_past.specs.ByRows.{FindsFree, IsFree, NoRow}
use Rattle.dm_past.specs.Past.{HasFailed, Past}
use Rattle.dm_import.specs.Adding.{Answer, RecordDoes, adds, answer_by, answer_of, by_list, by_past, given_by}
use Rattle.dm_import.specs.Working.{RowTried, added_as, has_fallen, was_added, was_lost, was_refused, was_wanting}

-- The history answered.

module _ {D O : Type 0} (told : Type 0) (clock : D → Clock) (tells : Type 0) (counts : D → DiskKind → ℕ) (at : ℕ) (order : Order) (desk : View D O) (past past' : Past) (is_desk : IsDesk tells clock desk) (whole : desk.broken ≡ false) where
  still : Recorded desk desk []
  still = recorded_none desk whole (is_desk.failed whole)

  by_answer : (made answer : Answer) → answer ≡ made → RecordDoes told past.rows at desk.items order [] made → RowTried told counts at order desk desk past past' answer
  by_answer (Ok one) answer is does = was_added one (record { entries = []; does = does; recorded = still; plain = tt }) is
  by_answer (Err verdict) answer is does = was_refused verdict does still is

  pub row_tried : (row : Row) (answer : Answer) → FindsFree told order.word (given_by desk.items past.rows) (Ok (Some row)) → answer ≡ answer_by order.address.text row → RowTried told counts at order desk desk past past' answer
  row_tried row answer found is = by_answer (answer_by order.address.text row) answer is (by_past row found.0 found.1 refl refl)

  pub lost_tried : (answer : Answer) → IsFree order.word (given_by desk.items past.rows) → HasFailed past past' → answer ≡ Err verdicts.HistoryFailed → RowTried told counts at order desk desk past past' answer
  lost_tried answer free failed is = was_lost free failed still is

  pub wanting_tried : (answer : Answer) → answer ≡ Err verdicts.NoMemory → RowTried told counts at order desk desk past past' answer
  wanting_tried answer is = was_wanting still is

-- No row answers, and the list did.

-- one entry alone was tried
one_entry : (recorded : History) (entry : Entry) (rest : History) (one : Entry) → one ∷ [] ≡ recorded ++ entry ∷ rest → (recorded ≡ []) × (entry ≡ one)
one_entry [] entry rest one parts = (refl, cc)
one_entry (first ∷ []) entry rest one parts = absurd cc
one_entry (first ∷ (second ∷ more)) entry rest one parts = absurd cc

module _ {D O : Type 0} (told : Type 0) (clock : D → Clock) (tells : Type 0) (counts : D → DiskKind → ℕ) (at : ℕ) (order : Order) (old new : View D O) (past past' : Past) (is_desk : IsDesk tells clock old) (whole : old.broken ≡ false)
    (none : told → NoRow (jobs.Add order) (given_by old.items past.rows)) where
  abbrev Tried : Answer → Type 0
  Tried answer = RowTried told counts at order old new past past' answer

  numbered : IsNumbered 1 old.items.items old.items.next
  numbered = numbered_of (is_desk.founded.before ++ old.list) old.items is_desk.founded.items

  does_item : (entries : History) (id : ItemId) → adds order old.items at ≡ record { entries = entries; course = Ends verdicts.Done (Line id) } → RecordDoes told past.rows at old.items order entries (Ok (names.Item id))
  does_item entries id is = by_list none (sym (ap (λ (d : Doing). d.entries) is)) (sym (ap (λ (d : Doing). answer_of d.course) is))

  same_desk : new ≡ old → Recorded old new []
  same_desk same = subst (λ (v : View D O). Recorded old v []) (sym same) (recorded_none old whole (is_desk.failed whole))

  abbrev entry : Entry
  entry = added_by old.items order at

  fallen : (one : Named) (kind : DiskKind) (answer : Answer) → RecordDoes told past.rows at old.items order (entry ∷ []) (Ok one) → (f : Fell old new (entry ∷ [])) → Rose (counts old.disk kind) (counts new.disk kind) → answer ≡ Err (verdicts.DiskFailed kind)
      → Tried answer
  fallen one kind answer does f rose is =
      let parts = one_entry f.recorded f.entry f.rest entry f.tries_are in
      has_fallen entry one kind does
      (subst (λ (e : Entry). Becomes old new [] (e ∷ []) true) parts.1 (subst (λ (h : History). Becomes old new h (f.entry ∷ []) true) parts.0 f.becomes))
      tt rose is

  -- a new item
  new_item : (id : ItemId) → id.0 ≡ old.items.next → IsNew old.items order → RecordDoes told past.rows at old.items order (entry ∷ []) (Ok (names.Item id))
  new_item id is fits =
      does_item (entry ∷ []) id
      (word_new (given_of old at) order (λ item. ends verdicts.Done (Line item.id)) (λ i. Ends verdicts.Done (Line i)) fits
      ∙ ap (λ (n : ℕ). records entry (Ends verdicts.Done (Line (let made : ItemId = record { 0 = n } in made)))) (sym is))

  pub list_tried : (result : Result Taken DeskFault) (answer : Answer) → AddAnswers old new order at result → HasCause desk_kind (counts old.disk) (counts new.disk) result → answer ≡ added_as result → Tried answer
  list_tried (Ok (New id)) answer (id_is, fits, recorded) cause is = was_added (names.Item id) (record { entries = entry ∷ []; does = new_item id id_is fits; recorded = recorded; plain = tt }) is
  list_tried (Ok (Same id)) answer answers cause is =
      let known = answers.cause in
      was_added (names.Item id) (record {
        entries = [];
        does = does_item [] id
            (word_known (given_of old at) order (λ item. ends verdicts.Done (Line item.id)) (λ i. Ends verdicts.Done (Line i)) id numbered known
            ∙ ap (λ (i : ItemId). ends verdicts.Done (Line i)) (id_of_found id old.items.items known.item known.there));
        recorded = same_desk answers.same;
        plain = tt;
      }) is
  list_tried (Err desks.Broken) answer answers cause is = absurd (false≢true (sym whole ∙ answers.broken))
  list_tried (Err (desks.WordTaken id)) answer answers cause is =
      let does = word_other (given_of old at) order (λ item. ends verdicts.Done (Line item.id)) (λ i. Ends verdicts.Done (Line i)) id numbered answers.cause in
      was_refused (verdicts.OtherWord id) (by_list none (sym (ap (λ (d : Doing). d.entries) does)) (sym (ap (λ (d : Doing). answer_of d.course) does))) (same_desk answers.same) is
  list_tried (Err (desks.ItemsFull count)) answer answers cause is =
      let does = word_full (given_of old at) order (λ item. ends verdicts.Done (Line item.id)) (λ i. Ends verdicts.Done (Line i)) count answers.cause in
      was_refused (verdicts.ItemsFull count) (by_list none (sym (ap (λ (d : Doing). d.entries) does)) (sym (ap (λ (d : Doing). answer_of d.course) does))) (same_desk answers.same) is
  list_tried (Err desks.NoMemory) answer answers cause is = was_wanting (same_desk answers.same) is
  list_tried (Err (desks.Journal kind)) answer (fits, failed) cause is = fallen (names.Item (record { 0 = old.items.next })) kind answer (new_item (record { 0 = old.items.next }) refl fits) failed cause.cause is
  list_tried (Err fault) answer answers cause is = absurd answers
