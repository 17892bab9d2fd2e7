-- What was answered of a list and a history.
use Rattle.std.proofs.Common.{◌≡◌, ◌⊎◌, inl, inr, ℕ, Bool, true, false, List, [], ◌∷◌, length, Option, Some, None, Result, Ok, Err, refl, sym, ◌∙◌, ap, subst, arith}
use Rattle.std.specs.Prelude.{IfOk, IsTrue, is_none}
use Rattle.std.specs.List.{All}
use Rattle.std.proofs.lemmas.Bool.{false≢true}
use Rattle.dm_types.specs.Faults.{HasCause, NoneFell}
use Rattle.dm_types.specs.declared.item.Item.{Item}
use Rattle.dm_types.specs.declared.item.ItemId.{ItemId}
use Rattle.dm_types.specs.declared.kinds.DiskKind.{DiskKind}
use Rattle.dm_types.specs.declared.memory.NoMemory.{NoMemory}
use Rattle.dm_item.specs.Lawful.{History}
use Rattle.dm_item.specs.Listing.{Listing}
use Rattle.dm_answers.specs.declared.order.Order.{Order}
use Rattle.dm_does.specs.declared.job.Job.TheVariants as jobs
use Rattle.dm_hist.specs.Faults.{keeper_kind}
use Rattle.dm_hist.specs.Rows.{is_there, row_with, without_row}
use Rattle.dm_hist.specs.Shown.{is_listed}
use Rattle.dm_hist.specs.declared.keeper.KeeperFault.{KeeperFault}
use Rattle.dm_hist.specs.declared.keeper.KeeperFault.TheVariants as keepers
use Rattle.dm_hist.specs.declared.row.Row.{Row}
use Rattle.dm_shown.specs.Pages.{shown_page}
use Rattle.dm_shown.specs.Words.{HasWithout, item_with, named}
use Rattle.dm_archive.specs.Doing.{Change, Given, changed_rows, drops, puts, stay}
use Rattle.dm_archive.proofs.Leaves.{none_dropped}
use Rattle.dm_shown.specs.declared.named.Named.{Named}
use Rattle.dm_shown.specs.declared.named.Named.TheVariants as names
use Rattle.dm_past.specs.ByRows.{FindsFree, IsFree}
use Rattle.dm_past.specs.Coming.{IsBegun, first_of}
use Rattle.dm_past.specs.Past.{HasFailed, Past}
use Rattle.dm_past.proofs.Answered.{free_by, row_found}
use Rattle.dm_call.specs.Asked.{asked}
use Rattle.dm_call.specs.declared.call.Call.{Call}
use Rattle.dm_call.specs.declared.call.Refusal.{Refusal}
use Rattle.dm_call.specs.declared.call.Window.{Window}
use Rattle.dm_call.specs.declared.request.ApiRequest.{ApiRequest}
use Rattle.dm_response.specs.Reply.{trouble_of}
use Rattle.dm_response.specs.declared.reply.ApiReply.{ApiReply}
use Rattle.dm_response.specs.declared.trouble.Trouble.TheVariants as troubles
use Rattle.dm_service.specs.Api.{Api, api, api_add, api_asked, api_of, api_refused, api_remove, api_task, does_now}
use Rattle.dm_service.specs.Recalls.{IsUnlisted, Recall, Recalls, by_id, by_word, id_recall, is_asked, is_free, is_gone, page, recall_of, unasked, word_recall}
use Rattle.dm_service.specs.Replies.{removed_reply, row_by, rows_by}
use Rattle.dm_service.specs.Tasks.{task_by}
use Rattle.dm_service.specs.declared.task.Task.{Task}
use Rattle.dm_service.specs.declared.task.Task.TheVariants as tasks
use Rattle.dm_works.specs.Answering.{Answered, Gives}
use Rattle.dm_works.specs.Answering as listed
use Rattle.dm_works.specs.Deciding.{seen_of}
use Rattle.dm_works.specs.Serving.{AnswersAsked, AnswersTask, Does, RowsStay, Service, TaskAnswers, WasCut}
use Rattle.dm_works.specs.Serving as serving
use Rattle.dm_works.specs.Troubles.{keeper_trouble}
use Rattle.dm_works.proofs.Replying.{gives}

none_of : {T : Type 0} (found : Option T) → is_none found ≡ true → found ≡ None
none_of None is = refl
none_of (Some item) is = absurd (false≢true is)

-- a word that is no item's
free_of : (word : List ℕ) (given : Given) → IsFree word given → is_free word given.items ≡ true
free_of [] given free = absurd (free.some refl)
free_of (byte ∷ rest) given free = ap is_none free.none

free_is : (word : List ℕ) (given : Given) → is_free word given.items ≡ true → IsFree word given
free_is [] given is = absurd (false≢true is)
free_is (byte ∷ rest) given is = record { some = λ same. absurd cc; none = none_of (item_with (byte ∷ rest) given.items) is }

-- What was found of a word, as the row of a word that is no item's.
abbrev pub as_found : Option Named → Result (Option Named) KeeperFault
as_found found = Ok found

module _ (told : Type 0) (word : List ℕ) (given : Given) where
  pub finds_row : (row : Row) (found : Option Named) → found ≡ Some (names.Row row) → HasWithout word (item_with word given.items) (as_found found) → (told → found ≡ named word given.items given.rows) → FindsFree told word given (Ok (Some row))
  finds_row row found is without told_is =
      let free = free_by word given (Ok (Some (names.Row row))) (subst (λ (f : Option Named). HasWithout word (item_with word given.items) (as_found f)) is without) refl in
      (free, λ knows. row_found word given (Some (names.Row row)) (sym is ∙ told_is knows) free)

  pub finds_item : (id : ItemId) (found : Option Named) → found ≡ Some (names.Item id) → (told → found ≡ named word given.items given.rows) → FindsFree told word given (Ok None)
  finds_item id found is told_is = λ knows free. row_found word given (Some (names.Item id)) (sym is ∙ told_is knows) free

  pub finds_none : (found : Option Named) → found ≡ None → (told → found ≡ named word given.items given.rows) → FindsFree told word given (Ok None)
  finds_none found is told_is = λ knows free. row_found word given None (sym is ∙ told_is knows) free

  pub finds_fault : (fault : KeeperFault) → HasWithout word (item_with word given.items) (Err fault) → FindsFree told word given (Err fault)
  finds_fault fault without = free_by word given (Err fault) without refl

-- the same of the word and of the list
pub finds_same : (told : Type 0) (read word : List ℕ) (seen list : Listing) (rows : List Row) (answer : Result (Option Row) KeeperFault) → read ≡ word → seen ≡ list → FindsFree told read (record { items = seen.items; rows = rows }) answer
    → FindsFree told word (record { items = list.items; rows = rows }) answer
finds_same told read word seen list rows answer read_is seen_is finds =
    subst (λ (l : Listing). FindsFree told word (record { items = l.items; rows = rows }) answer) seen_is (subst (λ (w : List ℕ). FindsFree told w (record { items = seen.items; rows = rows }) answer) read_is finds)

-- whether the history is asked for a request
abbrev pub asks_for : List Item → Result Call Refusal → Bool
asks_for items (Ok call) = is_asked items (task_by call)
asks_for items (Err refusal) = false

-- the history was asked, and failed, which its count shows, and nothing was done
pub record IsUnanswered {D O : Type 0} (told : Type 0) (asks : Bool) (old new : Service D O) (result : Result ApiReply NoMemory) : Type 0 where
  pub asked_is : IsTrue asks
  pub failed : HasFailed old.past new.past
  pub same : new.desk ≡ old.desk
  pub rest : RowsStay told old new
  pub reply : Gives (trouble_of troubles.History) result

-- no step of a change
none_first : (change : Change) (rows : List Row) → changed_rows (first_of 0 change) rows ≡ rows
none_first stay rows = refl
none_first (puts more) rows = refl
none_first (drops id) rows = refl

none_begun : (change : Change) (rows rows' : List Row) → rows' ≡ rows → IsBegun rows rows' change []
none_begun change rows rows' same = record { steps = 0; steps_are = inl refl; rows_are = same ∙ sym (none_first change rows) }

-- no row is changed
stay_begun : (change : Change) (there : History) (rows rows' : List Row) → change ≡ stay → rows' ≡ rows → IsBegun rows rows' change there
stay_begun change there rows rows' stays same = record { steps = length there; steps_are = inl refl; rows_are = same ∙ sym (ap (λ (c : Change). changed_rows (first_of (length there) c) rows) stays) }

module _ {D O : Type 0} (told : Type 0) (counts : D → DiskKind → ℕ) (old new : Service D O) where
  -- nothing was done of it
  none_done : (doing : Api) → new.desk ≡ old.desk → RowsStay told old new → WasCut told doing old new
  none_done doing same rest = record {
    recorded = [];
    rest = doing.entries;
    entries_are = refl;
    there = inr (refl, same);
    begun = λ knows. none_begun doing.change old.past.rows new.past.rows (rest knows);
  }

  -- the list answered, and the rows are as before
  pub by_list : (doing : Api) (result : Result ApiReply NoMemory) → doing.change ≡ stay → RowsStay told old new → Answered counts doing old.desk new.desk result → Does told counts doing old new result
  by_list doing result stays rest (listed.did whole there reply) = serving.did whole there (λ knows. rest knows ∙ sym (ap (λ (c : Change). changed_rows c old.past.rows) stays)) reply
  by_list doing result stays rest (listed.broken refused reply) = serving.broken refused (λ knows. none_begun doing.change old.past.rows new.past.rows (rest knows)) reply
  by_list doing result stays rest (listed.fell kind rose (inl failed) reply) = serving.fell kind rose (inl (failed, λ knows. stay_begun doing.change failed.recorded old.past.rows new.past.rows stays (rest knows))) reply
  by_list doing result stays rest (listed.fell kind rose (inr spoiled) reply) = serving.fell kind rose (inr (spoiled, rest)) reply
  by_list doing result stays rest (listed.wanted same reply) = serving.wanted (none_done doing same rest) reply

  module _ (at : ℕ) (result : Result ApiReply NoMemory) where
    -- the history gave no answer
    pub silent : (task : Task) (fault : KeeperFault) {T : Type 0} → IsTrue (is_asked old.desk.items.items task) → new.desk ≡ old.desk → RowsStay told old new → HasCause {T = T} keeper_kind old.past.faults new.past.faults (Err fault)
        → IfOk result (λ reply. reply ≡ trouble_of (keeper_trouble fault)) → AnswersTask told counts old task at result new
    silent task keepers.Failed is same rest cause replied = (serving.unanswered is cause.cause same rest (gives (trouble_of troubles.History) result replied), cause.later)
    silent task keepers.NoMemory is same rest cause replied = (serving.wanting same rest (gives (trouble_of troubles.Memory) result replied), cause.later)

    -- An item that is to be added.
    module _ (order : Order) where
      abbrev given : Given
      given = record { items = old.desk.items.items; rows = old.past.rows }

      abbrev free : Bool
      free = is_free order.word old.desk.items.items

      abbrev Adds : Type 0
      Adds = AnswersTask told counts old (tasks.Add order) at result new

      -- a row has its word
      pub add_row : (row : Row) → FindsFree told order.word given (Ok (Some row)) → new.desk ≡ old.desk → RowsStay told old new → NoneFell old.past.faults new.past.faults → IfOk result (λ reply. reply ≡ row_by order.address.text row) → Adds
      add_row row found same rest later replied = (
        serving.by (by_word (Some row))
            (record { is = λ knows. sym (ap (λ (f : Bool). word_recall f (row_with order.word old.past.rows)) (free_of order.word given found.0) ∙ ap by_word (found.1 knows)); unlisted = tt })
            (subst (λ (f : Bool). Does told counts (api_add (seen_of old.desk at) order (by_word (Some row)) f) old new result) (sym (free_of order.word given found.0))
            (serving.did (λ changes. absurd (false≢true changes)) (inr (refl, same)) rest (gives (row_by order.address.text row) result replied))),
        later,
      )

      word_none : (f : Bool) (row : Option Row) → (f ≡ true → row ≡ None) → word_recall f None ≡ word_recall f row
      word_none true row none = ap by_word (sym (none refl))
      word_none false row none = refl

      word_unlisted : (f : Bool) → IsUnlisted old.desk.items.items (word_recall f None)
      word_unlisted true = tt
      word_unlisted false = tt

      add_is : (f : Bool) → api_of (seen_of old.desk at) (jobs.Add order) (does_now (jobs.Add order) (seen_of old.desk at)) ≡ api_add (seen_of old.desk at) order (word_recall f None) f
      add_is true = refl
      add_is false = refl

      -- no row has it
      pub add_list : FindsFree told order.word given (Ok None) → RowsStay told old new → NoneFell old.past.faults new.past.faults
          → Answered counts (api_of (seen_of old.desk at) (jobs.Add order) (does_now (jobs.Add order) (seen_of old.desk at))) old.desk new.desk result → Adds
      add_list found rest later answered = (
        serving.by (word_recall free None)
            (record { is = λ knows. word_none free (row_with order.word old.past.rows) (λ is. found knows (free_is order.word given is)); unlisted = word_unlisted free })
            (subst (λ (doing : Api). Does told counts doing old new result) (add_is free)
            (by_list (api_of (seen_of old.desk at) (jobs.Add order) (does_now (jobs.Add order) (seen_of old.desk at))) result refl rest answered)),
        later,
      )

      pub add_silent : (fault : KeeperFault) {T : Type 0} → FindsFree told order.word given (Err fault) → new.desk ≡ old.desk → RowsStay told old new → HasCause {T = T} keeper_kind old.past.faults new.past.faults (Err fault)
          → IfOk result (λ reply. reply ≡ trouble_of (keeper_trouble fault)) → Adds
      add_silent fault found same rest cause replied = silent (tasks.Add order) fault (free_of order.word given found) same rest cause replied

    -- An id that is to be removed.
    module _ (id : ItemId) where
      abbrev Removes : Type 0
      Removes = AnswersTask told counts old (tasks.Remove id) at result new

      abbrev listed_job : Api
      listed_job = api_of (seen_of old.desk at) (jobs.Remove id) (does_now (jobs.Remove id) (seen_of old.desk at))

      -- an item has it
      pub remove_item : is_gone id.0 old.desk.items.items ≡ false → RowsStay told old new → NoneFell old.past.faults new.past.faults → Answered counts listed_job old.desk new.desk result → Removes
      remove_item there rest later answered = (
        serving.by unasked (record { is = λ knows. sym (ap (λ (g : Bool). id_recall g (is_there id.0 old.past.rows)) there); unlisted = tt })
            (by_list listed_job result refl rest answered),
        later,
      )

      module _ (gone : is_gone id.0 old.desk.items.items ≡ true) where
        recalls : (there : Bool) → (told → there ≡ is_there id.0 old.past.rows) → Recalls told old.desk.items.items old.past.rows (tasks.Remove id) (by_id there)
        recalls there is = record { is = λ knows. ap by_id (is knows) ∙ sym (ap (λ (g : Bool). id_recall g (is_there id.0 old.past.rows)) gone); unlisted = tt }

        -- its row was dropped
        pub remove_row : (told → true ≡ is_there id.0 old.past.rows) → (told → new.past.rows ≡ without_row id.0 old.past.rows) → new.desk ≡ old.desk → NoneFell old.past.faults new.past.faults → IfOk result (λ reply. reply ≡ removed_reply id) → Removes
        remove_row was dropped same later replied = (
          serving.by (by_id true) (recalls true was)
              (subst (λ (g : Bool). Does told counts (api_remove (seen_of old.desk at) id (by_id true) g) old new result) (sym gone)
              (serving.did (λ changes. absurd (false≢true changes)) (inr (refl, same)) dropped (gives (removed_reply id) result replied))),
          later,
        )

        -- it has no row
        pub remove_none : (told → false ≡ is_there id.0 old.past.rows) → (told → new.past.rows ≡ without_row id.0 old.past.rows) → NoneFell old.past.faults new.past.faults → Answered counts listed_job old.desk new.desk result → Removes
        remove_none was dropped later answered = (
          serving.by (by_id false) (recalls false was) (by_list listed_job result refl (λ knows. dropped knows ∙ none_dropped id.0 old.past.rows (sym (was knows))) answered),
          later,
        )

        pub remove_silent : (fault : KeeperFault) {T : Type 0} → new.desk ≡ old.desk → RowsStay told old new → HasCause {T = T} keeper_kind old.past.faults new.past.faults (Err fault) → IfOk result (λ reply. reply ≡ trouble_of (keeper_trouble fault)) → Removes
        remove_silent fault same rest cause replied = silent (tasks.Remove id) fault gone same rest cause replied

    -- Part of the history.
    pub rows_shown : (window : Window) (rows : List Row) → (told → rows ≡ shown_page old.desk.items.items window.after window.limit old.past.rows) → All (λ (row : Row). is_listed row.id.0 old.desk.items.items ≡ false) rows → new.desk ≡ old.desk → RowsStay told old new
        → NoneFell old.past.faults new.past.faults → IfOk result (λ reply. reply ≡ rows_by rows) → AnswersTask told counts old (tasks.History window) at result new
    rows_shown window rows is unlisted same rest later replied = (
      serving.by (page rows) (record { is = λ knows. ap page (is knows); unlisted = unlisted }) (serving.did (λ changes. absurd (false≢true changes)) (inr (refl, same)) rest (gives (rows_by rows) result replied)),
      later,
    )

    -- A task of which the history isn't asked.
    pub task_listed : (task : Task) → unasked ≡ recall_of old.desk.items.items old.past.rows task → (api_task (seen_of old.desk at) unasked task).change ≡ stay → new.past ≡ old.past
        → Answered counts (api_task (seen_of old.desk at) unasked task) old.desk new.desk result → AnswersTask told counts old task at result new
    task_listed task is stays same answered = (
      serving.by unasked (record { is = λ knows. is; unlisted = tt }) (by_list (api_task (seen_of old.desk at) unasked task) result stays (λ knows. ap (λ (p : Past). p.rows) same) answered),
      λ kind. let is = ap (λ (p : Past). p.faults kind) same in omega (arith, is),
    )

    pub for_task : (task other : Task) → task ≡ other → AnswersTask told counts old other at result new → AnswersTask told counts old task at result new
    for_task task other is answers = subst (λ (t : Task). AnswersTask told counts old t at result new) (sym is) answers

    pub call_answered : (request : ApiRequest) (call : Call) (task : Task) → asked request ≡ Ok call → task ≡ task_by call → AnswersTask told counts old task at result new → AnswersAsked told counts old (asked request) at result new
    call_answered request call task is task_is answers =
        subst (λ (a : Result Call Refusal). AnswersAsked told counts old a at result new) (sym is) (subst (λ (t : Task). AnswersTask told counts old t at result new) task_is answers)

    pub call_refused : (request : ApiRequest) (refusal : Refusal) → new ≡ old → asked request ≡ Err refusal → IfOk result (λ reply. reply ≡ trouble_of (troubles.Refused refusal)) → AnswersAsked told counts old (asked request) at result new
    call_refused request refusal same is replied =
        subst (λ (a : Result Call Refusal). AnswersAsked told counts old a at result new) (sym is) (
          serving.did (λ changes. absurd (false≢true changes)) (inr (refl, ap (λ (s : Service D O). s.desk) same)) (λ knows. ap (λ (s : Service D O). s.past.rows) same) (gives (trouble_of (troubles.Refused refusal)) result replied),
          λ kind. let is = ap (λ (s : Service D O). s.past.faults kind) same in omega (arith, is),
        )

    -- memory was wanting before it was known what is asked
    pub call_wanted : (request : ApiRequest) → new ≡ old → result ≡ Err (record {}) → AnswersAsked told counts old (asked request) at result new
    call_wanted request same none = by_asked (asked request)
      where
        desk_same : new.desk ≡ old.desk
        desk_same = ap (λ (s : Service D O). s.desk) same

        rows_same : RowsStay told old new
        rows_same knows = ap (λ (s : Service D O). s.past.rows) same

        later : NoneFell old.past.faults new.past.faults
        later kind = let is = ap (λ (s : Service D O). s.past.faults kind) same in omega (arith, is)

        by_asked : (a : Result Call Refusal) → AnswersAsked told counts old a at result new
        by_asked (Ok call) = (serving.wanting desk_same rows_same (inr none), later)
        by_asked (Err refusal) = (serving.wanted (none_done (api_refused refusal) desk_same rows_same) (inr none), later)

    -- Over a history that tells its rows it is what the request does, or the first steps of it; or the history, which is asked for it, failed.
    pub as_told : told → (request : ApiRequest) → AnswersAsked told counts old (asked request) at result new
        → Does told counts (api (seen_of old.desk at) old.past.rows request) old new result ⊎ IsUnanswered told (asks_for old.desk.items.items (asked request)) old new result
    as_told knows request answers = by_asked (asked request) answers
      where
        by_task : (task : Task) → TaskAnswers told counts old task at result new → Does told counts (api_task (seen_of old.desk at) (recall_of old.desk.items.items old.past.rows task) task) old new result ⊎ IsUnanswered told (is_asked old.desk.items.items task) old new result
        by_task task (serving.by recall recalls does) = inl (subst (λ (r : Recall). Does told counts (api_task (seen_of old.desk at) r task) old new result) (recalls.is knows) does)
        by_task task (serving.unanswered is failed same rest reply) = inr (record { asked_is = is; failed = failed; same = same; rest = rest; reply = reply })
        by_task task (serving.wanting same rest reply) = inl (serving.wanted (none_done (api_task (seen_of old.desk at) (recall_of old.desk.items.items old.past.rows task) task) same rest) reply)

        by_asked : (a : Result Call Refusal) → AnswersAsked told counts old a at result new → Does told counts (api_asked (seen_of old.desk at) old.past.rows a) old new result ⊎ IsUnanswered told (asks_for old.desk.items.items a) old new result
        by_asked (Ok call) found = by_task (task_by call) found.0
        by_asked (Err refusal) found = inl found.0
