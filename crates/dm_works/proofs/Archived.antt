-- Items that were moved to the history, as a request is answered.
use Rattle.std.proofs.Common.{◌≡◌, ◌≢◌, ◌⊎◌, inl, inr, ℕ, ◌+◌, true, false, List, [], ◌∷◌, ◌++◌, length, map, take, Result, Ok, Err, refl, sym, ◌∙◌, ap, subst, append_assoc, length-append}
use Rattle.std.specs.Prelude.{IfOk, IsTrue}
use Rattle.std.proofs.lemmas.Bool.{false≢true}
use Rattle.std.proofs.lemmas.List.{length-map, map-append, take-map}
use Rattle.std.proofs.Math.Seq.{take-append_seam}
use Rattle.dm_types.specs.Faults.{HasCause}
use Rattle.dm_types.specs.declared.entry.Entry.{Entry}
use Rattle.dm_types.specs.declared.entry.Entry.TheVariants as entries
use Rattle.dm_types.specs.declared.item.Item.{Item}
use Rattle.dm_types.specs.declared.kinds.DiskKind.{DiskKind}
use Rattle.dm_types.specs.declared.memory.NoMemory.{NoMemory}
use Rattle.dm_item.specs.Lawful.{History}
use Rattle.dm_store.specs.View.{View}
use Rattle.dm_answers.specs.declared.fault.DeskFault.TheVariants as desks
use Rattle.dm_hist.specs.Shown.{row_of_item}
use Rattle.dm_hist.specs.declared.row.Row.{Row}
use Rattle.dm_archive.specs.Doing.{puts, with_rows}
use Rattle.dm_archive.specs.Faults.{disk_kind, history_kind}
use Rattle.dm_archive.specs.Moving.{ArchiveAnswers, Leave, archives, overs, put_all}
use Rattle.dm_archive.specs.declared.fault.ArchiveFault.{ArchiveFault}
use Rattle.dm_archive.specs.declared.fault.ArchiveFault.TheVariants as faults
use Rattle.dm_archive.proofs.Deciding.{puts_are}
use Rattle.dm_does.specs.Log.{ArePlain}
use Rattle.dm_past.specs.Coming.{IsBegun}
use Rattle.dm_response.specs.Reply.{trouble_of}
use Rattle.dm_response.specs.declared.reply.ApiReply.{ApiReply}
use Rattle.dm_response.specs.declared.trouble.Trouble.TheVariants as troubles
use Rattle.dm_service.specs.Api.{Api, api_archive, is_any}
use Rattle.dm_service.specs.Recalls.{unasked}
use Rattle.dm_service.specs.Replies.{archived_by}
use Rattle.dm_service.specs.declared.task.Task.TheVariants as tasks
use Rattle.dm_works.specs.Deciding.{DidAll, seen_of}
use Rattle.dm_works.specs.Moving.{Moved, fell, recorded, same}
use Rattle.dm_works.specs.Serving.{AnswersTask, Does, Service, WasCut}
use Rattle.dm_works.specs.Serving as serving
use Rattle.dm_works.specs.Troubles.{archive_trouble}
use Rattle.dm_works.proofs.Replying.{gives}

abbrev leaves : Item → Entry
leaves item = entries.Archived item.id

-- entries of items that leave open no list
archives_plain : (items : List Item) → ArePlain (archives items)
archives_plain [] = tt
archives_plain (item ∷ items) = archives_plain items

archives_then : (first second : List Item) → archives (first ++ second) ≡ archives first ++ archives second
archives_then first second = map-append leaves first second

-- the rows of the first of these items
rows_first : (items first second : List Item) → items ≡ first ++ second → take (length first) (map row_of_item items) ≡ map row_of_item first
rows_first items first second are = take-map row_of_item (length first) items ∙ ap (λ (some : List Item). map row_of_item (take (length first) some)) are ∙ ap (map row_of_item) (take-append_seam first second)

-- What it makes of the desk.

left_moved : {D O : Type 0} (gone : List Item) (old new : View D O) → Leave gone old new → Moved old new
left_moved gone old new (inl broken) = same broken.0.same
left_moved gone old new (inr there) = recorded (archives gone) (archives_plain gone) there

pub archive_moved : {D O : Type 0} (told : Type 0) (old new : View D O) (rows rows' : List Row) (result : Result ℕ ArchiveFault) → ArchiveAnswers told old new rows rows' result → Moved old new
archive_moved told old new rows rows' (Ok count) answers = left_moved (overs old.items.items) old new answers.1
archive_moved told old new rows rows' (Err faults.Keeper) at = left_moved at.gone old new at.is.0
archive_moved told old new rows rows' (Err faults.NoMemory) at = left_moved at.gone old new at.is.0
archive_moved told old new rows rows' (Err (faults.Desk (desks.Journal kind))) at =
    fell (archives at.gone) (entries.Archived at.item.id) (subst ArePlain (archives_then at.gone (at.item ∷ [])) (archives_plain (at.gone ++ at.item ∷ []))) at.is.0
archive_moved told old new rows rows' (Err (faults.Desk desks.Broken)) at = same at.is.0.same
archive_moved told old new rows rows' (Err (faults.Desk fault)) answers = absurd answers

-- some go
is_some : (gone : List Item) (item : Item) (rest : List Item) → is_any (gone ++ item ∷ rest) ≡ true
is_some [] item rest = refl
is_some (first ∷ gone) item rest = refl

-- and so do their entries
some_left : (first : Entry) (more : History) → first ∷ more ≢ []
some_left first more none = absurd cc

module _ {D O : Type 0} (told : Type 0) (counts : D → DiskKind → ℕ) (old new : Service D O) (at : ℕ) (result : Result ApiReply NoMemory) where
  abbrev over : List Item
  over = overs old.desk.items.items

  abbrev doing : Api
  doing = api_archive (seen_of old.desk at)

  abbrev Made : Type 0
  Made = Does told counts doing old new result

  left : (gone : List Item) → Leave gone old.desk new.desk → DidAll (archives gone) old.desk new.desk
  left gone (inl broken) = inr (ap archives broken.1, broken.0.same)
  left gone (inr there) = inl there

  begun : (first second : List Item) (there : History) → over ≡ first ++ second → (length first ≡ length there) ⊎ (length first ≡ length there + 1) → new.past.rows ≡ put_all first old.past.rows → IsBegun old.past.rows new.past.rows (puts (map row_of_item over)) there
  begun first second there are as_many is = record {
    steps = length first;
    steps_are = as_many;
    rows_are = is ∙ puts_are first old.past.rows ∙ ap (λ (some : List Row). with_rows some old.past.rows) (sym (rows_first over first second are));
  }

  -- the rows of those that are gone, and then those of one more
  begun_gone : (gone rest : List Item) → over ≡ gone ++ rest → new.past.rows ≡ put_all gone old.past.rows → IsBegun old.past.rows new.past.rows (puts (map row_of_item over)) (archives gone)
  begun_gone gone rest are is = begun gone rest (archives gone) are (inl (sym (length-map gone leaves))) is

  begun_more : (gone : List Item) (item : Item) (rest : List Item) → over ≡ gone ++ item ∷ rest → new.past.rows ≡ put_all (gone ++ item ∷ []) old.past.rows → IsBegun old.past.rows new.past.rows (puts (map row_of_item over)) (archives gone)
  begun_more gone item rest are is =
      begun (gone ++ item ∷ []) rest (archives gone) (are ∙ sym (append_assoc gone (item ∷ []) rest)) (inr (length-append gone (item ∷ []) ∙ ap (λ (n : ℕ). n + 1) (sym (length-map gone leaves)))) is

  abbrev cut_at : (gone rest : List Item) → over ≡ gone ++ rest → Leave gone old.desk new.desk → (told → IsBegun old.past.rows new.past.rows (puts (map row_of_item over)) (archives gone)) → WasCut told doing old new
  cut_at gone rest are leave so_far = record { recorded = archives gone; rest = archives rest; entries_are = ap archives are ∙ archives_then gone rest; there = left gone leave; begun = so_far }

  all_whole : Leave over old.desk new.desk → IsTrue (is_any over) → old.desk.broken ≡ false
  all_whole (inl broken) some = absurd (false≢true (ap is_any (sym broken.1) ∙ some))
  all_whole (inr there) some = there.whole

  made_all : (count : ℕ) → ArchiveAnswers told old.desk new.desk old.past.rows new.past.rows (Ok count) → IfOk result (λ reply. reply ≡ archived_by count) → Made
  made_all count answers replied =
      serving.did (all_whole answers.1) (left over answers.1) (λ knows. answers.2 knows ∙ puts_are over old.past.rows)
      (gives (archived_by (length over)) result (subst (λ (n : ℕ). IfOk result (λ reply. reply ≡ archived_by n)) answers.0 replied))

  made_some : (fault : ArchiveFault) {T U : Type 0} → ArchiveAnswers told old.desk new.desk old.past.rows new.past.rows (Err fault) → HasCause {T = T} disk_kind (counts old.desk.disk) (counts new.desk.disk) (Err fault)
      → HasCause {T = U} history_kind old.past.faults new.past.faults (Err fault) → IfOk result (λ reply. reply ≡ trouble_of (archive_trouble fault)) → Made
  made_some faults.Keeper stop cause history replied =
      serving.lost tt history.cause (cut_at stop.gone (stop.item ∷ stop.rest) stop.are stop.is.0 (λ knows. begun_gone stop.gone (stop.item ∷ stop.rest) stop.are (stop.is.1 knows))) (some_left (leaves stop.item) (archives stop.rest)) (gives (trouble_of troubles.History) result replied)
  made_some faults.NoMemory stop cause history replied =
      serving.wanted (cut_at stop.gone (stop.item ∷ stop.rest) stop.are stop.is.0 (λ knows. either (stop.is.1 knows))) (gives (trouble_of troubles.Memory) result replied)
    where
      either : (new.past.rows ≡ put_all stop.gone old.past.rows) ⊎ (new.past.rows ≡ put_all (stop.gone ++ stop.item ∷ []) old.past.rows) → IsBegun old.past.rows new.past.rows (puts (map row_of_item over)) (archives stop.gone)
      either (inl is) = begun_gone stop.gone (stop.item ∷ stop.rest) stop.are is
      either (inr put) = begun_more stop.gone stop.item stop.rest stop.are put
  made_some (faults.Desk (desks.Journal kind)) stop cause history replied =
      serving.fell kind cause.cause
      (inl (
        record {
          recorded = archives stop.gone;
          entry = entries.Archived stop.item.id;
          rest = archives stop.rest;
          tries_are = ap archives stop.are ∙ archives_then stop.gone (stop.item ∷ stop.rest);
          becomes = stop.is.0;
        },
        λ knows. begun_more stop.gone stop.item stop.rest stop.are (stop.is.1 knows),
      ))
      (gives (trouble_of troubles.Disk) result replied)
  made_some (faults.Desk desks.Broken) stop cause history replied =
      serving.broken (record { changes_is = ap is_any stop.are ∙ is_some stop.gone stop.item stop.rest; broken = stop.is.0 })
      (λ knows. subst (IsBegun old.past.rows new.past.rows (puts (map row_of_item over))) (ap archives stop.is.1)
      (begun_more stop.gone stop.item stop.rest stop.are (stop.is.2 knows ∙ ap (λ (gone : List Item). put_all (gone ++ stop.item ∷ []) old.past.rows) (sym stop.is.1)))) (gives (trouble_of troubles.Broken) result replied)
  made_some (faults.Desk fault) stop cause history replied = absurd stop

  pub archived : (count : ℕ) → ArchiveAnswers told old.desk new.desk old.past.rows new.past.rows (Ok count) → {U : Type 0} (answer : Result U ArchiveFault) → HasCause history_kind old.past.faults new.past.faults answer → IfOk result (λ reply. reply ≡ archived_by count)
      → AnswersTask told counts old tasks.Archive at result new
  archived count answers answer history replied = (serving.by unasked (record { is = λ knows. refl; unlisted = tt }) (made_all count answers replied), history.later)

  pub unarchived : (fault : ArchiveFault) {T U : Type 0} → ArchiveAnswers told old.desk new.desk old.past.rows new.past.rows (Err fault) → HasCause {T = T} disk_kind (counts old.desk.disk) (counts new.desk.disk) (Err fault)
      → HasCause {T = U} history_kind old.past.faults new.past.faults (Err fault) → IfOk result (λ reply. reply ≡ trouble_of (archive_trouble fault)) → AnswersTask told counts old tasks.Archive at result new
  unarchived fault answers cause history replied = (serving.by unasked (record { is = λ knows. refl; unlisted = tt }) (made_some fault answers cause history replied), history.later)
