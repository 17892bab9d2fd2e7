-- Items that were moved to the history, as a run says it.
use Rattle.std.proofs.Common.{◌≡◌, ◌⊎◌, inl, inr, ℕ, ◌+◌, true, false, List, [], ◌∷◌, ◌++◌, suc, length, map, take, Ok, Err, refl, sym, ◌∙◌, ap, subst, append_assoc}
use Rattle.std.proofs.lemmas.Bool.{false≢true}
use Rattle.std.proofs.lemmas.List.{append-nil, length-append}
use Rattle.dm_types.specs.Faults.{HasCause}
use Rattle.dm_types.specs.declared.entry.Entry.TheVariants as entries
use Rattle.dm_types.specs.declared.item.Item.{Item}
use Rattle.dm_types.specs.declared.kinds.DiskKind.{DiskKind}
use Rattle.dm_item.specs.Lawful.{History}
use Rattle.dm_store.specs.Becomes.{Recorded}
use Rattle.dm_store.specs.View.{View}
use Rattle.dm_answers.specs.declared.fault.DeskFault.TheVariants as desks
use Rattle.dm_report.specs.Said.{EndsAs, Said, only}
use Rattle.dm_report.specs.declared.verdict.Verdict.TheVariants as verdicts
use Rattle.dm_hist.specs.declared.row.Row.{Row}
use Rattle.dm_hist.specs.Shown.{row_of_item}
use Rattle.dm_archive.specs.Doing.{archives_all, puts, with_rows}
use Rattle.dm_archive.specs.Faults.{disk_kind, history_kind}
use Rattle.dm_archive.specs.Moving.{ArchiveAnswers, Leave, archives, overs, put_all}
use Rattle.dm_archive.specs.declared.fault.ArchiveFault.{ArchiveFault}
use Rattle.dm_archive.specs.declared.fault.ArchiveFault.TheVariants as faults
use Rattle.dm_archive.proofs.Deciding.{puts_are}
use Rattle.dm_does.specs.Log.{ArePlain}
use Rattle.dm_past.specs.Coming.{Came, IsBegun, WasCut, all, fell, lost, stopped}
use Rattle.dm_past.specs.Past.{Past}
use Rattle.dm_past.specs.Saying.{archived_line}
use Rattle.dm_past.specs.Tasks.{Does}
use Rattle.dm_past.specs.Working.{TaskWorked, archive_verdict, given_of}
use Rattle.dm_past.specs.declared.task.Task.TheVariants as tasks

archives_then : (first second : List Item) → archives (first ++ second) ≡ archives first ++ archives second
archives_then [] second = refl
archives_then (item ∷ first) second = ap (λ (h : History). entries.Archived item.id ∷ h) (archives_then first second)

archives_length : (items : List Item) → length (archives items) ≡ length items
archives_length [] = refl
archives_length (item ∷ items) = ap (λ (n : ℕ). suc n) (archives_length items)

-- entries of items that leave open no list
archives_plain : (items : List Item) → ArePlain (archives items)
archives_plain [] = tt
archives_plain (item ∷ items) = archives_plain items

-- the rows of the first of these items
rows_first : (first second : List Item) → take (length first) (map row_of_item (first ++ second)) ≡ map row_of_item first
rows_first [] second = refl
rows_first (item ∷ first) second = ap (λ (rows : List Row). row_of_item item ∷ rows) (rows_first first second)

-- The rows of the first items were put.
begun_at : (items first second : List Item) (rows rows' : List Row) (steps : ℕ) (recorded : History) → items ≡ first ++ second → steps ≡ length first → rows' ≡ put_all first rows → (steps ≡ length recorded) ⊎ (steps ≡ length recorded + 1)
    → IsBegun rows rows' (puts (map row_of_item items)) recorded
begun_at items first second rows rows' steps recorded are size is at = record {
  steps = steps;
  steps_are = at;
  rows_are =
      is ∙ puts_are first rows
      ∙ ap (λ (some : List Row). with_rows some rows) (sym (ap (λ (n : ℕ). take n (map row_of_item items)) size ∙ ap (λ (some : List Item). take (length first) (map row_of_item some)) are ∙ rows_first first second));
}

length_push : (items : List Item) (item : Item) → length (items ++ item ∷ []) ≡ length items + 1
length_push items item = length-append items (item ∷ [])

module _ {D O : Type 0} (told : Type 0) (counts : D → DiskKind → ℕ) (old new : View D O) (past past' : Past) (whole : old.broken ≡ false) where
  abbrev over : List Item
  over = overs old.items.items

  abbrev Worked : Said → Type 0
  Worked said = TaskWorked told counts (Does told tasks.Archive) old new past past' said

  left : (gone : List Item) → Leave gone old new → Recorded old new (archives gone)
  left gone (inl broken) = absurd (false≢true (sym whole ∙ broken.0.broken))
  left gone (inr recorded) = recorded

  -- the rows of those that are gone, and then those of one more
  begun_gone : (gone rest : List Item) → over ≡ gone ++ rest → past'.rows ≡ put_all gone past.rows → IsBegun past.rows past'.rows (puts (map row_of_item over)) (archives gone)
  begun_gone gone rest are is = begun_at over gone rest past.rows past'.rows (length gone) (archives gone) are refl is (inl (sym (archives_length gone)))

  begun_more : (gone : List Item) (item : Item) (rest : List Item) → over ≡ gone ++ item ∷ rest → past'.rows ≡ put_all (gone ++ item ∷ []) past.rows → IsBegun past.rows past'.rows (puts (map row_of_item over)) (archives gone)
  begun_more gone item rest are is =
      begun_at over (gone ++ item ∷ []) rest past.rows past'.rows (length gone + 1) (archives gone) (are ∙ sym (append_assoc gone (item ∷ []) rest)) (sym (length_push gone item)) is
      (inr (ap (λ (n : ℕ). n + 1) (sym (archives_length gone))))

  cut_at : (gone rest : List Item) (failed more : History) → over ≡ gone ++ rest → archives rest ≡ failed ++ more → (told → IsBegun past.rows past'.rows (puts (map row_of_item over)) (archives gone))
      → WasCut told past.rows past'.rows (archives_all (given_of old past)) (archives gone) failed
  cut_at gone rest failed more are is begun = record { rest = more; entries_are = ap archives are ∙ archives_then gone rest ∙ ap (λ (h : History). archives gone ++ h) is; begun = begun }

  -- All were moved.
  pub moved_all : (count : ℕ) (said : Said) → ArchiveAnswers told old new past.rows past'.rows (Ok count) → EndsAs (record { verdict = verdicts.Done; out = archived_line count }) said → Worked said
  moved_all count said answers ends = record {
    doing = archives_all (given_of old past);
    is = refl;
    recorded = archives over;
    failed = [];
    broken = false;
    becomes = left over answers.1;
    plain = subst ArePlain (sym (append-nil (archives over))) (archives_plain over);
    came = by ends;
  }
    where
      by : EndsAs (record { verdict = verdicts.Done; out = archived_line count }) said → Came told (counts old.disk) (counts new.disk) past past' (archives_all (given_of old past)) (archives over) [] false said
      by (inl is) = all refl refl refl (λ knows. answers.2 knows ∙ puts_are over past.rows) (is ∙ ap (λ (n : ℕ). (let said : Said = record { verdict = verdicts.Done; out = archived_line n } in said)) answers.0)
      by (inr is) = stopped refl refl (cut_at over [] [] [] (sym (append-nil over)) refl (λ knows. begun_gone over [] (sym (append-nil over)) (answers.2 knows))) is

  -- Not all were.
  pub moved_some : (fault : ArchiveFault) (said : Said) {T U : Type 0} → ArchiveAnswers told old new past.rows past'.rows (Err fault) → said ≡ only (archive_verdict fault)
      → HasCause {T = T} disk_kind (counts old.disk) (counts new.disk) (Err fault) → HasCause {T = U} history_kind past.faults past'.faults (Err fault) → Worked said
  moved_some faults.Keeper said at is cause history = record {
    doing = archives_all (given_of old past);
    is = refl;
    recorded = archives at.gone;
    failed = [];
    broken = false;
    becomes = left at.gone at.is.0;
    plain = subst ArePlain (sym (append-nil (archives at.gone))) (archives_plain at.gone);
    came = lost refl refl (cut_at at.gone (at.item ∷ at.rest) [] (archives (at.item ∷ at.rest)) at.are refl (λ knows. begun_gone at.gone (at.item ∷ at.rest) at.are (at.is.1 knows))) history.cause is;
  }
  moved_some faults.NoMemory said at is cause history = record {
    doing = archives_all (given_of old past);
    is = refl;
    recorded = archives at.gone;
    failed = [];
    broken = false;
    becomes = left at.gone at.is.0;
    plain = subst ArePlain (sym (append-nil (archives at.gone))) (archives_plain at.gone);
    came = stopped refl refl (cut_at at.gone (at.item ∷ at.rest) [] (archives (at.item ∷ at.rest)) at.are refl (λ knows. either (at.is.1 knows))) is;
  }
    where
      either : (past'.rows ≡ put_all at.gone past.rows) ⊎ (past'.rows ≡ put_all (at.gone ++ at.item ∷ []) past.rows) → IsBegun past.rows past'.rows (puts (map row_of_item over)) (archives at.gone)
      either (inl same) = begun_gone at.gone (at.item ∷ at.rest) at.are same
      either (inr put) = begun_more at.gone at.item at.rest at.are put
  moved_some (faults.Desk (desks.Journal kind)) said at is cause history = record {
    doing = archives_all (given_of old past);
    is = refl;
    recorded = archives at.gone;
    failed = entries.Archived at.item.id ∷ [];
    broken = true;
    becomes = at.is.0;
    plain = subst ArePlain (archives_then at.gone (at.item ∷ [])) (archives_plain (at.gone ++ at.item ∷ []));
    came = fell kind (entries.Archived at.item.id) refl refl
        (cut_at at.gone (at.item ∷ at.rest) (entries.Archived at.item.id ∷ []) (archives at.rest) at.are refl (λ knows. begun_more at.gone at.item at.rest at.are (at.is.1 knows)))
        cause.cause is;
  }
  moved_some (faults.Desk desks.Broken) said at is cause history = absurd (false≢true (sym whole ∙ at.is.0.broken))
  moved_some (faults.Desk fault) said at is cause history = absurd at
