-- A page of the history that was turned, as a run says it.
use Rattle.std.proofs.Common.{◌≡◌, inl, inr, ℕ, Bool, true, false, List, [], get_or, Err, refl, sym, subst, arith}
use Rattle.std.specs.Prelude.{not}
use Rattle.std.specs.List.{All}
use Rattle.std.proofs.lemmas.List.Elements.{All-take, filter_passes}
use Rattle.dm_types.specs.Faults.{HasCause, NoneFell}
use Rattle.dm_types.specs.declared.item.Item.{Item}
use Rattle.dm_types.specs.declared.kinds.DiskKind.{DiskKind}
use Rattle.dm_disk_model.specs.Disk.{DiskState, History as Clock, now}
use Rattle.dm_disk_model.proofs.Reaching.{at_start}
use Rattle.dm_kept.specs.Files.{Says}
use Rattle.dm_land.proofs.Steps.{recorded_none}
use Rattle.dm_store.specs.Keeps.{IsDesk}
use Rattle.dm_store.specs.View.{View}
use Rattle.dm_store.proofs.Keeping.{keeps_same}
use Rattle.dm_report.specs.Said.{EndsAs, Said, only}
use Rattle.dm_report.specs.declared.verdict.Verdict.TheVariants as verdicts
use Rattle.dm_hist.specs.Faults.{keeper_kind}
use Rattle.dm_hist.specs.declared.keeper.KeeperFault.{KeeperFault}
use Rattle.dm_hist.specs.declared.keeper.KeeperFault.TheVariants as keepers
use Rattle.dm_hist.specs.declared.row.Row.{Row}
use Rattle.dm_hist.specs.Rows.{AreRows, rows_above}
use Rattle.dm_hist.specs.Shown.{is_listed, shown}
use Rattle.dm_shown.specs.Pages.{shown_page}
use Rattle.dm_archive.specs.Doing.{lines, says as only_says}
use Rattle.dm_archive.specs.Stops.{EachStop, ShowsEachOnce}
use Rattle.dm_archive.proofs.Moves.{moves_start}
use Rattle.dm_past.specs.Coming.{Came, WasCut, all, lost, stopped}
use Rattle.dm_past.specs.Past.{Past}
use Rattle.dm_past.specs.Saying.{text_of}
use Rattle.dm_past.specs.Tasks.{Does, IsPage}
use Rattle.dm_past.specs.Working.{TaskGoes, TaskShows, TaskWorked, given_of, keeper_verdict}
use Rattle.dm_past.specs.declared.task.Task.TheVariants as tasks

-- no row that is shown is one whose id an item has
shown_unlisted : (items : List Item) (after limit : ℕ) (rows : List Row) → All (λ (row : Row). is_listed row.id.0 items ≡ false) (shown_page items after limit rows)
shown_unlisted items after limit rows =
    All-take (λ (row : Row). is_listed row.id.0 items ≡ false) limit (shown items (rows_above after rows))
    (λ k d less. not_listed (is_listed (get_or (shown items (rows_above after rows)) k d).id.0 items) (filter_passes (λ (row : Row). not (is_listed row.id.0 items)) (rows_above after rows) k d less))
  where
    not_listed : (b : Bool) → not b ≡ true → b ≡ false
    not_listed true is = absurd cc
    not_listed false is = refl

module _ {D O : Type 0} (tells told : Type 0) (clock : D → Clock) (counts : D → DiskKind → ℕ) (far : D → ℕ) (says : O → Says) (desk : View D O) (past past' : Past) (is_desk : IsDesk tells clock desk) (whole : desk.broken ≡ false) where
  none_cut : (rows : List Row) → (told → past'.rows ≡ past.rows) → WasCut told past.rows past'.rows (only_says verdicts.Done (lines rows)) [] []
  none_cut rows same = record { rest = []; entries_are = refl; begun = λ knows. record { steps = 0; steps_are = inl refl; rows_are = same knows } }

  worked_by : (after limit : ℕ) (rows : List Row) (said : Said) → IsPage told after limit (given_of desk past) rows → Came told (counts desk.disk) (counts desk.disk) past past' (only_says verdicts.Done (lines rows)) [] [] false said
      → TaskWorked told counts (Does told (tasks.Page after limit)) desk desk past past' said
  worked_by after limit rows said page came = record {
    doing = only_says verdicts.Done (lines rows);
    is = record { page = rows; is_page = page; doing_is = refl };
    recorded = [];
    failed = [];
    broken = false;
    becomes = recorded_none desk whole (is_desk.failed whole);
    plain = tt;
    came = came;
  }

  -- The rows are told, or memory was wanting for that.
  pub page_told : (after limit : ℕ) (rows : List Row) (said : Said) → (told → rows ≡ shown_page desk.items.items after limit past.rows) → All (λ (row : Row). is_listed row.id.0 desk.items.items ≡ false) rows → (told → past'.rows ≡ past.rows)
      → EndsAs (record { verdict = verdicts.Done; out = text_of (lines rows) }) said → TaskWorked told counts (Does told (tasks.Page after limit)) desk desk past past' said
  page_told after limit rows said page unlisted same (inl is) = worked_by after limit rows said (record { unlisted = unlisted; is = page }) (all refl refl refl same is)
  page_told after limit rows said page unlisted same (inr is) = worked_by after limit rows said (record { unlisted = unlisted; is = page }) (stopped refl refl (none_cut rows same) is)

  -- The history failed, or memory was wanting for its rows.
  pub page_lost : (after limit : ℕ) (fault : KeeperFault) (said : Said) {T : Type 0} → (told → past'.rows ≡ past.rows) → HasCause {T = T} keeper_kind past.faults past'.faults (Err fault) → said ≡ only (keeper_verdict fault)
      → TaskWorked told counts (Does told (tasks.Page after limit)) desk desk past past' said
  page_lost after limit keepers.Failed said same cause is =
      let rows = shown_page desk.items.items after limit past.rows in
      worked_by after limit rows said (record { unlisted = shown_unlisted desk.items.items after limit past.rows; is = λ knows. refl }) (lost refl refl (none_cut rows same) cause.cause is)
  page_lost after limit keepers.NoMemory said same cause is =
      let rows = shown_page desk.items.items after limit past.rows in
      worked_by after limit rows said (record { unlisted = shown_unlisted desk.items.items after limit past.rows; is = λ knows. refl }) (stopped refl refl (none_cut rows same) is)

  pub page_goes : NoneFell past.faults past'.faults → TaskGoes tells clock counts far says desk desk past past'
  page_goes later = record {
    keeps = keeps_same tells clock says desk desk refl;
    files = λ sees. at_start (clock desk.disk) (λ (d : DiskState). d.files ≡ (now (clock desk.disk)).files) refl;
    later = λ kind. omega arith;
    near = λ short. refl;
    past_later = later;
  }

  pub page_shows : (told → AreRows past.rows) → (told → past'.rows ≡ past.rows) → TaskShows tells told clock says desk desk past past'
  page_shows rising same sees knows good before holds =
      subst (λ (rows : List Row). EachStop (ShowsEachOnce good (says desk.origin) desk.items.items past.rows) (clock desk.disk) past.rows (clock desk.disk) rows) (sym (same knows))
      ((moves_start tells told clock counts far says desk past.rows past.faults is_desk).stops sees knows (rising knows) whole good before holds)
