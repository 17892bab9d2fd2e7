-- What the list and the history show at every stop of a request.
use Rattle.std.proofs.Common.{◌≡◌, inl, inr, Bool, false, List, [], ◌∷◌, ◌++◌, reverse, drop, length, Result, Ok, Err, refl, sym, ◌∙◌, ap, subst, append_assoc}
use Rattle.std.proofs.lemmas.List.{append-nil}
use Rattle.std.proofs.Math.Seq.{drop-append_seam}
use Rattle.dm_types.specs.declared.item.Item.{Item}
use Rattle.dm_disk_model.specs.Disk.{DiskState, History as Clock, now}
use Rattle.dm_disk_model.proofs.Reaching.{weaker}
use Rattle.dm_item.specs.Kept.{IsNumbered}
use Rattle.dm_item.specs.Lawful.{History, IsLawful, IsOf, left_by}
use Rattle.dm_item.specs.Listing.{applied}
use Rattle.dm_item.proofs.Histories.{keeps_step}
use Rattle.dm_item.proofs.Shorts.{numbered_of}
use Rattle.dm_kept.specs.Files.{Says}
use Rattle.dm_kept.specs.Kept.{Kept}
use Rattle.dm_kept.specs.Recovery.{Found, Through, recovered}
use Rattle.dm_kept.proofs.Entered.{items_are}
use Rattle.dm_kept.proofs.Images.{at_first}
use Rattle.dm_kept.proofs.Resting.{kept_weaker, sits_kept}
use Rattle.dm_store.specs.Keeps.{HoldsOf, IsDesk, Keeps}
use Rattle.dm_store.specs.Lives.{covers_of}
use Rattle.dm_store.specs.View.{View}
use Rattle.dm_store.proofs.Keeping.{at_rest}
use Rattle.dm_hist.specs.Rows.{AreRows}
use Rattle.dm_hist.specs.declared.row.Row.{Row}
use Rattle.dm_shown.specs.Shows.{ShowTheSame}
use Rattle.dm_shown.proofs.Once.{show_the_same, stay_same}
use Rattle.dm_archive.specs.Stops.{EachStop, ShowsEachOnce, begins, disk_goes_on, rows_change}
use Rattle.dm_does.proofs.Behind.{lawful_front}
use Rattle.dm_call.specs.Asked.{asked}
use Rattle.dm_call.specs.declared.call.Call.{Call}
use Rattle.dm_call.specs.declared.call.Refusal.{Refusal}
use Rattle.dm_call.specs.declared.request.ApiRequest.{ApiRequest}
use Rattle.dm_service.specs.Tasks.{task_by}
use Rattle.dm_service.specs.declared.task.Task.{Task}
use Rattle.dm_service.specs.declared.task.Task.TheVariants as tasks
use Rattle.dm_works.specs.Moving.{Moved, fell, recorded, same}
use Rattle.dm_works.specs.Serving.{Service}
use Rattle.dm_works.specs.Showing.{DropsNone, ShowsAsked, ShowsSome, ShowsSomeNow, ShowsStops, ShowsTask, showing, tried}

-- what holds at every stop, and what follows of it
each_weaker : (P Q : DiskState → List Row → Type 0) (leads : (disk : DiskState) (rows : List Row) → P disk rows → Q disk rows) (start : Clock) (first : List Row) (present : Clock) (rows : List Row) → EachStop P start first present rows → EachStop Q start first present rows
each_weaker P Q leads start first present rows (begins here) = begins (leads (now start) first here)
each_weaker P Q leads start first present rows (disk_goes_on before next stayed so_far moments) =
    disk_goes_on before present rows (each_weaker P Q leads start first before rows so_far) (weaker before present (λ disk. P disk rows) (λ disk. Q disk rows) (λ disk is. leads disk rows is) moments)
each_weaker P Q leads start first present rows (rows_change stays earlier next so_far here) =
    rows_change present earlier rows (each_weaker P Q leads start first present earlier so_far) (leads (now present) rows here)

-- a list shows what it shows
shows_itself : (rows : List Row) → AreRows rows → (found : Found) → IsNumbered 1 found.items found.next → ShowTheSame found.items rows found.items rows
shows_itself rows are found numbered = show_the_same 1 found.next found.items numbered rows are.rising 1 found.next found.items numbered rows are.rising (stay_same found.items rows)

-- what some front of a lawful history leaves is numbered
recovered_numbered : (history : History) → IsLawful history → (found : Found) → found ≡ recovered history → IsNumbered 1 found.items found.next
recovered_numbered history lawful found is =
    subst (λ (f : Found). IsNumbered 1 f.items f.next) (sym is) (numbered_of history (left_by 0 (reverse history)) (record { lawful = lawful; value = refl }))

through_numbered : (before entries : History) → IsLawful (before ++ entries) → (found : Found) → Through before entries found → IsNumbered 1 found.items found.next
through_numbered before [] lawful found is = recovered_numbered before (lawful_front before [] lawful) found is
through_numbered before (entry ∷ more) lawful found (inl first) = recovered_numbered before (lawful_front before (entry ∷ more) lawful) found first
through_numbered before (entry ∷ more) lawful found (inr behind) =
    through_numbered (before ++ entry ∷ []) more (subst IsLawful (sym (append_assoc before (entry ∷ []) more)) lawful) found behind

-- all that was tried is lawful behind what the desk held
module _ {D O : Type 0} (old new : View D O) (none_failed : old.failed ≡ []) (before : History) (of : IsOf before old.items) where
  tried_are : (entries failed : History) → new.list ≡ old.list ++ entries → new.failed ≡ failed → tried old new ≡ entries ++ failed
  tried_are entries failed list failed_is =
      ap (λ (h : History). drop (length old.list) h ++ new.failed) list ∙ ap (λ (h : History). h ++ new.failed) (drop-append_seam old.list entries) ∙ ap (λ (h : History). entries ++ h) failed_is

  tried_lawful : Moved old new → IsLawful (before ++ tried old new)
  tried_lawful (same is) =
      subst (λ (h : History). IsLawful (before ++ h))
      (sym (tried_are [] [] (ap (λ (v : View D O). v.list) is ∙ sym (append-nil old.list)) (ap (λ (v : View D O). v.failed) is ∙ none_failed)))
      (subst IsLawful (sym (append-nil before)) of.lawful)
  tried_lawful (recorded entries plain becomes) =
      subst (λ (h : History). IsLawful (before ++ h)) (sym (tried_are entries [] becomes.list_is becomes.failed_is ∙ append-nil entries)) (becomes.lawful before of).lawful
  tried_lawful (fell entries entry plain becomes) =
      subst (λ (h : History). IsLawful (before ++ h)) (sym (tried_are entries (entry ∷ []) becomes.list_is becomes.failed_is))
      (subst IsLawful (append_assoc before entries (entry ∷ []))
      (keeps_step (before ++ entries) entry new.items (applied entry new.items) (becomes.lawful before of) (record { room = (becomes.may).0.room; meets = (becomes.may).0.meets; value = refl })).lawful)

module _ {D O : Type 0} (tells told : Type 0) (clock : D → Clock) (says : O → Says) (old new : Service D O) where
  abbrev At : Bool → History → History → DiskState → List Row → Type 0
  At good before entries = ShowsSomeNow good (says old.desk.origin) before old.past.rows entries

  -- Nothing was shown but what was shown before.
  now_shown : (entries : History) → IsDesk tells clock old.desk → AreRows old.past.rows → old.desk.broken ≡ false → (good : Bool) (before : History) → HoldsOf good (says old.desk.origin) clock old.desk before
      → At good before entries (now (clock old.desk.disk)) old.past.rows
  now_shown entries is are whole good before holds =
      kept_weaker good (says old.desk.origin) (Through before []) (λ (found : Found). ShowsSome before old.past.rows entries found old.past.rows) (now (clock old.desk.disk))
      (λ found is_first. record {
        first = found;
        is = subst (Through before entries) (sym is_first) (at_first before entries);
        same = shows_itself old.past.rows are found (recovered_numbered before holds.items.lawful found is_first);
      })
      (sits_kept good (says old.desk.origin) before [] old.desk.gate (covers_of old.desk.lives) (now (clock old.desk.disk)) (at_rest good (says old.desk.origin) clock old.desk before whole holds))

  -- The rows rest, and what is shown is what the list shows with some of the entries that were tried.
  pub rests_shows : IsDesk tells clock old.desk → (told → AreRows old.past.rows) → Moved old.desk new.desk → Keeps tells clock says old.desk new.desk → (told → new.past.rows ≡ old.past.rows) → ShowsStops tells told clock says old new (tried old.desk new.desk)
  rests_shows is rising moved keeps rest sees knows whole good before holds =
      subst (λ (rows : List Row). EachStop (At good before (tried old.desk new.desk)) (clock old.desk.disk) old.past.rows (clock new.desk.disk) rows) (sym (rest knows))
      (disk_goes_on (clock old.desk.disk) (clock new.desk.disk) old.past.rows (begins (now_shown (tried old.desk new.desk) is (rising knows) whole good before holds))
      (weaker (clock old.desk.disk) (clock new.desk.disk) (Kept good (says old.desk.origin) (Through before (tried old.desk new.desk))) (λ disk. At good before (tried old.desk new.desk) disk old.past.rows)
      (λ disk. kept_weaker good (says old.desk.origin) (Through before (tried old.desk new.desk)) (λ (found : Found). ShowsSome before old.past.rows (tried old.desk new.desk) found old.past.rows) disk
      (λ found through. record {
        first = found;
        is = through;
        same = shows_itself old.past.rows (rising knows) found (through_numbered before (tried old.desk new.desk) (tried_lawful old.desk new.desk (is.failed whole) before holds.items moved) found through);
      }))
      (keeps sees good before holds).moments))

  -- Nothing was done.
  pub none_shows : (entries : History) → IsDesk tells clock old.desk → (told → AreRows old.past.rows) → new ≡ old → ShowsStops tells told clock says old new entries
  none_shows entries is rising same_is sees knows whole good before holds =
      subst (λ (s : Service D O). EachStop (At good before entries) (clock old.desk.disk) old.past.rows (clock s.desk.disk) s.past.rows) (sym same_is) (begins (now_shown entries is (rising knows) whole good before holds))

  -- What is shown once at every stop.
  pub once_shows : (tells → told → old.desk.broken ≡ false → (good : Bool) (before : History) → HoldsOf good (says old.desk.origin) clock old.desk before
      → EachStop (ShowsEachOnce good (says old.desk.origin) old.desk.items.items old.past.rows) (clock old.desk.disk) old.past.rows (clock new.desk.disk) new.past.rows) → ShowsStops tells told clock says old new []
  once_shows stops sees knows whole good before holds =
      each_weaker (ShowsEachOnce good (says old.desk.origin) old.desk.items.items old.past.rows) (At good before [])
      (λ disk rows. kept_weaker good (says old.desk.origin) (λ (found : Found). ShowTheSame old.desk.items.items old.past.rows found.items rows) (λ (found : Found). ShowsSome before old.past.rows [] found rows) disk
      (λ found is. record {
        first = recovered before;
        is = refl;
        same = subst (λ (items : List Item). ShowTheSame items old.past.rows found.items rows) (items_are before old.desk.items holds.items) is;
      }))
      (clock old.desk.disk) old.past.rows (clock new.desk.disk) new.past.rows (stops sees knows whole good before holds)

  -- By the task.

  pub rests_task : (task other : Task) → task ≡ other → ((entries : History) → showing other entries ≡ entries) → IsDesk tells clock old.desk → (told → AreRows old.past.rows) → Moved old.desk new.desk → Keeps tells clock says old.desk new.desk
      → (DropsNone old.desk.items.items other → told → new.past.rows ≡ old.past.rows) → ShowsTask tells told clock says old task new
  rests_task task other is shown desk rising moved keeps rest =
      subst (λ (t : Task). ShowsTask tells told clock says old t new) (sym is)
      (λ drops. subst (ShowsStops tells told clock says old new) (sym (shown (tried old.desk new.desk))) (rests_shows desk rising moved keeps (rest drops)))

  pub archive_task : (task : Task) → task ≡ tasks.Archive → ShowsStops tells told clock says old new [] → ShowsTask tells told clock says old task new
  archive_task task is shows = subst (λ (t : Task). ShowsTask tells told clock says old t new) (sym is) (λ drops. shows)

  pub none_task : (task : Task) → IsDesk tells clock old.desk → (told → AreRows old.past.rows) → new ≡ old → ShowsTask tells told clock says old task new
  none_task task desk rising same_is drops = none_shows (showing task (tried old.desk new.desk)) desk rising same_is

  -- By what is asked.

  pub task_asked : (request : ApiRequest) (call : Call) (task : Task) → asked request ≡ Ok call → task ≡ task_by call → ShowsTask tells told clock says old task new → ShowsAsked tells told clock says old (asked request) new
  task_asked request call task is task_is shows =
      subst (λ (a : Result Call Refusal). ShowsAsked tells told clock says old a new) (sym is) (subst (λ (t : Task). ShowsTask tells told clock says old t new) task_is shows)

  pub none_asked : (request : ApiRequest) → IsDesk tells clock old.desk → (told → AreRows old.past.rows) → new ≡ old → ShowsAsked tells told clock says old (asked request) new
  none_asked request desk rising same_is = by_asked (asked request)
    where
      by_asked : (a : Result Call Refusal) → ShowsAsked tells told clock says old a new
      by_asked (Ok call) = none_task (task_by call) desk rising same_is
      by_asked (Err refusal) = none_shows [] desk rising same_is
