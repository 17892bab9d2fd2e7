-- What the list and the history show at every stop, while a request is answered.
use Rattle.std.specs.Prelude.{◌≡◌, Bool, false, List, [], ◌++◌, Result, Ok, Err}
use Rattle.dm_types.specs.declared.item.Item.{Item}
use Rattle.dm_disk_model.specs.Disk.{DiskState, History as Clock}
use Rattle.dm_item.specs.Lawful.{History}
use Rattle.dm_kept.specs.Files.{Says}
use Rattle.dm_kept.specs.Kept.{Kept}
use Rattle.dm_kept.specs.Recovery.{Found, Through}
use Rattle.dm_store.specs.Keeps.{HoldsOf, added}
use Rattle.dm_store.specs.View.{View}
use Rattle.dm_hist.specs.declared.row.Row.{Row}
use Rattle.dm_shown.specs.Shows.{ShowTheSame}
use Rattle.dm_archive.specs.Stops.{EachStop}
use Rattle.dm_call.specs.declared.call.Call.{Call}
use Rattle.dm_call.specs.declared.call.Refusal.{Refusal}
use Rattle.dm_service.specs.Recalls.{is_gone}
use Rattle.dm_service.specs.Tasks.{task_by}
use Rattle.dm_service.specs.declared.task.Task.{Task}
use Rattle.dm_service.specs.declared.task.Task.TheVariants as tasks
use Rattle.dm_works.specs.Serving.{Service}

-- This list and these rows show what some list showed with other rows: each of its items, and each row beside them, exactly once, and nothing else. That
-- list is the one that a history leaves with some of these entries behind it.
pub record ShowsSome (before : History) (rows : List Row) (entries : History) (found : Found) (rows' : List Row) : Type 0 where
  pub first : Found
  pub is : Through before entries first
  pub same : ShowTheSame first.items rows found.items rows'

-- whatever a crash now leaves of the list
abbrev pub ShowsSomeNow : Bool → Says → History → List Row → History → DiskState → List Row → Type 0
ShowsSomeNow good says before rows entries disk rows' = Kept good says (λ found. ShowsSome before rows entries found rows') disk

-- At every stop from the old service to the new one that is shown, with some of these entries. The list wasn't broken before.
abbrev pub ShowsStops : {D O : Type 0} → Type 0 → Type 0 → (D → Clock) → (O → Says) → Service D O → Service D O → History → Type 0
ShowsStops tells told clock says old new entries =
    tells → told → old.desk.broken ≡ false → (good : Bool) (before : History) → HoldsOf good (says old.desk.origin) clock old.desk before
    → EachStop (ShowsSomeNow good (says old.desk.origin) before old.past.rows entries) (clock old.desk.disk) old.past.rows (clock new.desk.disk) new.past.rows

-- no row is dropped for the task
abbrev pub DropsNone : List Item → Task → Type 0
DropsNone items (tasks.Remove id) = is_gone id.0 items ≡ false
DropsNone items task = Unit {0}

-- Of these entries, those by which something else is shown. An item that goes to the history is shown as before: by itself, or by its row.
abbrev pub showing : Task → History → History
showing tasks.Archive entries = []
showing task entries = entries

-- the entries that were recorded, and the one that failed, where one did
abbrev pub tried : {D O : Type 0} → View D O → View D O → History
tried old new = added old new ++ new.failed

abbrev pub ShowsTask : {D O : Type 0} → Type 0 → Type 0 → (D → Clock) → (O → Says) → Service D O → Task → Service D O → Type 0
ShowsTask tells told clock says old task new = DropsNone old.desk.items.items task → ShowsStops tells told clock says old new (showing task (tried old.desk new.desk))

abbrev pub ShowsAsked : {D O : Type 0} → Type 0 → Type 0 → (D → Clock) → (O → Says) → Service D O → Result Call Refusal → Service D O → Type 0
ShowsAsked tells told clock says old (Ok call) new = ShowsTask tells told clock says old (task_by call) new
ShowsAsked tells told clock says old (Err refusal) new = ShowsStops tells told clock says old new []
