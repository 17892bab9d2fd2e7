-- What a request does to the list and to the history, and what is replied: a function of the request, of the list with the attempts that run, of what
-- the history tells, and of the moment.
use Rattle.std.specs.Prelude.{ℕ, Bool, true, false, if◌then◌else◌, List, [], ◌∷◌, length, map, Option, Some, None, Result, Ok, Err}
use Rattle.dm_types.specs.declared.entry.Entry.TheVariants as entries
use Rattle.dm_types.specs.declared.item.Item.{Item}
use Rattle.dm_types.specs.declared.item.ItemId.{ItemId}
use Rattle.dm_hist.specs.declared.row.Row.{Row}
use Rattle.dm_hist.specs.Shown.{row_of_item}
use Rattle.dm_archive.specs.Doing.{Change, drops, puts, stay}
use Rattle.dm_archive.specs.Moving.{archives, overs}
use Rattle.dm_item.specs.Lawful.{History}
use Rattle.dm_item.specs.Listing.{Listing, item_in}
use Rattle.dm_item.specs.Row.{allows, is_paused}
use Rattle.dm_report.specs.declared.verdict.Verdict.TheVariants as verdicts
use Rattle.dm_store.specs.Becomes.{run_of}
use Rattle.dm_store.specs.Lives.{life_in}
use Rattle.dm_store.specs.declared.life.Life.{Life}
use Rattle.dm_answers.specs.Pause.{pausing}
use Rattle.dm_answers.specs.declared.order.Order.{Order}
use Rattle.dm_call.specs.Asked.{asked}
use Rattle.dm_call.specs.declared.call.Call.{Call}
use Rattle.dm_call.specs.declared.call.Refusal.{Refusal}
use Rattle.dm_call.specs.declared.request.ApiRequest.{ApiRequest}
use Rattle.dm_does.specs.declared.course.Course.{Course}
use Rattle.dm_does.specs.declared.course.Course.TheVariants.{Brings, Ends}
use Rattle.dm_does.specs.declared.course.Show.{Show}
use Rattle.dm_does.specs.declared.course.Show.TheVariants as shows
use Rattle.dm_does.specs.declared.job.Job.{Job}
use Rattle.dm_does.specs.declared.job.Job.TheVariants as jobs
use Rattle.dm_does.specs.Doing.{Doing, Given, does, on_item, refuses}
use Rattle.dm_response.specs.Reply.{trouble_of}
use Rattle.dm_response.specs.declared.reply.ApiReply.{ApiReply}
use Rattle.dm_response.specs.declared.trouble.Trouble.TheVariants as troubles
use Rattle.dm_service.specs.Recalls.{Recall, by_id, by_word, is_free, is_gone, page, recall_of}
use Rattle.dm_service.specs.Replies.{archived_by, page_by, removed_reply, reply_by, report_by, row_by, rows_by, stop_by}
use Rattle.dm_service.specs.Tasks.{task_by}
use Rattle.dm_service.specs.declared.task.Task.{Task}
use Rattle.dm_service.specs.declared.task.Task.TheVariants as tasks

-- what a request looks at: the list, the attempts that run, and the moment, in milliseconds since 1970
pub record Seen : Type 0 where
  pub list : Listing
  pub lives : List Life
  pub at : ℕ

abbrev pub given_by : Seen → Given
given_by seen = record { list = seen.list; at = seen.at }

-- the entries that are recorded, what becomes of the rows of the history, and the reply
pub record Api : Type 0 where
  pub entries : History
  pub change : Change
  pub reply : ApiReply
  -- the list is to be changed, which it isn't where it is broken
  pub changes : Bool

-- an item is paused; what was landed of its attempt, where one runs, is saved first
abbrev pub pauses_with : List Life → Item → Doing
pauses_with lives item =
    if is_paused item.phase
    then record { entries = []; course = Ends verdicts.Done (shows.Line item.id) }
    else (if allows (entries.Paused item.id) item.phase then record { entries = pausing item (life_in item.id.0 lives); course = Ends verdicts.Done (shows.Line item.id) } else refuses (verdicts.WrongState item.phase))

-- what a job does to a list of which attempts may run
abbrev pub does_now : Job → Seen → Doing
does_now (jobs.Pause id) seen = on_item (given_by seen) id (pauses_with seen.lives)
does_now job seen = does job (given_by seen)

-- the job is no look alone
abbrev pub is_change : Job → Bool
is_change jobs.List = false
is_change (jobs.Show id) = false
is_change _ = true

-- the item that a course shows, of these
abbrev pub item_shown : List Item → Show → Option Item
item_shown items (shows.Line id) = item_in id.0 items
item_shown items (shows.Whole id) = item_in id.0 items
item_shown items _ = None

abbrev pub item_by : List Item → Course → Option Item
item_by items (Ends verdict show) = item_shown items show
item_by items (Brings id slices) = item_in id.0 items

-- the item that is removed
abbrev pub removed_by : Job → ItemId
removed_by (jobs.Remove id) = id
removed_by _ = record { 0 = 0 }

-- A job at the list. Items in the reply are shown as they stand behind its entries.
abbrev pub api_of : Seen → Job → Doing → Api
api_of seen job doing =
    record { entries = doing.entries; change = stay; reply = reply_by (removed_by job) (item_by (run_of doing.entries seen.list).items doing.course) doing.course; changes = is_change job }

-- the list stays, and this is replied
abbrev pub tells : ApiReply → Api
tells reply = record { entries = []; change = stay; reply = reply; changes = false }

-- some go
abbrev pub is_any : List Item → Bool
is_any [] = false
is_any (item ∷ more) = true

-- each complete or cancelled item goes to the history
abbrev pub api_archive : Seen → Api
api_archive seen = record {
  entries = archives (overs seen.list.items);
  change = puts (map row_of_item (overs seen.list.items));
  reply = archived_by (length (overs seen.list.items));
  changes = is_any (overs seen.list.items);
}

-- an item is added, where no row has its word
abbrev pub api_add : Seen → Order → Recall → Bool → Api
api_add seen order (by_word (Some row)) true = tells (row_by order.address.text row)
api_add seen order recall free = api_of seen (jobs.Add order) (does_now (jobs.Add order) seen)

-- a row is dropped
abbrev pub api_drop : ItemId → Api
api_drop id = record { entries = []; change = drops id.0; reply = removed_reply id; changes = false }

-- an item is removed; where none has the id its row is dropped
abbrev pub api_remove : Seen → ItemId → Recall → Bool → Api
api_remove seen id (by_id true) true = api_drop id
api_remove seen id recall gone = api_of seen (jobs.Remove id) (does_now (jobs.Remove id) seen)

-- part of the history
abbrev pub api_rows : Recall → Api
api_rows (page rows) = tells (rows_by rows)
api_rows recall = tells (rows_by [])

-- what a task does, where the history told this of it
abbrev pub api_task : Seen → Recall → Task → Api
api_task seen recall (tasks.Job job) = api_of seen job (does_now job seen)
api_task seen recall (tasks.Add order) = api_add seen order recall (is_free order.word seen.list.items)
api_task seen recall (tasks.Remove id) = api_remove seen id recall (is_gone id.0 seen.list.items)
api_task seen recall (tasks.Page window) = tells (page_by seen.list.items window)
api_task seen recall tasks.Archive = api_archive seen
api_task seen recall (tasks.History window) = api_rows recall
api_task seen recall tasks.Report = tells (report_by seen.list.items)
api_task seen recall tasks.Stop = tells stop_by

abbrev pub api_refused : Refusal → Api
api_refused refusal = tells (trouble_of (troubles.Refused refusal))

abbrev pub api_asked : Seen → List Row → Result Call Refusal → Api
api_asked seen rows (Ok call) = api_task seen (recall_of seen.list.items rows (task_by call)) (task_by call)
api_asked seen rows (Err refusal) = api_refused refusal

-- what a request does, where the history has these rows
abbrev pub api : Seen → List Row → ApiRequest → Api
api seen rows request = api_asked seen rows (asked request)
