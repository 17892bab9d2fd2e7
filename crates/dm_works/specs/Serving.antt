-- How a request was answered from a list and a history: what it made of both, and what is replied.
use Rattle.std.specs.Prelude.{◌≡◌, ◌≢◌, ◌⊎◌, ℕ, false, List, [], ◌++◌, Result, Ok, Err, IsTrue}
use Rattle.dm_types.specs.Faults.{NoneFell, Rose}
use Rattle.dm_types.specs.declared.kinds.DiskKind.{DiskKind}
use Rattle.dm_types.specs.declared.memory.NoMemory.{NoMemory}
use Rattle.dm_item.specs.Lawful.{History}
use Rattle.dm_store.specs.Becomes.{Fell}
use Rattle.dm_store.specs.View.{View}
use Rattle.dm_hist.specs.declared.keeper.KeeperFault.{KeeperFault}
use Rattle.dm_hist.specs.declared.row.Row.{Row}
use Rattle.dm_archive.specs.Doing.{Change, changed_rows, puts}
use Rattle.dm_past.specs.Coming.{IsBegun}
use Rattle.dm_past.specs.Past.{HasFailed, Past, past_of}
use Rattle.dm_call.specs.declared.call.Call.{Call}
use Rattle.dm_call.specs.declared.call.Refusal.{Refusal}
use Rattle.dm_response.specs.Reply.{trouble_of}
use Rattle.dm_response.specs.declared.reply.ApiReply.{ApiReply}
use Rattle.dm_response.specs.declared.trouble.Trouble.TheVariants as troubles
use Rattle.dm_service.specs.Api.{Api, api_refused, api_task}
use Rattle.dm_service.specs.Recalls.{Recall, Recalls, is_asked}
use Rattle.dm_service.specs.Tasks.{task_by}
use Rattle.dm_service.specs.declared.task.Task.{Task}
use Rattle.dm_works.specs.Answering.{Gives}
use Rattle.dm_works.specs.Deciding.{DidAll, Refused, Spoiled, seen_of}

-- what the service has: a list, and a history beside it
pub record Service (D O : Type 0) : Type 0 where
  pub desk : View D O
  pub past : Past

abbrev pub both : {D O : Type 0} → View D O → Past → Service D O
both desk past = record { desk = desk; past = past }

abbrev pub service_of : {D O K : Type 0} → (K → List Row) → (K → KeeperFault → ℕ) → View D O → K → Service D O
service_of rows faults desk keeper = both desk (past_of rows faults keeper)

-- the rows are as before, where the history tells them
abbrev pub RowsStay : {D O : Type 0} → Type 0 → Service D O → Service D O → Type 0
RowsStay told old new = told → new.past.rows ≡ old.past.rows

-- The first of its entries were recorded. The rows were changed as far, or one step more, since a row is put before its item leaves the list.
pub record WasCut {D O : Type 0} (told : Type 0) (doing : Api) (old new : Service D O) : Type 0 where
  pub recorded : History
  pub rest : History
  pub entries_are : doing.entries ≡ recorded ++ rest
  pub there : DidAll recorded old.desk new.desk
  pub begun : told → IsBegun old.past.rows new.past.rows doing.change recorded

-- rows are put: items go to the history
abbrev pub PutsRows : Change → Type 0
PutsRows (puts rows) = Unit {0}
PutsRows change = ⊥

-- A call on the disk failed. One of the entries failed, behind those that were recorded, and the rows were changed as far, or one step more; or the part of an
-- item failed, and the rows are as before.
abbrev pub FellFrom : {D O : Type 0} → Type 0 → (D → DiskKind → ℕ) → DiskKind → Api → Service D O → Service D O → Type 0
FellFrom told counts kind doing old new =
    ((failed : Fell old.desk new.desk doing.entries) × (told → IsBegun old.past.rows new.past.rows doing.change failed.recorded)) ⊎ (Spoiled counts kind old.desk new.desk × RowsStay told old new)

pub data Does {D O : Type 0} (told : Type 0) (counts : D → DiskKind → ℕ) (doing : Api) (old new : Service D O) (result : Result ApiReply NoMemory) : Type 0 where
  -- all of it was done, on a list that isn't broken where it changes it, and this is its reply
  did : (IsTrue doing.changes → old.desk.broken ≡ false) → DidAll doing.entries old.desk new.desk → (told → new.past.rows ≡ changed_rows doing.change old.past.rows) → Gives doing.reply result → Does told counts doing old new result
  -- it changes the list, which was broken before; the row of the first item that would leave it may be put
  broken : Refused doing.changes old.desk new.desk → (told → IsBegun old.past.rows new.past.rows doing.change []) → Gives (trouble_of troubles.Broken) result → Does told counts doing old new result
  -- a call on the disk failed, which its count shows
  fell : (kind : DiskKind) → Rose (counts old.desk.disk kind) (counts new.desk.disk kind) → FellFrom told counts kind doing old new → Gives (trouble_of troubles.Disk) result
      → Does told counts doing old new result
  -- the history failed, which its count shows, where rows are put, and an item is left that goes to it
  lost : PutsRows doing.change → HasFailed old.past new.past → (cut : WasCut told doing old new) → cut.rest ≢ [] → Gives (trouble_of troubles.History) result → Does told counts doing old new result
  -- memory was wanting
  wanted : WasCut told doing old new → Gives (trouble_of troubles.Memory) result → Does told counts doing old new result

-- how a task was answered
pub data TaskAnswers {D O : Type 0} (told : Type 0) (counts : D → DiskKind → ℕ) (old : Service D O) (task : Task) (at : ℕ) (result : Result ApiReply NoMemory) (new : Service D O) : Type 0 where
  -- as what the history told of it says
  by : (recall : Recall) → Recalls told old.desk.items.items old.past.rows task recall → Does told counts (api_task (seen_of old.desk at) recall task) old new result → TaskAnswers told counts old task at result new
  -- the history was asked, and failed, which its count shows
  unanswered : IsTrue (is_asked old.desk.items.items task) → HasFailed old.past new.past → new.desk ≡ old.desk → RowsStay told old new → Gives (trouble_of troubles.History) result → TaskAnswers told counts old task at result new
  -- memory was wanting before anything was done
  wanting : new.desk ≡ old.desk → RowsStay told old new → Gives (trouble_of troubles.Memory) result → TaskAnswers told counts old task at result new

-- and no count of the history fell
abbrev pub AnswersTask : {D O : Type 0} → Type 0 → (D → DiskKind → ℕ) → Service D O → Task → ℕ → Result ApiReply NoMemory → Service D O → Type 0
AnswersTask told counts old task at result new = TaskAnswers told counts old task at result new × NoneFell old.past.faults new.past.faults

abbrev pub AnswersAsked : {D O : Type 0} → Type 0 → (D → DiskKind → ℕ) → Service D O → Result Call Refusal → ℕ → Result ApiReply NoMemory → Service D O → Type 0
AnswersAsked told counts old (Ok call) at result new = AnswersTask told counts old (task_by call) at result new
AnswersAsked told counts old (Err refusal) at result new = Does told counts (api_refused refusal) old new result × NoneFell old.past.faults new.past.faults
