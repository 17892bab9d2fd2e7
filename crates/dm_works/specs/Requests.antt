-- The clause of a request: how it was answered from the list and the history, and what they show meanwhile.
use Rattle.std.specs.Prelude.{ℕ, Result}
use Rattle.dm_types.specs.declared.kinds.DiskKind.{DiskKind}
use Rattle.dm_types.specs.declared.memory.NoMemory.{NoMemory}
use Rattle.dm_disk_model.specs.Disk.{History as Clock}
use Rattle.dm_kept.specs.Files.{Says}
use Rattle.dm_store.specs.Keeps.{Keeps}
use Rattle.dm_call.specs.Asked.{asked}
use Rattle.dm_call.specs.declared.request.ApiRequest.{ApiRequest}
use Rattle.dm_response.specs.declared.reply.ApiReply.{ApiReply}
use Rattle.dm_works.specs.Serving.{AnswersAsked, Service}
use Rattle.dm_works.specs.Showing.{ShowsAsked}

-- The answer to this request at this moment; what each moment of it leaves of the list; and what each stop shows, by the list and the history together.
pub record AnswersOn {D O : Type 0} (tells told : Type 0) (clock : D → Clock) (counts : D → DiskKind → ℕ) (says : O → Says) (old : Service D O) (request : ApiRequest) (at : ℕ) (result : Result ApiReply NoMemory) (new : Service D O) : Type 0 where
  pub answers : AnswersAsked told counts old (asked request) at result new
  pub keeps : Keeps tells clock says old.desk new.desk
  pub shows : ShowsAsked tells told clock says old (asked request) new
