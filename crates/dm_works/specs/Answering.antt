-- How a job at the list was answered: what it made of the desk, and what is replied.
use Rattle.std.specs.Prelude.{◌≡◌, ◌⊎◌, ℕ, false, Result, Ok, Err, IsTrue}
use Rattle.dm_types.specs.Faults.{Rose}
use Rattle.dm_types.specs.declared.kinds.DiskKind.{DiskKind}
use Rattle.dm_types.specs.declared.memory.NoMemory.{NoMemory}
use Rattle.dm_store.specs.View.{View}
use Rattle.dm_response.specs.Reply.{trouble_of}
use Rattle.dm_response.specs.declared.reply.ApiReply.{ApiReply}
use Rattle.dm_response.specs.declared.trouble.Trouble.TheVariants as troubles
use Rattle.dm_service.specs.Api.{Api}
use Rattle.dm_works.specs.Deciding.{DidAll, FellBy, Refused}

-- this is replied, or memory was wanting for the reply
abbrev pub Gives : ApiReply → Result ApiReply NoMemory → Type 0
Gives reply result = (result ≡ Ok reply) ⊎ (result ≡ Err (record {}))

pub data Answered {D O : Type 0} (counts : D → DiskKind → ℕ) (doing : Api) (old new : View D O) (result : Result ApiReply NoMemory) : Type 0 where
  -- all of it was done, on a list that isn't broken where it changes it, and this is its reply
  did : (IsTrue doing.changes → old.broken ≡ false) → DidAll doing.entries old new → Gives doing.reply result → Answered counts doing old new result
  -- it changes the list, which was broken before
  broken : Refused doing.changes old new → Gives (trouble_of troubles.Broken) result → Answered counts doing old new result
  -- a call on the disk failed, which its count shows
  fell : (kind : DiskKind) → Rose (counts old.disk kind) (counts new.disk kind) → FellBy counts kind doing.entries old new → Gives (trouble_of troubles.Disk) result → Answered counts doing old new result
  -- memory was wanting, and nothing changed
  wanted : new ≡ old → Gives (trouble_of troubles.Memory) result → Answered counts doing old new result
