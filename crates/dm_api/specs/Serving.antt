-- What serving a connection leaves.
use Rattle.std.specs.Prelude.{◌≡◌, ◌⊎◌, ℕ, List, [], ◌++◌, take, Option, Some, None, Result, MatchResult}
use Rattle.dm_types.specs.Faults.{Rose}
use Rattle.dm_types.specs.declared.memory.NoMemory.{NoMemory}
use Rattle.dm_edge.specs.Wire.{Told, stream_of}
use Rattle.dm_edge.specs.declared.fault.EdgeFault.{EdgeFault}
use Rattle.dm_edge.specs.declared.fault.EdgeFault.TheVariants.{Failed}
use Rattle.dm_call.specs.declared.request.ApiRequest.{ApiRequest}
use Rattle.dm_hear.specs.Heard.{IsCut, IsFaultOf, IsRequest}
use Rattle.dm_hear.specs.declared.fault.ApiFault.{ApiFault}
use Rattle.dm_response.specs.declared.reply.ApiReply.{ApiReply}
use Rattle.dm_api.specs.Outgoing.{Outgoes}
use Rattle.dm_api.specs.declared.send.Served.{Served}
use Rattle.dm_api.specs.declared.send.Served.TheVariants as served

-- On a connection that tells its bytes these were added to what was written. The stream stays.
pub record Adds (before after : Told) (bytes : List ℕ) : Type 0 where
  pub sent : after.sent ≡ before.sent ++ bytes
  pub stream : stream_of after ≡ stream_of before

-- The whole reply was written, and its status and end are told; or a write failed, and some front of it was written.
abbrev pub Sends : Type 0 → Told → Told → (EdgeFault → ℕ) → (EdgeFault → ℕ) → ApiReply → Served → Type 0
Sends tells before after old new reply (served.Answered status stop) = (status ≡ reply.status) × (stop ≡ reply.stop) × (tells → Adds before after reply.bytes)
Sends tells before after old new reply served.Dropped = Rose (old Failed) (new Failed) × (tells → (n : ℕ) × Adds before after (take n reply.bytes))

-- nothing was written
abbrev pub SendsNothing : Type 0 → Told → Told → Served → Type 0
SendsNothing tells before after is = (is ≡ served.Dropped) × (tells → Adds before after [])

-- the reply went out, where there is one
abbrev pub SendsOut : Type 0 → Told → Told → (EdgeFault → ℕ) → (EdgeFault → ℕ) → Option ApiReply → Served → Type 0
SendsOut tells before after old new (Some reply) is = Sends tells before after old new reply is
SendsOut tells before after old new None is = SendsNothing tells before after is

-- where nothing goes out the request was cut, or a read failed
abbrev pub WasDropped : Type 0 → Told → (EdgeFault → ℕ) → (EdgeFault → ℕ) → Option ApiReply → Type 0
WasDropped tells before old new (Some reply) = Unit {0}
WasDropped tells before old new None = (tells → IsCut before.left) ⊎ Rose (old Failed) (new Failed)

-- Something was read, which is what stands at the front of the stream; the service answered it so, and this went out.
pub record Serves {V : Type 0} (tells : Type 0) (answers : V → ApiRequest → ℕ → Result ApiReply NoMemory → V → Type 0) (service then : V) (before after : Told) (old new : EdgeFault → ℕ) (now : ℕ) (end : Served) : Type 0 where
  pub heard : Result ApiRequest ApiFault
  pub is : tells → MatchResult heard (IsRequest before.left) (IsFaultOf before.left)
  pub reply : Option ApiReply
  pub outgoes : Outgoes answers service then heard now reply
  pub sends : SendsOut tells before after old new reply end
  pub dropped : WasDropped tells before old new reply
