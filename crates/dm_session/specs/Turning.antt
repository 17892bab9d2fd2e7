-- Connections that were served, one after another.
use Rattle.std.specs.Prelude.{◌≡◌, ◌⊎◌, ℕ, ◌<◌, Bool, true, false, List, [], ◌∷◌, ◌++◌, length, map, take, Option, Some, None, Result, MatchResult}
use Rattle.std.specs.List.{AllByRecursion}
use Rattle.dm_types.specs.declared.memory.NoMemory.{NoMemory}
use Rattle.dm_edge.specs.Counts.{raised_by}
use Rattle.dm_conns.specs.Conn.{Over}
use Rattle.dm_call.specs.declared.request.ApiRequest.{ApiRequest}
use Rattle.dm_hear.specs.Heard.{IsCut, IsFaultOf, IsRequest}
use Rattle.dm_hear.specs.declared.fault.ApiFault.{ApiFault}
use Rattle.dm_response.specs.declared.reply.ApiReply.{ApiReply}
use Rattle.dm_api.specs.Outgoing.{Outgoes}
use Rattle.dm_api.specs.declared.send.Served.{Served}
use Rattle.dm_api.specs.declared.send.Served.TheVariants as served
use Rattle.dm_session.specs.declared.turning.Closed.{Closed}
use Rattle.dm_session.specs.declared.turning.Closed.TheVariants as closes

-- one connection: its moment, what was read of it, the reply where one went out, what became of it, and what went over it
pub record Turn : Type 0 where
  pub at : ℕ
  pub heard : Result ApiRequest ApiFault
  pub reply : Option ApiReply
  pub end : Served
  pub over : Over

-- The reply went over the connection, or a front of it where a call on the connection failed; or nothing did, since the request was cut or a call failed.
abbrev pub WentOver : Type 0 → Over → Option ApiReply → Served → Type 0
WentOver tells over (Some reply) (served.Answered status stop) = (status ≡ reply.status) × (stop ≡ reply.stop) × (tells → over.sent ≡ reply.bytes)
WentOver tells over (Some reply) served.Dropped = (over.failed ≡ true) × (tells → (n : ℕ) × (over.sent ≡ take n reply.bytes))
WentOver tells over None is = (is ≡ served.Dropped) × (tells → over.sent ≡ []) × ((tells → IsCut over.stream) ⊎ (over.failed ≡ true))

-- What was read is what stands at the front of the connection's stream, where it tells its bytes; the service answered it so, and that went over the connection.
pub record Turns {V : Type 0} (tells : Type 0) (answers : V → ApiRequest → ℕ → Result ApiReply NoMemory → V → Type 0) (service then : V) (turn : Turn) : Type 0 where
  pub is : tells → MatchResult turn.heard (IsRequest turn.over.stream) (IsFaultOf turn.over.stream)
  pub outgoes : Outgoes answers service then turn.heard turn.at turn.reply
  pub over : WentOver tells turn.over turn.reply turn.end

-- one after another, from this service to that
pub data AllTurn {V : Type 0} (tells : Type 0) (answers : V → ApiRequest → ℕ → Result ApiReply NoMemory → V → Type 0) (service : V) : List Turn → V → Type 0 where
  none : AllTurn tells answers service [] service
  next : (turns : List Turn) (mid then : V) (turn : Turn) → AllTurn tells answers service turns mid → Turns tells answers mid then turn → AllTurn tells answers service (turns ++ turn ∷ []) then

-- the service ends behind the reply
abbrev pub stops_behind : Served → Bool
stops_behind (served.Answered status stop) = stop
stops_behind served.Dropped = false

-- it goes on behind each of them
abbrev pub GoOn : List Turn → Type 0
GoOn turns = AllByRecursion (λ turn. stops_behind turn.end ≡ false) turns

-- it ends behind the last one, and not before
pub record StopsLast (turns : List Turn) : Type 0 where
  pub front : List Turn
  pub last : Turn
  pub are : turns ≡ front ++ last ∷ []
  pub before : GoOn front
  pub stops : stops_behind last.end ≡ true

-- how it came to its end: so many connections were served, or the last reply ends it, or the next one could not be accepted
-- Before the first two no accept failed: no count of the connections changed.
abbrev pub EndsBy : ℕ → Type 0 → Type 0 → List Turn → Closed → Type 0
EndsBy requests accepts accept_failed turns closes.Full = (length turns ≡ requests) × GoOn turns × accepts
EndsBy requests accepts accept_failed turns closes.Stopped = StopsLast turns × accepts
EndsBy requests accepts accept_failed turns closes.AcceptFailed = accept_failed × (length turns < requests) × GoOn turns

-- how many connections were handed back, behind these too. The count stays at 2^64 - 1.
abbrev pub handed_back : List Turn → ℕ → ℕ
handed_back [] count = count
handed_back (turn ∷ more) count = handed_back more (raised_by 1 count)

-- These connections were served, and handed back in this order. Their number is counted also where what went over them isn't told.
pub record AreServed {V : Type 0} (tells : Type 0) (answers : V → ApiRequest → ℕ → Result ApiReply NoMemory → V → Type 0) (service then : V) (over over' : List Over) (count count' : ℕ) (turns : List Turn) : Type 0 where
  pub all : AllTurn tells answers service turns then
  pub over_is : tells → over' ≡ over ++ map (λ turn. turn.over) turns
  pub count_is : count' ≡ handed_back turns count
