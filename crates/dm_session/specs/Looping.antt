-- The next connection, and all of them.
use Rattle.std.specs.Prelude.{◌≡◌, ℕ, Bool, true, false, List, [], ◌∷◌, ◌++◌, Result}
use Rattle.dm_types.specs.declared.memory.NoMemory.{NoMemory}
use Rattle.dm_edge.specs.Counts.{raised_by}
use Rattle.dm_store.specs.View.{View}
use Rattle.dm_answers.specs.Shut.{ShutAnswers}
use Rattle.dm_answers.specs.declared.fault.DeskFault.{DeskFault}
use Rattle.dm_conns.specs.Conn.{Over}
use Rattle.dm_call.specs.declared.request.ApiRequest.{ApiRequest}
use Rattle.dm_response.specs.declared.reply.ApiReply.{ApiReply}
use Rattle.dm_session.specs.Turning.{AreServed, EndsBy, Turn, Turns, stops_behind}
use Rattle.dm_session.specs.declared.turning.Closed.{Closed}
use Rattle.dm_session.specs.declared.turning.Turned.{Turned}
use Rattle.dm_session.specs.declared.turning.Turned.TheVariants as turneds

abbrev pub turned_by : Bool → Turned
turned_by true = turneds.Stops
turned_by false = turneds.GoesOn

-- one connection was served and handed back, and the service ends behind it or not
pub record IsServed {V : Type 0} (tells : Type 0) (answers : V → ApiRequest → ℕ → Result ApiReply NoMemory → V → Type 0) (service then : V) (over over' : List Over) (count count' : ℕ) (stops : Bool) : Type 0 where
  pub turn : Turn
  pub goes : Turns tells answers service then turn
  pub over_is : tells → over' ≡ over ++ turn.over ∷ []
  pub count_is : count' ≡ raised_by 1 count
  pub stops_is : stops_behind turn.end ≡ stops

-- no connection was accepted, and all is as it was
pub record IsNotServed {V : Type 0} (service then : V) (over over' : List Over) (count count' : ℕ) (accept_failed : Type 0) : Type 0 where
  pub same : then ≡ service
  pub over_is : over' ≡ over
  pub count_is : count' ≡ count
  pub failed : accept_failed

-- where one was served no accept failed
abbrev pub TurnedSo : {V : Type 0} → Type 0 → (V → ApiRequest → ℕ → Result ApiReply NoMemory → V → Type 0) → V → V → List Over → List Over → ℕ → ℕ → Type 0 → Type 0 → Turned → Type 0
TurnedSo tells answers service then over over' count count' accepts accept_failed turneds.GoesOn = IsServed tells answers service then over over' count count' false × accepts
TurnedSo tells answers service then over over' count count' accepts accept_failed turneds.Stops = IsServed tells answers service then over over' count count' true × accepts
TurnedSo tells answers service then over over' count count' accepts accept_failed turneds.NotAccepted = IsNotServed service then over over' count count' accept_failed

pub record ClosesSo {V : Type 0} (tells : Type 0) (answers : V → ApiRequest → ℕ → Result ApiReply NoMemory → V → Type 0) (service then : V) (over over' : List Over) (count count' : ℕ) (accepts accept_failed : Type 0) (requests : ℕ) (closed : Closed) : Type 0 where
  pub turns : List Turn
  pub served : AreServed tells answers service then over over' count count' turns
  pub ends : EndsBy requests accepts accept_failed turns closed

-- all that ran was interrupted, or that was hindered
pub record ShutsSo {D O : Type 0} (old new : View D O) : Type 0 where
  pub answer : Result (Unit {0}) DeskFault
  pub answers : ShutAnswers old new answer
