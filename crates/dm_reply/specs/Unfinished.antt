-- What a fault of the wire ended before it was whole, by the bytes that the wire had given.
use Rattle.std.specs.Prelude.{◌≡◌, ℕ, ◌<◌, ◌⊎◌, List, length, Result, Ok, Err}
use Rattle.httparse.specs.Grammar.{ResponseHead}
use Rattle.dm_policy.specs.declared.cause.Cause.{Cause}
use Rattle.dm_policy.specs.declared.cause.Cause.TheVariants as cause
use Rattle.dm_edge.specs.declared.framing.Framing.{Framing}
use Rattle.dm_edge.specs.declared.framing.Framing.TheVariants as framing
use Rattle.dm_edge.specs.Head.{ComesTo, IsHeadCut}
use Rattle.dm_edge.specs.declared.wanted.Wanted.{Wanted}
use Rattle.dm_edge.specs.declared.wanted.Wanted.TheVariants.{Whole, Part}
use Rattle.dm_edge.specs.Begins.{BeginsContent, IsOfWire}
use Rattle.dm_edge.specs.Reply.{BringsFramed, HasSize}
use Rattle.dm_reply.specs.declared.got.Got.{Got}
use Rattle.dm_reply.specs.declared.head.HeadFault.{HeadFault}
use Rattle.dm_reply.specs.declared.head.HeadFault.TheVariants as fault

-- A counted content lacks bytes. A front of chunks is never whole, and what the connection's end frames isn't whole before that end is told.
abbrev pub Lacks : Framing → List ℕ → Type 0
Lacks (framing.Counted count) content = length content < count
Lacks framing.ToEnd content = Unit {0}
Lacks framing.Chunked content = Unit {0}

-- All that was given behind this head brought this framed content and no more, and it isn't whole by that.
pub record IsFramedUnfinished (wanted : Wanted) (head : ResponseHead) (given content : List ℕ) : Type 0 where
  pub framing : Framing
  pub bytes : List ℕ
  pub begins : BeginsContent wanted given head framing bytes
  pub brings : BringsFramed framing bytes content
  pub lacks : Lacks framing content

-- and the part that is wanted lacks bytes
pub record IsUnfinishedPart (wanted : Wanted) (head : ResponseHead) (given content : List ℕ) : Type 0 where
  pub size : ℕ
  pub has_size : HasSize wanted head size
  pub framed : IsFramedUnfinished wanted head given content
  pub lacks : length content < size

-- the wanted content behind this head isn't whole by what was given
abbrev pub StaysOpen : Wanted → ResponseHead → List ℕ → List ℕ → Type 0
StaysOpen Whole head given content = IsFramedUnfinished Whole head given content
StaysOpen (Part first last tag known) head given content = IsUnfinishedPart (Part first last tag known) head given content

-- after a fault of the wire, or where it had no memory, this holds
abbrev pub LeavesBy : Type 0 → Result Got Cause → Type 0
LeavesBy Unfinished (Ok got) = Unit {0}
LeavesBy Unfinished (Err broke) = IsOfWire broke ⊎ (broke ≡ cause.Memory) → Unfinished

-- After a fault of the wire, or where it had no memory, the content so far is all that was brought, and isn't whole.
abbrev pub LeavesContent : Wanted → ResponseHead → List ℕ → List ℕ → Result Got Cause → Type 0
LeavesContent wanted head given content result = LeavesBy (StaysOpen wanted head given content) result

-- the same, of the framed content
abbrev pub LeavesFramed : Wanted → ResponseHead → List ℕ → List ℕ → Result Got Cause → Type 0
LeavesFramed wanted head given content result = LeavesBy (IsFramedUnfinished wanted head given content) result

-- Behind the interim heads no whole head was given, and one may come: a stream that ended there would be cut.
pub record IsHeadOpen (given : List ℕ) : Type 0 where
  pub from : List ℕ
  pub comes : ComesTo given from
  pub open_head : IsHeadCut from

-- after a fault of the wire the head is open
abbrev pub LeavesHead : List ℕ → HeadFault → Type 0
LeavesHead given (fault.Broke broke) = IsOfWire broke → IsHeadOpen given
LeavesHead given fault.NoMemory = Unit {0}
