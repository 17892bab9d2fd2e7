-- One step of the content: what comes next, and what it makes of a reader.
use Rattle.std.specs.Prelude.{◌≡◌, ℕ, ◌+◌, ◌<◌, ◌≤◌, List, [], ◌++◌, take, min, Option, Some, None, IfSome, Result, Ok, Err}
use Rattle.dm_types.specs.Faults.{Rose}
use Rattle.dm_policy.specs.declared.cause.Cause.{Cause}
use Rattle.dm_policy.specs.declared.cause.Cause.TheVariants as cause
use Rattle.dm_edge.specs.declared.fault.WireFault.{WireFault}
use Rattle.dm_edge.specs.declared.fault.WireFault.TheVariants as wire
use Rattle.dm_edge.specs.Wire.{Told, stream_of}
use Rattle.httparse.specs.Grammar.{ResponseHead}
use Rattle.dm_edge.specs.declared.wanted.Wanted.{Wanted}
use Rattle.dm_edge.specs.Begins.{most_content}
use Rattle.dm_edge.specs.Reply.{IsFramedWhole, FramedBroke}
use Rattle.dm_reply.specs.declared.body.Body.{Body}
use Rattle.dm_reply.specs.declared.body.Body.TheVariants as body
use Rattle.dm_reply.specs.declared.head.HeadFault.{HeadFault}
use Rattle.dm_reply.specs.declared.head.HeadFault.TheVariants as head_fault
use Rattle.dm_reply.specs.declared.got.Got.{Got}
use Rattle.dm_reply.specs.declared.got.Got.TheVariants as got
use Rattle.dm_reply.specs.Content.{Reading, Reader, HasFramed, counted_of}

-- what a fault of the wire is while the head is read
abbrev pub head_fault_of : WireFault → HeadFault
head_fault_of wire.Failed = head_fault.Broke cause.NetFailed
head_fault_of wire.Timeout = head_fault.Broke cause.NetTimeout
head_fault_of wire.NoMemory = head_fault.NoMemory

-- so many bytes of the stream came, from those ahead or from the wire; where none came it is the end
pub record Nexts (before now : Told) (old new buffer : List ℕ) (n : ℕ) : Type 0 where
  pub piece : List ℕ
  pub given : now.given ≡ before.given ++ piece
  pub moved : old ++ piece ≡ take n buffer ++ new
  pub ended : n ≡ 0 → (now.left ≡ []) × (new ≡ [])

-- a reading that nothing ended
abbrev pub going : List ℕ → Body → ℕ → Reading
going ahead body given = record { ahead = ahead; body = body; given = given; broke = None }

-- a reading after an answer
abbrev pub settled : Reading → Result Got Cause → Reading
settled reading (Ok (got.Bytes n)) = record reading { given = reading.given + n }
settled reading (Ok got.End) = reading
settled reading (Err broke) = record reading { broke = Some broke }

-- bytes keep to this limit, where so many were given before
abbrev pub IsWithin : ℕ → ℕ → Result Got Cause → Type 0
IsWithin limit given (Ok (got.Bytes n)) = given + n ≤ limit
IsWithin limit given (Ok got.End) = Unit {0}
IsWithin limit given (Err broke) = Unit {0}

-- where the framing tells a number of bytes, the end comes behind so many
abbrev pub EndsCounted : Reading → Result Got Cause → Type 0
EndsCounted reading (Ok (got.Bytes n)) = Unit {0}
EndsCounted reading (Ok got.End) = IfSome (counted_of reading.body) (λ n. reading.given ≡ n)
EndsCounted reading (Err broke) = Unit {0}

-- want of memory is a cause only where the wire wanted it
abbrev pub ShowsWant : ℕ → ℕ → Cause → Type 0
ShowsWant before now broke = broke ≡ cause.Memory → Rose before now

-- bytes are some, the caller's room is kept to, and so is this limit
abbrev pub KeepsTo : ℕ → ℕ → ℕ → Result Got Cause → Type 0
KeepsTo limit given room (Ok (got.Bytes n)) = (0 < n) × (n ≤ room) × (given + n ≤ limit)
KeepsTo limit given room (Ok got.End) = Unit {0}
KeepsTo limit given room (Err broke) = Unit {0}

-- What an answer says of the framed content, where this much of it was given before. The buffer is the one at the return.
abbrev pub FramedSays : Wanted → ResponseHead → Told → Reading → Result Got Cause → List ℕ → List ℕ → Type 0
FramedSays wanted head now new (Ok (got.Bytes n)) buffer content =
    HasFramed wanted head now.given new (content ++ take n buffer)
FramedSays wanted head now new (Ok got.End) buffer content = IsFramedWhole wanted head (stream_of now) content × HasFramed wanted head now.given new content
FramedSays wanted head now new (Err broke) buffer content = FramedBroke wanted head (stream_of now) content broke × (new.broke ≡ Some broke)

-- what an answer at the end says, which has no bytes
abbrev pub EndSays : Wanted → ResponseHead → Told → Reading → Result Got Cause → List ℕ → Type 0
EndSays wanted head now reading (Ok (got.Bytes n)) content = ⊥
EndSays wanted head now reading (Ok got.End) content = IsFramedWhole wanted head (stream_of now) content × HasFramed wanted head now.given reading content
EndSays wanted head now reading (Err broke) content = FramedBroke wanted head (stream_of now) content broke

-- the same, of the reader
abbrev pub settled_reader : Reader → Result Got Cause → Reader
settled_reader reader result = record reader { reading = settled reader.reading result }

-- the most that a reader with this framing gives
abbrev pub most_of : Body → ℕ
most_of (body.Counted wanted) = wanted
most_of body.ToEnd = most_content
most_of (body.Chunked chunks) = most_content

-- the reader wants the same, and has given as much, which nothing ended
pub record IsSameReader (old new : Reader) : Type 0 where
  pub wanted : new.wanted ≡ old.wanted
  pub size : new.size ≡ old.size
  pub given : new.reading.given ≡ old.reading.given
  pub unbroken : new.reading.broke ≡ None
  pub most : most_of new.reading.body ≡ most_of old.reading.body
  pub counted : counted_of new.reading.body ≡ counted_of old.reading.body

-- no more than a part has, where there is one
abbrev pub least_of : Option ℕ → ℕ → ℕ
least_of None most = most
least_of (Some size) most = min size most
