-- A generated wire and its net, as contracts see them.
use Rattle.std.specs.Prelude.{◌≡◌, ◌+◌, ◌<◌, ◌≤◌, ◌^◌, ℕ, true, List, [], ◌∷◌, ◌++◌, length, take, drop}
use Rattle.dm_edge.specs.Counts.{raised_by}
use Rattle.dm_edge.specs.Wire.{Purpose, Told, Closed, closed_of}
use Rattle.dm_edge.specs.declared.fault.WireFault.{WireFault}
use Rattle.dm_edge.specs.declared.fault.WireFault.TheVariants as faults
use Rattle.dm_edge.specs.declared.fault.NetFault.{NetFault}
use Rattle.dm_edge.specs.declared.fault.NetFault.TheVariants as net_faults
use Rattle.dm_generated.specs.Replies.{Answers, head_of, is_reply, stream_with}
use Rattle.dm_generated.specs.declared.reply.Reply.{Reply}
use Rattle.dm_generated.specs.declared.reply.Reply.TheVariants as replies

pub record Wired : Type 0 where
  -- the number whose content it brings
  pub number : ℕ
  -- its own number among the wires of its net
  pub wire : ℕ
  pub purpose : Purpose
  pub sent : List ℕ
  pub reply : Reply
  -- how many bytes were received
  pub given : ℕ
  -- how often memory was wanting
  pub wants : ℕ

-- what a wire keeps true: it has the head of a reply that can be asked for, and gave no more than that says
pub record IsWire (number wire : ℕ) (reply : Reply) (head : List ℕ) (given : ℕ) : Type 0 where
  pub small : number < 2 ^ 32
  pub good : is_reply number reply ≡ true
  pub head_is : head ≡ head_of number reply
  pub within : given ≤ length (stream_with number wire reply)

abbrev pub told_by : Wired → Told
told_by wire = record {
  given = take wire.given (stream_with wire.number wire.wire wire.reply);
  left = drop wire.given (stream_with wire.number wire.wire wire.reply);
  sent = wire.sent;
}

-- a wire that was just connected
abbrev pub fresh_wire : (number wire : ℕ) → Purpose → Wired
fresh_wire number wire purpose = record { number = number; wire = wire; purpose = purpose; sent = []; reply = replies.Nothing; given = 0; wants = 0 }

-- The whole piece was sent. As long as nothing was received the reply is the one to all that was sent; then it stays.
pub record SendsAll (before now : Wired) (piece : List ℕ) : Type 0 where
  pub reply : Reply
  pub answers : before.given ≡ 0 → Answers before.number before.purpose.address (before.sent ++ piece) reply
  pub stays : 0 < before.given → reply ≡ before.reply
  pub after : now ≡ record before { sent = before.sent ++ piece; reply = reply }

-- memory was wanting: the reply stays, and some front of the piece was sent
pub record Wants (before now : Wired) (piece : List ℕ) (fault : WireFault) : Type 0 where
  pub fault_is : fault ≡ faults.NoMemory
  pub some : ℕ
  pub after : now ≡ record before { sent = before.sent ++ take some piece; wants = raised_by 1 before.wants }

-- These are the next bytes of a stream of which so many were received: as many as fit, and none only at its end.
pub record GivesNext (stream : List ℕ) (given room count : ℕ) (buffer : List ℕ) : Type 0 where
  pub fits : count ≤ room
  pub bytes : take count buffer ≡ take count (drop given stream)
  pub within : given + count ≤ length stream
  pub ended : count ≡ 0 → 0 < room → drop given stream ≡ []

pub record NetState : Type 0 where
  pub number : ℕ
  -- the number of the next wire, from 0
  pub wires : ℕ
  pub closed : List Closed

abbrev pub fresh_net : ℕ → NetState
fresh_net number = record { number = number; wires = 0; closed = [] }

-- the next wire is connected
pub record Connects (before now : NetState) (purpose : Purpose) (made : Wired) : Type 0 where
  pub after : now ≡ record before { wires = raised_by 1 before.wires }
  pub fresh : made ≡ fresh_wire before.number before.wires purpose

-- a connect fails for want of memory alone, and then nothing has changed
pub record ConnectFails (before now : NetState) (fault : NetFault) : Type 0 where
  pub fault_is : fault ≡ net_faults.NoMemory
  pub same : now ≡ before

-- a net after it took a wire back
abbrev pub with_closed : NetState → Wired → NetState
with_closed net wire = record net { closed = net.closed ++ closed_of wire.purpose (told_by wire) ∷ [] }
