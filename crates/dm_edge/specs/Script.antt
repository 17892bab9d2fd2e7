-- Scripted wires and nets in memory, as contracts see them.
use Rattle.std.specs.Prelude.{◌≡◌, ◌≢◌, ℕ, ◌<◌, ◌≤◌, ◌⊎◌, ◌==◌, min, cond, List, [], ◌∷◌, ◌++◌, length, take, drop, slice_get, All, Option, Some, None}
use Rattle.std.specs.Option.{option_map_or}
use Rattle.dm_edge.specs.declared.counts.NetCounts.{NetCounts}
use Rattle.dm_edge.specs.declared.counts.WireCounts.{WireCounts}
use Rattle.dm_edge.specs.declared.fault.NetFault.{NetFault}
use Rattle.dm_edge.specs.declared.fault.NetFault.TheVariants as net
use Rattle.dm_edge.specs.declared.fault.WireFault.{WireFault}
use Rattle.dm_edge.specs.declared.fault.WireFault.TheVariants as wire
use Rattle.dm_edge.specs.declared.script.Exchange.{Exchange}
use Rattle.dm_edge.specs.declared.script.WireScript.{WireScript}
use Rattle.dm_edge.specs.Counts.{raised_by, wire_raised, net_raised, net_joined}
use Rattle.dm_edge.specs.Wire.{Purpose, Told, Closed, closed_of}

-- the fault that is listed under a call's number, the first where there are several
abbrev pub fault_at : {F : Type 0} → List (ℕ × F) → ℕ → Option F
fault_at [] call = None
fault_at (entry ∷ entries) call = cond (entry.0 == call) (Some entry.1) (fault_at entries call)

-- Want of memory is no fault that a list may hold, and a cut of nothing would look like the end.
pub record IsGood (script : WireScript) : Type 0 where
  pub cuts : All (λ cut. 0 < cut) script.cuts
  pub faults : All (λ entry. entry.1 ≢ wire.NoMemory) script.failing

-- what a scripted wire keeps true
pub record IsGoodWire (given : ℕ) (stream cuts : List ℕ) (failing : List (ℕ × WireFault)) : Type 0 where
  pub within : given ≤ length stream
  pub cuts_are : All (λ cut. 0 < cut) cuts
  pub faults : All (λ entry. entry.1 ≢ wire.NoMemory) failing

pub record WireState : Type 0 where
  pub purpose : Purpose
  pub told : Told
  pub cuts : List ℕ
  pub failing : List (ℕ × WireFault)
  -- the number of the next call, sends and receives together, from 0
  pub calls : ℕ
  -- the number of the next receive, from 0
  pub receives : ℕ
  pub counts : WireCounts
  -- how often memory was wanting
  pub wants : ℕ

-- a wire at the start of its script
abbrev pub fresh_wire : Purpose → WireScript → WireState
fresh_wire purpose script = record {
  purpose = purpose;
  told = record { given = []; left = script.stream; sent = [] };
  cuts = script.cuts;
  failing = script.failing;
  calls = 0;
  receives = 0;
  counts = record { failed = 0; timeout = 0 };
  wants = 0;
}

-- a send that isn't listed adds its whole piece
pub record SendsAll (before now : WireState) (piece : List ℕ) : Type 0 where
  pub unlisted : fault_at before.failing before.calls ≡ None
  pub after : now ≡ record before { told = record before.told { sent = before.told.sent ++ piece }; calls = raised_by 1 before.calls }

-- a send that is listed fails in that way, any other one only for want of memory, and then nothing else has changed
abbrev pub SendFails : WireState → WireState → WireFault → Type 0
SendFails before now fault =
    ((fault_at before.failing before.calls ≡ Some fault) × (now ≡ record before { calls = raised_by 1 before.calls; counts = wire_raised fault before.counts }))
    ⊎ ((fault_at before.failing before.calls ≡ None) × (fault ≡ wire.NoMemory) × (now ≡ record before { wants = raised_by 1 before.wants }))

-- how many bytes this receive gives: what the buffer holds, and no more than its cut says or is left
abbrev pub next_size : WireState → ℕ → ℕ
next_size wire room = min (option_map_or (min room) (slice_get wire.cuts wire.receives) room) (length wire.told.left)

-- a receive that isn't listed gives so many bytes
pub record GivesNext (before now : WireState) (n : ℕ) (buffer : List ℕ) : Type 0 where
  pub unlisted : fault_at before.failing before.calls ≡ None
  pub size : n ≡ next_size before (length buffer)
  pub bytes : take n buffer ≡ take n before.told.left
  pub after : now ≡ record before {
    told = record before.told { given = before.told.given ++ take n before.told.left; left = drop n before.told.left };
    calls = raised_by 1 before.calls;
    receives = raised_by 1 before.receives;
  }

-- a receive that is listed fails in that way, and gives nothing
pub record ReceiveFails (before now : WireState) (fault : WireFault) : Type 0 where
  pub listed : fault_at before.failing before.calls ≡ Some fault
  pub after : now ≡ record before { calls = raised_by 1 before.calls; receives = raised_by 1 before.receives; counts = wire_raised fault before.counts }

-- what is kept of a closed wire
abbrev pub closed_as : Exchange → Closed
closed_as exchange = record {
  purpose = record { address = exchange.address; id = exchange.id; attempt = exchange.attempt };
  sent = exchange.sent;
  stream = exchange.stream;
}

pub record NetState : Type 0 where
  -- the scripts of the wires to come
  pub coming : List WireScript
  pub failing : List (ℕ × NetFault)
  -- the number of the next connect, from 0
  pub calls : ℕ
  pub closed : List Closed
  pub counts : NetCounts

-- what a scripted net keeps true
pub record IsGoodNet (coming : List WireScript) (failing : List (ℕ × NetFault)) : Type 0 where
  pub scripts : All IsGood coming
  pub faults : All (λ entry. entry.1 ≢ net.NoMemory) failing

-- a net before its first call
abbrev pub fresh_net : List WireScript → List (ℕ × NetFault) → NetState
fresh_net scripts failing = record {
  coming = scripts;
  failing = failing;
  calls = 0;
  closed = [];
  counts = record { no_route = 0; refused = 0; timeout = 0; failed = 0 };
}

-- a connect that isn't listed takes the next wire
pub record Connects (before now : NetState) (purpose : Purpose) (made : WireState) : Type 0 where
  pub unlisted : fault_at before.failing before.calls ≡ None
  pub script : WireScript
  pub next : before.coming ≡ script ∷ now.coming
  pub after : now ≡ record before { coming = now.coming; calls = raised_by 1 before.calls }
  pub fresh : made ≡ fresh_wire purpose script

-- after a connect that failed
abbrev pub failed_connect : NetFault → NetState → NetState
failed_connect fault net = record net { calls = raised_by 1 net.calls; counts = net_raised fault net.counts }

-- A connect that is listed fails in that way, and one past the last wire has no route. Any other one fails
-- only for want of memory, and then nothing has changed.
abbrev pub ConnectFails : NetState → NetState → NetFault → Type 0
ConnectFails before now fault =
    ((fault_at before.failing before.calls ≡ Some fault) × (now ≡ failed_connect fault before))
    ⊎ ((fault_at before.failing before.calls ≡ None) × (before.coming ≡ []) × (fault ≡ net.NoRoute) × (now ≡ failed_connect net.NoRoute before))
    ⊎ ((fault_at before.failing before.calls ≡ None) × (0 < length before.coming) × (fault ≡ net.NoMemory) × (now ≡ before))

-- a net after it took a wire back
abbrev pub with_closed : NetState → WireState → NetState
with_closed net wire = record net { closed = net.closed ++ closed_of wire.purpose wire.told ∷ []; counts = net_joined wire.counts net.counts }
