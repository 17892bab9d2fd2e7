-- The causes of an attempt that the net and its wires bring: those of their faults, and those that a reply's head and content may have.
use Rattle.std.specs.Prelude.{◌≡◌, ◌⊎◌, ℕ, Bool, true, false, Some}
use Rattle.dm_types.specs.Faults.{Rose}
use Rattle.dm_policy.specs.declared.cause.Cause.{Cause}
use Rattle.dm_policy.specs.declared.cause.Cause.TheVariants as cause
use Rattle.dm_edge.specs.declared.fault.NetFault.{NetFault}
use Rattle.dm_edge.specs.declared.fault.NetFault.TheVariants as net
use Rattle.dm_edge.specs.declared.fault.WireFault.{WireFault}
use Rattle.dm_edge.specs.declared.fault.WireFault.TheVariants as wire
use Rattle.dm_edge.specs.Faults.{wire_kind, net_kind}

-- the cause of a fault of the net
abbrev pub net_cause : NetFault → Cause
net_cause net.NoRoute = cause.NetNoRoute
net_cause net.Refused = cause.NetRefused
net_cause net.Timeout = cause.NetTimeout
net_cause net.Failed = cause.NetFailed
net_cause net.NoMemory = cause.Memory

-- the cause of a fault of a wire
abbrev pub wire_cause : WireFault → Cause
wire_cause wire.Failed = cause.NetFailed
wire_cause wire.Timeout = cause.NetTimeout
wire_cause wire.NoMemory = cause.Memory

-- a count of the net rose, and this is the cause of its kind
pub record IsNetFault (before after : NetFault → ℕ) (broke : Cause) : Type 0 where
  pub kind : NetFault
  pub counted : net_kind kind ≡ Some kind
  pub rose : Rose (before kind) (after kind)
  pub is : broke ≡ net_cause kind

-- a count of a wire rose since it was made, and this is the cause of its kind
pub record IsWireFault (counts : WireFault → ℕ) (broke : Cause) : Type 0 where
  pub kind : WireFault
  pub counted : wire_kind kind ≡ Some kind
  pub rose : Rose 0 (counts kind)
  pub is : broke ≡ wire_cause kind

-- what ends a connection before its stream: want of memory, or a call on the net that failed and was counted
abbrev pub CutsNet : (NetFault → ℕ) → (NetFault → ℕ) → Cause → Type 0
CutsNet before after broke = (broke ≡ cause.Memory) ⊎ IsNetFault before after broke

-- the same, on a wire
abbrev pub CutsWire : (WireFault → ℕ) → Cause → Type 0
CutsWire counts broke = (broke ≡ cause.Memory) ⊎ IsWireFault counts broke

-- the causes that end a reply at its head
abbrev pub is_head_cause : Cause → Bool
is_head_cause cause.NetFailed = true
is_head_cause cause.NetTimeout = true
is_head_cause cause.HeadCut = true
is_head_cause cause.BadHead = true
is_head_cause (cause.Status status) = true
is_head_cause cause.Encoded = true
is_head_cause cause.BadFraming = true
is_head_cause (cause.RangeRefused status) = true
is_head_cause (cause.TooLarge total) = true
is_head_cause _ = false

-- the causes that end a reply in its content
abbrev pub is_content_cause : Cause → Bool
is_content_cause cause.NetFailed = true
is_content_cause cause.NetTimeout = true
is_content_cause cause.Memory = true
is_content_cause (cause.ContentShort have told) = true
is_content_cause cause.BadFraming = true
is_content_cause (cause.TooLarge total) = true
is_content_cause _ = false
