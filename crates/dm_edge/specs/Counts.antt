-- The counts that the objects of this crate keep, and how a fault raises them.
use Rattle.std.specs.Prelude.{ℕ, ◌+◌, ◌-◌, ◌^◌, min}
use Rattle.dm_edge.specs.declared.counts.WireCounts.{WireCounts}
use Rattle.dm_edge.specs.declared.counts.NetCounts.{NetCounts}
use Rattle.dm_edge.specs.declared.fault.EdgeFault.{EdgeFault}
use Rattle.dm_edge.specs.declared.fault.EdgeFault.TheVariants as edge
use Rattle.dm_edge.specs.declared.fault.WireFault.{WireFault}
use Rattle.dm_edge.specs.declared.fault.WireFault.TheVariants as wire
use Rattle.dm_edge.specs.declared.fault.NetFault.{NetFault}
use Rattle.dm_edge.specs.declared.fault.NetFault.TheVariants as net

-- a count after some more, which stays at its last value
abbrev pub raised_by : ℕ → ℕ → ℕ
raised_by more count = min (count + more) (2 ^ 64 - 1)

-- a sink has one kind
abbrev pub edge_count : ℕ → EdgeFault → ℕ
edge_count failed edge.Failed = failed

-- how often a wire failed in this way. Want of memory is never counted
abbrev pub wire_count : WireCounts → WireFault → ℕ
wire_count counts wire.Failed = counts.failed
wire_count counts wire.Timeout = counts.timeout
wire_count counts wire.NoMemory = 0

abbrev pub wire_raised : WireFault → WireCounts → WireCounts
wire_raised wire.Failed counts = record counts { failed = raised_by 1 counts.failed }
wire_raised wire.Timeout counts = record counts { timeout = raised_by 1 counts.timeout }
wire_raised wire.NoMemory counts = counts

abbrev pub net_count : NetCounts → NetFault → ℕ
net_count counts net.NoRoute = counts.no_route
net_count counts net.Refused = counts.refused
net_count counts net.Timeout = counts.timeout
net_count counts net.Failed = counts.failed
net_count counts net.NoMemory = 0

abbrev pub net_raised : NetFault → NetCounts → NetCounts
net_raised net.NoRoute counts = record counts { no_route = raised_by 1 counts.no_route }
net_raised net.Refused counts = record counts { refused = raised_by 1 counts.refused }
net_raised net.Timeout counts = record counts { timeout = raised_by 1 counts.timeout }
net_raised net.Failed counts = record counts { failed = raised_by 1 counts.failed }
net_raised net.NoMemory counts = counts

-- a net's counts take in those of a closed wire
abbrev pub net_joined : WireCounts → NetCounts → NetCounts
net_joined closed counts = record counts { timeout = raised_by closed.timeout counts.timeout; failed = raised_by closed.failed counts.failed }
