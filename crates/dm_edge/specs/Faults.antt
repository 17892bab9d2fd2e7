-- The kinds of the faults on the edges. Want of memory has none: it is counted nowhere.
use Rattle.std.specs.Prelude.{Option, Some, None}
use Rattle.dm_edge.specs.declared.fault.EdgeFault.{EdgeFault}
use Rattle.dm_edge.specs.declared.fault.WireFault.{WireFault}
use Rattle.dm_edge.specs.declared.fault.WireFault.TheVariants as wire
use Rattle.dm_edge.specs.declared.fault.NetFault.{NetFault}
use Rattle.dm_edge.specs.declared.fault.NetFault.TheVariants as net

abbrev pub edge_kind : EdgeFault → Option EdgeFault
edge_kind fault = Some fault

abbrev pub wire_kind : WireFault → Option WireFault
wire_kind wire.Failed = Some wire.Failed
wire_kind wire.Timeout = Some wire.Timeout
wire_kind wire.NoMemory = None

abbrev pub net_kind : NetFault → Option NetFault
net_kind net.NoRoute = Some net.NoRoute
net_kind net.Refused = Some net.Refused
net_kind net.Timeout = Some net.Timeout
net_kind net.Failed = Some net.Failed
net_kind net.NoMemory = None

-- the net's count that takes in the faults of a closed wire
abbrev pub net_count_of : WireFault → NetFault
net_count_of wire.Failed = net.Failed
net_count_of wire.Timeout = net.Timeout
net_count_of wire.NoMemory = net.NoMemory
