use Rattle.std.proofs.Common.{◌≡◌, ◌⊎◌, ◌<◌, ◌++◌, length, vec_capacity}
use Rattle.std.specs.List.{Contains}
use Rattle.dm_types.specs.Faults.{NoneFell, Rose}
use Rattle.dm_edge.specs.Faults.{net_count_of}
use Rattle.dm_edge.specs.declared.fault.WireFault.{WireFault as OnWire}
use Rattle.dm_rounds.specs.declared.lane.Lane.{Lane}
use Rattle.dm_rounds.specs.Lanes.{closed_lanes}
use Rattle.dm_rounds.proofs.lanes.close_all.Given as goal

abbrev pub invariant-loop-net : goal.invariant-loop-net
invariant-loop-net g l =
    let N = g.N.Net in
    let W = g.N.W.Wire in
    record {
      closed : N.tells → N.closed l.net ++ closed_lanes W.purpose W.told l.lanes.items ≡ N.closed l.initial.net ++ closed_lanes W.purpose W.told l.initial.lanes.items;
      counted : (lane : Lane g.row.N-W.Denot) → Contains l.initial.lanes.items lane → (kind : OnWire) → 0 < W.faults lane.wire kind
          → Contains l.lanes.items lane ⊎ Rose (N.faults l.initial.net (net_count_of kind)) (N.faults l.net (net_count_of kind));
      capacity : vec_capacity l.lanes ≡ vec_capacity l.initial.lanes;
      later : NoneFell (N.faults l.initial.net) (N.faults l.net);
      origin : N.origin_of l.net ≡ N.origin_of l.initial.net;
    }

abbrev pub decreases-loop-net : goal.decreases-loop-net
decreases-loop-net g l = length l.lanes.items
