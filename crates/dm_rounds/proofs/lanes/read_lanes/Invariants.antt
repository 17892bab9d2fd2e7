use Rattle.std.proofs.Common.{◌≡◌, ◌<◌, ◌≤◌, List, length, vec_capacity}
use Rattle.dm_types.specs.Faults.{NoneFell}
use Rattle.dm_types.specs.declared.slices.Slice.{Slice}
use Rattle.dm_store.specs.Origin.{said_of}
use Rattle.dm_attempt.specs.Asking.{Asking}
use Rattle.dm_attempt.specs.Scene.{Scene}
use Rattle.dm_attempt.specs.Shares.{Share}
use Rattle.dm_attempt.specs.Trace.{Trace}
use Rattle.dm_rounds.specs.Lanes.{left_of}
use Rattle.dm_rounds.specs.Reading.{IsReading, MayRead, ReadsOn}
use Rattle.dm_rounds.proofs.lanes.read_lanes.Given as goal

abbrev pub invariant-loop-lanes : goal.invariant-loop-lanes
invariant-loop-lanes g l =
    let N = g.N.Net in
    let W = g.N.W.Wire in
    let D = g.S.D.Disk in
    let view = g.S.Desk.view in
    record {
      room : 0 < length l.buffer;
      few : length l.buffer ≤ (view l.desk).limits.piece;
      may : MayRead D.tells D.history (λ o. said_of (g.S.O.Origin.says o)) D.far D.faults N.tells W.tells W.purpose W.told W.origin l.going (view l.desk) (N.closed l.net) l.lanes.items;
      goes : (scene : Scene g.row.S-D.Denot g.row.S-O.Denot) (older : Trace) (asking : Asking) (cover : List Slice) (shares : List Share)
          → IsReading D.tells D.history (λ o. said_of (g.S.O.Origin.says o)) D.far D.faults N.tells W.tells W.purpose W.told W.origin scene l.going (view l.initial.desk) (N.closed l.initial.net) older asking cover shares l.initial.lanes.items
          → ReadsOn D.tells D.history (λ o. said_of (g.S.O.Origin.says o)) D.far D.faults N.tells W.tells W.purpose W.told W.origin scene l.going (view l.desk) (N.closed l.net) older asking cover shares l.lanes.items;
      capacity : vec_capacity l.lanes ≡ vec_capacity l.initial.lanes;
      later : NoneFell (N.faults l.initial.net) (N.faults l.net);
      origin : N.origin_of l.net ≡ N.origin_of l.initial.net;
    }

abbrev pub decreases-loop-lanes : goal.decreases-loop-lanes
decreases-loop-lanes g l = left_of l.lanes.items
