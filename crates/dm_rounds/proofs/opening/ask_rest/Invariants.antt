use Rattle.std.proofs.Common.{◌≡◌, ◌≤◌, ℕ, ◌+◌, List, length, vec_len, vec_capacity}
use Rattle.dm_types.specs.Faults.{NoneFell}
use Rattle.dm_edge.specs.Wire.{Closed}
use Rattle.dm_attempt.specs.Asking.{Asking}
use Rattle.dm_attempt.specs.Shares.{Share}
use Rattle.dm_rounds.specs.Opening.{AreAsked, IsOpening}
use Rattle.dm_rounds.proofs.opening.ask_rest.Given as goal

abbrev pub invariant-loop-slice : goal.invariant-loop-slice
invariant-loop-slice g l =
    let N = g.N.Net in
    let W = g.N.W.Wire in
    record {
      room : vec_len l.lanes + length l.plan ≤ vec_capacity l.lanes + l.slice-index;
      goes : (asking : Asking) (shares : List Share) (start : List Closed) (from : ℕ) → AreAsked asking l.source l.pass shares from l.plan
          → IsOpening N.tells W.tells W.purpose W.told W.origin (N.origin_of l.initial.net) asking start (N.closed l.initial.net) shares from l.initial.lanes.items
          → IsOpening N.tells W.tells W.purpose W.told W.origin (N.origin_of l.initial.net) asking start (N.closed l.net) shares (from + l.slice-index) l.lanes.items;
      capacity : vec_capacity l.lanes ≡ vec_capacity l.initial.lanes;
      stays : N.origin_of l.net ≡ N.origin_of l.initial.net;
      later : NoneFell (N.faults l.initial.net) (N.faults l.net);
    }
