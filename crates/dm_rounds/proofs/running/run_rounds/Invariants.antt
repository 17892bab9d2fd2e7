use Rattle.std.proofs.Common.{◌≡◌, ◌<◌, ◌≤◌, ◌-◌, List, vec_len, vec_capacity}
use Rattle.dm_types.specs.Faults.{NoneFell}
use Rattle.dm_store.specs.Origin.{said_of}
use Rattle.dm_answers.specs.Plan.{last_round}
use Rattle.dm_attempt.specs.Asking.{Asking}
use Rattle.dm_attempt.specs.Scene.{Scene}
use Rattle.dm_attempt.specs.Shares.{Share}
use Rattle.dm_attempt.specs.Trace.{Trace}
use Rattle.dm_rounds.specs.Rounding.{AsksAll}
use Rattle.dm_rounds.specs.Running.{IsRunning, MayGoOn, RunsOn, later_asking}
use Rattle.dm_rounds.proofs.running.run_rounds.Given as goal

abbrev pub invariant-loop-now : goal.invariant-loop-now
invariant-loop-now g l =
    let N = g.N.Net in
    let W = g.N.W.Wire in
    let D = g.S.D.Disk in
    let view = g.S.Desk.view in
    record {
      place : 16 ≤ vec_capacity l.tools.lanes;
      room : 0 < vec_len l.tools.buffer;
      most : vec_len l.tools.buffer ≤ (view l.desk).limits.piece;
      may : MayGoOn D.tells D.history (λ o. said_of (g.S.O.Origin.says o)) D.far D.faults N.tells W.tells W.purpose W.told W.origin l.now (view l.desk) (N.closed l.net) (N.origin_of l.net) l.tools.lanes.items l.source l.n l.at;
      goes : (scene : Scene g.row.S-D.Denot g.row.S-O.Denot) (older : Trace) (first : Asking) (shares : List Share)
          → IsRunning D.tells D.history (λ o. said_of (g.S.O.Origin.says o)) D.far D.faults N.tells W.tells W.purpose W.told W.origin scene l.initial.now (view l.initial.desk) (N.closed l.initial.net) (N.origin_of l.initial.net) older first shares l.initial.tools.lanes.items l.at
          → older.count ≡ l.n → AsksAll (later_asking first) l.source l.initial.now.pass
          → RunsOn D.tells D.history (λ o. said_of (g.S.O.Origin.says o)) D.far D.faults N.tells W.tells W.purpose W.told W.origin scene l.now (view l.desk) (N.closed l.net) (N.origin_of l.net) older first l.tools.lanes.items l.at;
      pass : l.now.pass ≡ l.initial.now.pass;
      capacity : vec_capacity l.tools.lanes ≡ vec_capacity l.initial.tools.lanes;
      later : NoneFell (N.faults l.initial.net) (N.faults l.net);
      stays : N.origin_of l.net ≡ N.origin_of l.initial.net;
    }

abbrev pub decreases-loop-now : goal.decreases-loop-now
decreases-loop-now g l = last_round - l.now.round
