use Rattle.std.proofs.Common.{◌≡◌}
use Rattle.dm_types.specs.Faults.{NoneFell}
use Rattle.dm_item.specs.Listing.{item_in}
use Rattle.dm_store.specs.Origin.{said_of}
use Rattle.dm_fetch.specs.Fetches.{autos_of}
use Rattle.dm_fetch.proofs.Repeats.{IsLast, left_of}
use Rattle.dm_fetch.proofs.fetching.fetch.Given as goal

abbrev pub invariant-loop-ended : goal.invariant-loop-ended
invariant-loop-ended g l =
    let D = g.S.D.Disk in
    let N = g.N.Net in
    let view = g.S.Desk.view in
    record {
      last : IsLast D.tells D.history (λ o. said_of (g.S.O.Origin.says o)) D.far D.faults N.tells l.id l.slices l.at (view l.fn.desk) (N.closed l.fn.net) (N.faults l.fn.net) (view l.desk) (N.closed l.net) (N.faults l.net) l.ended;
      origin : N.origin_of l.net ≡ (view l.desk).origin;
      stays : N.origin_of l.net ≡ N.origin_of l.fn.net;
      later : NoneFell (N.faults l.fn.net) (N.faults l.net);
    }

abbrev pub decreases-loop-ended : goal.decreases-loop-ended
decreases-loop-ended g l = left_of l.ended (autos_of (item_in l.id.0 (g.S.Desk.view l.desk).items.items))
