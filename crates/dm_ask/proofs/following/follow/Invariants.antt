use Rattle.std.proofs.Common.{◌≡◌, ◌-◌, ◌≤◌}
use Rattle.dm_types.specs.Faults.{NoneFell}
use Rattle.dm_edge.specs.declared.wanted.Wanted.TheVariants.{Whole}
use Rattle.dm_request.specs.Fault.{IsRead}
use Rattle.dm_ask.specs.Asked.{IsAim}
use Rattle.dm_ask.specs.Following.{IsLed}
use Rattle.dm_ask.specs.Redirects.{most_redirects, purpose_of}
use Rattle.dm_ask.proofs.following.follow.Given as goal

abbrev pub invariant-loop-answered : goal.invariant-loop-answered
invariant-loop-answered g l =
    let N = g.N.Net in
    record {
      within : l.followed ≤ most_redirects;
      request : IsAim Whole l.aim;
      led : N.tells → IsLed (purpose_of l.fn.id l.fn.attempt) l.initial.aim.address (N.closed l.initial.net) (N.closed l.net) l.aim.address l.followed;
      reads : IsRead l.initial.aim.address.text l.initial.aim.address → IsRead l.aim.address.text l.aim.address;
      origin : N.origin_of l.net ≡ N.origin_of l.initial.net;
      later : NoneFell (N.faults l.initial.net) (N.faults l.net);
    }

abbrev pub decreases-loop-answered : goal.decreases-loop-answered
decreases-loop-answered g l = most_redirects - l.followed
