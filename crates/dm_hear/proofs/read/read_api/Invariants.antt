use Rattle.std.proofs.Common.{◌≡◌, ◌-◌, ◌≤◌, length, take}
use Rattle.dm_types.specs.Faults.{NoneFell}
use Rattle.dm_hear.specs.Head.{most_request}
use Rattle.dm_hear.specs.Held.{Came}
use Rattle.dm_hear.proofs.read.read_api.Given as goal

abbrev pub invariant-loop-parts : goal.invariant-loop-parts
invariant-loop-parts g l =
    let S = g.X.Source in
    record {
      room : length l.buf.items ≡ most_request;
      filled : l.filled ≤ most_request;
      came : S.tells → Came (S.told l.initial.source) (S.told l.source) (take l.filled l.buf.items);
      later : NoneFell (S.faults l.initial.source) (S.faults l.source);
    }

abbrev pub decreases-loop-parts : goal.decreases-loop-parts
decreases-loop-parts g l = most_request - l.filled
