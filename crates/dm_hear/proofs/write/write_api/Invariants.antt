use Rattle.std.proofs.Common.{◌≡◌, ℕ, ◌≤◌, ◌++◌, length, take, drop}
use Rattle.dm_types.specs.Faults.{NoneFell}
use Rattle.dm_hear.specs.Written.{Wrote}
use Rattle.dm_hear.proofs.write.write_api.Given as goal

-- what was written so far is the front of the bytes, and the rest is what is left
abbrev pub invariant-loop-rest : goal.invariant-loop-rest
invariant-loop-rest g l =
    let S = g.X.Source in
    record {
      done : ℕ;
      within : done ≤ length l.bytes;
      rest : l.rest ≡ drop done l.bytes;
      wrote : S.tells → Wrote (S.told l.initial.conn) (S.told l.conn) (take done l.bytes);
      later : NoneFell (S.faults l.initial.conn) (S.faults l.conn);
    }

abbrev pub decreases-loop-rest : goal.decreases-loop-rest
decreases-loop-rest g l = length l.rest
