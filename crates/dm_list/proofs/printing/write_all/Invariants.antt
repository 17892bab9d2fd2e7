use Rattle.std.proofs.Common.{◌≡◌, ℕ, ◌≤◌, ◌++◌, length, take, drop}
use Rattle.dm_types.specs.Faults.{NoneFell}
use Rattle.dm_does.specs.Printing.{SameCounts}
use Rattle.dm_list.proofs.printing.write_all.Given as goal

-- what was written so far is the front of the text, and the rest is what is left
abbrev pub invariant-loop-rest : goal.invariant-loop-rest
invariant-loop-rest g l =
    let S = g.S.Sink in
    record {
      done : ℕ;
      within : done ≤ length l.text;
      rest : l.rest ≡ drop done l.text;
      written : S.tells → S.written l.sink ≡ S.written l.initial.sink ++ take done l.text;
      later : NoneFell (S.faults l.initial.sink) (S.faults l.sink);
      quiet : SameCounts (S.faults l.initial.sink) (S.faults l.sink);
    }

abbrev pub decreases-loop-rest : goal.decreases-loop-rest
decreases-loop-rest g l = length l.rest
