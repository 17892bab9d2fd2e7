use Rattle.std.proofs.Common.{◌-◌, ◌≤◌}
use Rattle.dm_slice.specs.Words.{Reaches}
use Rattle.dm_slice.proofs.words.first_gap.Given as goal

abbrev pub invariant-loop-at : goal.invariant-loop-at
invariant-loop-at l = record { later : l.initial.at ≤ l.at; reached : Reaches l.slices l.initial.at l.at }

abbrev pub decreases-loop-at : goal.decreases-loop-at
decreases-loop-at l = l.to - l.at
