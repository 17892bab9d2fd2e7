use Rattle.std.proofs.Common.{ℕ, ◌<◌}
use Rattle.dm_name.specs.Forms.{form, IsTaken}
use Rattle.dm_name.proofs.forms.unique_name.Given as goal

abbrev pub invariant-loop-number : goal.invariant-loop-number
invariant-loop-number l = (k : ℕ) → k < l.number → IsTaken l.taken (form l.wish k)
