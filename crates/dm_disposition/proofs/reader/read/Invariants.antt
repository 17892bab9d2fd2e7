use Rattle.std.proofs.Common.{◌≡◌, Some, take}
use Rattle.dm_disposition.specs.Machine.{run, nothing}
use Rattle.dm_disposition.specs.Views.{view}
use Rattle.dm_disposition.proofs.reader.read.Given as goal

abbrev pub invariant-loop-place : goal.invariant-loop-place
invariant-loop-place l = run nothing 0 (take l.place l.value) ≡ Some (view l.notes)
