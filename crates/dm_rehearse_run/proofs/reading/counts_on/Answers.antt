use Rattle.std.proofs.Common.{ℕ, List, IfSome, subst}
use Rattle.dm_disk.specs.Memory.{held_in}
use Rattle.dm_rehearse.specs.Counting.{AreCounted}
use Rattle.dm_rehearse_run.proofs.Read.{counted_on}
use Rattle.dm_rehearse_run.proofs.reading.counts_on.Goals as goal

pub returns-in-Ok-Some : goal.returns-in-Ok-Some
returns-in-Ok-Some c =
    let finds = rw c.in-Ok-Some.field-0-is at c.in-Ok-Some.ensures.found in
    counted_on (held_in c.args.disk.now) _ c.in-Ok-Some.bodies c.count.result (finds tt).0
    (subst (λ (bodies : List (List ℕ)). IfSome c.count.result (AreCounted bodies)) c.items.ensures c.count.ensures)
