use Rattle.std.proofs.Common.{ℕ, List, ◌+◌, cond, sym, subst}
use Rattle.std.specs.Prelude.{◌==◌}
use Rattle.dm_rehearse.specs.Counting.{IsOfKind}
use Rattle.dm_rehearse.proofs.Counted.{SoFar, more_so_far}
use Rattle.dm_rehearse.proofs.counting.count.Goals as goal

pub loop-body-preserved : goal.loop-body-preserved
loop-body-preserved c =
    let bodies = c.args.bodies.now in
    let next = c.loop-body.body-index + 1 in
    let kind = subst (λ (body : List ℕ). IsOfKind body c.in-Some.kind) c.bytes.ensures c.in-Some.ensures in
    let more = more_so_far bodies c.loop-body.body-index c.loop-body.attempts c.loop-body.broke c.loop-body.invariant c.loop-body-test.true c.body-item.result c.body-item.is c.in-Some.kind kind in
    subst (λ (n : ℕ). SoFar bodies next n c.one_more_if-broke.result) (sym c.one_more_if-attempts.ensures)
    (subst (λ (n : ℕ). SoFar bodies next (cond (c.in-Some.kind == 2) (c.loop-body.attempts + 1) c.loop-body.attempts) n) (sym c.one_more_if-broke.ensures) more)
