use Rattle.std.proofs.Common.{◌+◌, ℕ, List, ap, subst, arith}
use Rattle.dm_item.specs.Lawful.{History, IsOf}
use Rattle.dm_kept.specs.Damage.{IsRefused}
use Rattle.dm_find.specs.Bodies.{IsEntryTaken}
use Rattle.dm_find.proofs.Taking.{more_so_far, next_place, refused_here}
use Rattle.dm_find.proofs.bodies.take_bodies.Goals as goal

pub returns-in-Err-Refused-clause-takes : goal.returns-in-Err-Refused-clause-takes
returns-in-Err-Refused-clause-takes c =
    refused_here c.args.items.now.limit c.args.bodies.now c.loop-body.body-index c.loop-body.items c.loop-body.place c.loop-body.invariant c.loop-body-test.true c.body-item.result c.body-item.is
    (subst (λ (body : List ℕ). (history : History) → IsOf history c.loop-body.items → IsRefused c.loop-body.items.limit history body) c.bytes.ensures
    (rw c.in-Err-Refused.field-0-is at c.in-Err-Refused.ensures))

pub overflow_add-place-in-loop-body : goal.overflow_add-place-in-loop-body
overflow_add-place-in-loop-body c =
    let next = next_place c.args.items.now.limit c.args.bodies.now c.loop-body.body-index c.loop-body.items c.loop-body.place c.loop-body.invariant c.loop-body-test.true c.body-item.result c.body-item.is in
    let size = c.len.ensures in
    let end = c.requires.end in
    let fits = c.ranges.end in
    omega (arith, next, size, end, fits)

pub loop-body-preserved : goal.loop-body-preserved
loop-body-preserved c =
    more_so_far c.args.items.now.limit c.args.bodies.now c.loop-body.body-index c.loop-body.items c.loop-body.place c.loop-body.invariant c.loop-body-test.true c.body-item.result c.body-item.is
    c.take_body.new.items (c.loop-body.place + (5 + c.len.result)) (ap (λ (n : ℕ). c.loop-body.place + (5 + n)) c.len.ensures)
    (subst (λ (body : List ℕ). IsEntryTaken body c.loop-body.items c.take_body.new.items) c.bytes.ensures c.in-Ok.ensures)
