use Rattle.std.proofs.Common.{ap, subst, sym, refl, List, ℕ}
use Rattle.dm_edge.specs.declared.wanted.Wanted.{Wanted}
use Rattle.dm_reply.specs.Content.{HeadSays, HasRead, Reader}
use Rattle.dm_reply.proofs.HeadLemmas.{led_to}
use Rattle.dm_reply_tests.specs.Collected.{HasCollected, in_content, led_on}
use Rattle.dm_reply_tests.proofs.Began.{collected_none}
use Rattle.dm_reply_tests.proofs.collecting.collected.Goals as goal

pub loop-content-init : goal.loop-content-init
loop-content-init g c tells fresh =
    let now = g.W.Wire.told c.head.new.wire in
    let asked = ap (λ (r : Reader). r.wanted) c.in-Ok.ensures in
    let says = subst (λ (w : Wanted). HeadSays w now c.head.new.self c.in-Ok-head.head) asked (c.in-Ok-head.ensures.says tells fresh) in
    subst (HasCollected c.args.wanted now.given c.head.new.self) (sym c.new-content.ensures.items)
    (collected_none c.args.wanted now c.head.new.self c.in-Ok-head.head says c.in-Content.is)

pub loop-content-preserved : goal.loop-content-preserved
loop-content-preserved g c tells fresh =
    let says = rw c.in-Ok-Bytes.field-0-is at c.in-Ok-Bytes.ensures.says in
    let before = c.loop-content.invariant tells fresh in
    record {
      head = before.head;
      read = subst (HasRead c.args.wanted before.head (g.W.Wire.told c.content.new.wire).given c.content.new.self) (sym c.in-Ok-extend_from_slice.ensures.items)
          (says tells c.args.wanted before.head c.loop-content.content.items before.read);
    }

pub returns-in-Ok-End-clause-whole : goal.returns-in-Ok-End-clause-whole
returns-in-Ok-End-clause-whole g c tells fresh =
    let says = rw c.in-Ok-End.field-0-is at c.in-Ok-End.ensures.says in
    let before = c.loop-content.invariant tells fresh in
    record { head = before.head; all = (says tells c.args.wanted before.head c.loop-content.content.items before.read).0 }

pub returns-in-Err-content-clause-broke : goal.returns-in-Err-content-clause-broke
returns-in-Err-content-clause-broke g c tells fresh =
    let before = c.loop-content.invariant tells fresh in
    in_content c.loop-content.content.items (c.in-Err-content.ensures.says tells c.args.wanted before.head c.loop-content.content.items before.read).0

pub returns-in-Redirect-clause-broke : goal.returns-in-Redirect-clause-broke
returns-in-Redirect-clause-broke g c tells fresh =
    let asked = ap (λ (r : Reader). r.wanted) c.in-Ok.ensures in
    let says = subst (λ (w : Wanted). HeadSays w (g.W.Wire.told c.head.new.wire) c.head.new.self c.in-Ok-head.head) asked (c.in-Ok-head.ensures.says tells fresh) in
    led_on says.head _ (led_to c.args.wanted (g.W.Wire.told c.head.new.wire) c.head.new.self c.in-Ok-head.head _ says c.in-Redirect.is) refl
