use Rattle.std.proofs.Common.{◌≤◌, ◌+◌, length, arith, refl, subst, sym}
use Rattle.std.specs.Prelude.{IsTrue}
use Rattle.dm_edge.specs.Causes.{is_content_cause}
use Rattle.dm_reply.proofs.ReadsLemmas.{wire_own, wire_wants}
use Rattle.dm_policy.specs.declared.cause.Cause.{Cause}
use Rattle.dm_edge.specs.Wire.{stream_of}
use Rattle.dm_edge.specs.Begins.{most_content}
use Rattle.dm_edge.specs.Reply.{FramedBroke}
use Rattle.dm_reply.specs.Steps.{Nexts, ShowsWant}
use Rattle.dm_reply.proofs.PlainLemmas.{stopped, to_end_on, to_end_front, to_end_ends, end_says}
use Rattle.dm_reply.proofs.plain.give_to_end.Goals as goal

pub returns-then-given-eq-MOST_CONTENT-clause-says : goal.returns-then-given-eq-MOST_CONTENT-clause-says
returns-then-given-eq-MOST_CONTENT-clause-says g c tells asked head content has =
    end_says asked head (g.W.Wire.told c.args.wire.now) (g.W.Wire.told c.end_full.new.wire) c.args.given c.args.ahead.now c.end_full.new.ahead
    c.end_full.result c.args.buf.now content c.if-given-eq-MOST_CONTENT.true has c.end_full.ensures.no_bytes (c.end_full.ensures.says tells asked head)

pub returns-in-Ok-clause-says : goal.returns-in-Ok-clause-says
returns-in-Ok-clause-says g c tells asked head content has =
    let within : c.in-Ok.count ≤ length c.next.new.buf = omega (arith, c.in-Ok.ensures.within, c.next.auto.buf, c.least.ensures) in
    let keeps : c.args.given + c.in-Ok.count ≤ most_content = omega (arith, c.in-Ok.ensures.within, c.least.ensures, c.requires.within) in
    to_end_on asked head (g.W.Wire.told c.args.wire.now) (g.W.Wire.told c.next.new.wire) c.args.given c.in-Ok.count
    c.args.ahead.now c.next.new.ahead c.next.new.buf content has (c.in-Ok.ensures.told tells) within keeps

pub returns-in-Err-clause-says : goal.returns-in-Err-clause-says
returns-in-Err-clause-says g c tells asked head content has =
    let front = to_end_front asked head (g.W.Wire.told c.args.wire.now) (g.W.Wire.told c.next.new.wire) c.args.given c.args.ahead.now content has
    (c.in-Err.ensures.told tells) in
    (subst (λ (cause : Cause). FramedBroke asked head (stream_of (g.W.Wire.told c.next.new.wire)) content cause) (sym c.wire_cause.ensures) (stopped front c.in-Err.fault), refl)

pub returns-in-Ok-eq0-clause-says : goal.returns-in-Ok-eq0-clause-says
returns-in-Ok-eq0-clause-says g c tells asked head content has =
    let nexts = subst (Nexts (g.W.Wire.told c.args.wire.now) (g.W.Wire.told c.next.new.wire) c.args.ahead.now c.next.new.ahead c.next.new.buf)
    c.in-Ok-eq0.field-0-test (c.in-Ok-eq0.ensures.told tells) in
    to_end_ends asked head (g.W.Wire.told c.args.wire.now) (g.W.Wire.told c.next.new.wire) c.args.given c.args.ahead.now c.next.new.ahead c.next.new.buf content
    has nexts

pub returns-in-Err-clause-own : goal.returns-in-Err-clause-own
returns-in-Err-clause-own g c = subst (λ (broke : Cause). IsTrue (is_content_cause broke)) (sym c.wire_cause.ensures) (wire_own c.in-Err.fault)

pub returns-in-Err-clause-memory : goal.returns-in-Err-clause-memory
returns-in-Err-clause-memory g c =
    subst (ShowsWant (g.W.Wire.wants c.args.wire.now) (g.W.Wire.wants c.next.new.wire)) (sym c.wire_cause.ensures)
    (wire_wants (g.W.Wire.wants c.args.wire.now) (g.W.Wire.wants c.next.new.wire) c.in-Err.fault c.in-Err.ensures.wants.rose)
