use Rattle.std.proofs.Common.{◌≤◌, ◌<◌, ◌+◌, length, arith, refl, subst, sym}
use Rattle.std.specs.Prelude.{IsTrue}
use Rattle.dm_edge.specs.Causes.{is_content_cause}
use Rattle.dm_reply.proofs.ReadsLemmas.{reads_none, wire_own, wire_wants}
use Rattle.dm_policy.specs.declared.cause.Cause.{Cause}
use Rattle.dm_edge.specs.Wire.{stream_of}
use Rattle.dm_edge.specs.Reply.{FramedBroke}
use Rattle.dm_reply.specs.Steps.{Nexts, ShowsWant}
use Rattle.dm_reply.proofs.PlainLemmas.{stopped, counted_on, counted_whole, counted_front, counted_short}
use Rattle.dm_reply.proofs.plain.give_counted.Goals as goal

pub returns-then-given-count-clause-says : goal.returns-then-given-count-clause-says
returns-then-given-count-clause-says g c tells asked head content has =
    (counted_whole asked head (g.W.Wire.told c.args.wire.now) c.args.count c.args.given c.args.ahead.now content has c.if-given-count.true, has)

pub returns-in-Ok-clause-says : goal.returns-in-Ok-clause-says
returns-in-Ok-clause-says g c tells asked head content has =
    let within : c.in-Ok.size ≤ length c.next.new.buf = omega (arith, c.in-Ok.ensures.within, c.next.auto.buf, c.least.ensures) in
    let keeps : c.args.given + c.in-Ok.size ≤ c.args.count = omega (arith, c.in-Ok.ensures.within, c.least.ensures, c.requires.within.0) in
    counted_on asked head (g.W.Wire.told c.args.wire.now) (g.W.Wire.told c.next.new.wire) c.args.count c.args.given c.in-Ok.size
    c.args.ahead.now c.next.new.ahead c.next.new.buf content has (c.in-Ok.ensures.told tells) within keeps c.requires.within.1

pub returns-in-Err-clause-says : goal.returns-in-Err-clause-says
returns-in-Err-clause-says g c tells asked head content has =
    let front = counted_front asked head (g.W.Wire.told c.args.wire.now) (g.W.Wire.told c.next.new.wire) c.args.count c.args.given c.args.ahead.now content has
    (c.in-Err.ensures.told tells) in
    (subst (λ (cause : Cause). FramedBroke asked head (stream_of (g.W.Wire.told c.next.new.wire)) content cause) (sym c.wire_cause.ensures) (stopped front c.in-Err.fault), refl)

pub returns-in-Ok-eq0-clause-says : goal.returns-in-Ok-eq0-clause-says
returns-in-Ok-eq0-clause-says g c tells asked head content has =
    let nexts = subst (Nexts (g.W.Wire.told c.args.wire.now) (g.W.Wire.told c.next.new.wire) c.args.ahead.now c.next.new.ahead c.next.new.buf)
    c.in-Ok-eq0.field-0-test (c.in-Ok-eq0.ensures.told tells) in
    let lacks : c.args.given < c.args.count = omega (arith, c.requires.within.0, c.if-given-count.false) in (
      (
        counted_short asked head (g.W.Wire.told c.args.wire.now) (g.W.Wire.told c.next.new.wire) c.args.count c.args.given c.args.ahead.now c.next.new.ahead
            c.next.new.buf content has lacks nexts,
        has.count,
      ),
      refl,
    )

pub returns-then-given-count-clause-reads : goal.returns-then-given-count-clause-reads
returns-then-given-count-clause-reads g c = reads_none _

pub returns-in-Err-clause-own : goal.returns-in-Err-clause-own
returns-in-Err-clause-own g c = subst (λ (broke : Cause). IsTrue (is_content_cause broke)) (sym c.wire_cause.ensures) (wire_own c.in-Err.fault)

pub returns-in-Err-clause-memory : goal.returns-in-Err-clause-memory
returns-in-Err-clause-memory g c =
    subst (ShowsWant (g.W.Wire.wants c.args.wire.now) (g.W.Wire.wants c.next.new.wire)) (sym c.wire_cause.ensures)
    (wire_wants (g.W.Wire.wants c.args.wire.now) (g.W.Wire.wants c.next.new.wire) c.in-Err.fault c.in-Err.ensures.wants.rose)
