use Rattle.std.proofs.Common.{arith, refl, subst, sym}
use Rattle.std.specs.Prelude.{IsTrue}
use Rattle.dm_edge.specs.Causes.{is_content_cause}
use Rattle.dm_reply.proofs.ReadsLemmas.{reads_none, wire_own, wire_wants}
use Rattle.dm_reply.specs.Steps.{ShowsWant}
use Rattle.dm_policy.specs.declared.cause.Cause.{Cause}
use Rattle.dm_edge.specs.Wire.{stream_of}
use Rattle.dm_edge.specs.Begins.{most_content}
use Rattle.dm_edge.specs.Reply.{FramedBroke}
use Rattle.dm_reply.proofs.PlainLemmas.{stopped, to_end_front, to_end_full, to_end_grown}
use Rattle.dm_reply.proofs.plain.end_full.Goals as goal

pub returns-then-not-is_empty-clause-says : goal.returns-then-not-is_empty-clause-says
returns-then-not-is_empty-clause-says g c tells asked head content has =
    (to_end_full asked head (g.W.Wire.told c.args.wire.now) most_content c.args.ahead.now content has refl (c.is_empty.ensures.some c.if-not-is_empty.true), refl)

pub returns-in-Ok-clause-says : goal.returns-in-Ok-clause-says
returns-in-Ok-clause-says g c tells asked head content has =
    let read = to_end_grown asked head (g.W.Wire.told c.args.wire.now) (g.W.Wire.told c.receive.new.wire) most_content _ c.args.ahead.now c.receive.new.self content has (c.in-Ok.ensures.told tells) in
    (to_end_full asked head (g.W.Wire.told c.receive.new.wire) most_content c.receive.new.self content read refl (omega (arith, c.in-Ok.ensures.count)), refl)

pub returns-in-Err-clause-says : goal.returns-in-Err-clause-says
returns-in-Err-clause-says g c tells asked head content has =
    let front = to_end_front asked head (g.W.Wire.told c.args.wire.now) (g.W.Wire.told c.receive.new.wire) most_content c.args.ahead.now content has
    (c.in-Err.ensures.told tells) in
    subst (λ (cause : Cause). FramedBroke asked head (stream_of (g.W.Wire.told c.receive.new.wire)) content cause) (sym c.wire_cause.ensures) (stopped front c.in-Err.fault)

pub returns-then-not-is_empty-clause-reads : goal.returns-then-not-is_empty-clause-reads
returns-then-not-is_empty-clause-reads g c = reads_none _

pub returns-in-Err-clause-own : goal.returns-in-Err-clause-own
returns-in-Err-clause-own g c = subst (λ (broke : Cause). IsTrue (is_content_cause broke)) (sym c.wire_cause.ensures) (wire_own c.in-Err.fault)

pub returns-in-Err-clause-memory : goal.returns-in-Err-clause-memory
returns-in-Err-clause-memory g c =
    subst (ShowsWant (g.W.Wire.wants c.args.wire.now) (g.W.Wire.wants c.receive.new.wire)) (sym c.wire_cause.ensures)
    (wire_wants (g.W.Wire.wants c.args.wire.now) (g.W.Wire.wants c.receive.new.wire) c.in-Err.fault c.in-Err.ensures.wants.rose)
