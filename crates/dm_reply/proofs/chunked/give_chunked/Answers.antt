use Rattle.std.proofs.Common.{◌≡◌, ◌≤◌, ◌+◌, List, ℕ, length, [], arith, refl, subst, sym, ap}
use Rattle.dm_chunk.specs.declared.Step.TheVariants as steps
use Rattle.std.specs.Prelude.{IsTrue}
use Rattle.dm_edge.specs.Causes.{is_content_cause}
use Rattle.dm_reply.proofs.ReadsLemmas.{reads_none, reads_then, wanted_since, wire_own, wire_wants}
use Rattle.dm_reply.specs.Steps.{ShowsWant}
use Rattle.dm_policy.specs.declared.cause.Cause.{Cause}
use Rattle.dm_edge.specs.Wire.{stream_of}
use Rattle.dm_edge.specs.Begins.{most_content}
use Rattle.dm_edge.specs.Reply.{FramedBroke}
use Rattle.dm_reply.specs.declared.body.Body.TheVariants as body
use Rattle.dm_reply.specs.Ahead.{Grows}
use Rattle.dm_reply.specs.Content.{HasFramed}
use Rattle.dm_reply.specs.Steps.{going}
use Rattle.dm_reply.proofs.PlainLemmas.{stopped}
use Rattle.dm_reply.proofs.ChunkLemmas.{Steps, chunks_end, chunks_broken, chunks_given, chunks_full, chunks_grown, chunks_stopped, chunks_unfinished, chunks_short}
use Rattle.dm_reply.proofs.chunked.give_chunked.Goals as goal

pub loop-from-preserved : goal.loop-from-preserved
loop-from-preserved g c =
    let before = c.loop-from.invariant in
    let step = subst (λ (a : List ℕ). Steps c.loop-from.chunks c.step.new.self a steps.More) c.bytes.ensures.same c.in-More.ensures.decodes in
    record {
      read = λ tells asked head content has.
          chunks_grown asked head (g.W.Wire.told c.loop-from.wire) (g.W.Wire.told c.refill.new.wire) c.args.given c.in-Ok.field-0 c.loop-from.chunks c.step.new.self
          c.loop-from.ahead c.refill.new.self content (before.read tells asked head content has) step (c.in-Ok.ensures.told tells);
      reads = reads_then _ _ _ before.reads c.in-Ok.ensures.reads;
      later = λ kind. omega (arith, before.later kind, c.in-Ok.ensures.cause.later kind);
    }

pub returns-then-given-eq-MOST_CONTENT-clause-says : goal.returns-then-given-eq-MOST_CONTENT-clause-says
returns-then-given-eq-MOST_CONTENT-clause-says g c tells asked head content has =
    let step = subst (λ (a : List ℕ). Steps c.loop-from.chunks c.step.new.self a (steps.Data c.in-Data.from c.in-Data.count)) c.bytes.ensures.same c.in-Data.ensures.decodes in
    let within : c.in-Data.from + c.in-Data.count ≤ length c.loop-from.ahead = omega (arith, c.in-Data.ensures.within, ap (λ (t : List ℕ). length t) c.bytes.ensures.same) in
    let one : c.in-Data.count ≡ 1 = omega (arith, c.in-Data.ensures.within, c.room_for-room.ensures, c.if-given-eq-MOST_CONTENT.true) in (
      (
        chunks_full asked head (g.W.Wire.told c.loop-from.wire) c.args.given c.in-Data.from c.in-Data.count c.loop-from.chunks c.step.new.self c.loop-from.ahead content
            (c.loop-from.invariant.read tells asked head content has) step within one c.if-given-eq-MOST_CONTENT.true,
        refl,
      ),
      refl,
    )

pub returns-in-Data-clause-says : goal.returns-in-Data-clause-says
returns-in-Data-clause-says g c tells asked head content has =
    let step = subst (λ (a : List ℕ). Steps c.loop-from.chunks c.step.new.self a (steps.Data c.in-Data.from c.in-Data.count)) c.bytes.ensures.same c.in-Data.ensures.decodes in
    let here = ap (λ (t : List ℕ). length t) c.bytes.ensures.same in
    let within : c.in-Data.from + c.in-Data.count ≤ length c.loop-from.ahead = omega (arith, c.in-Data.ensures.within, here) in
    let keeps : c.args.given + c.in-Data.count ≤ most_content =
    omega (arith, c.in-Data.ensures.within, c.room_for-room.ensures, c.if-given-eq-MOST_CONTENT.false, c.requires.within) in
    chunks_given asked head (g.W.Wire.told c.loop-from.wire) c.args.given c.in-Data.from c.in-Data.count c.loop-from.chunks c.step.new.self
    c.loop-from.ahead c.give_behind.new.self content c.give_behind.new.buf (c.loop-from.invariant.read tells asked head content has) step within keeps
    c.give_behind.ensures.given c.give_behind.ensures.after

pub returns-in-End-clause-says : goal.returns-in-End-clause-says
returns-in-End-clause-says g c tells asked head content has =
    let step = subst (λ (a : List ℕ). Steps c.loop-from.chunks c.step.new.self a (steps.End c.in-End.count)) c.bytes.ensures.same c.in-End.ensures.decodes in
    let said = chunks_end asked head (g.W.Wire.told c.loop-from.wire) c.args.given c.in-End.count c.loop-from.chunks c.step.new.self c.loop-from.ahead content
    (c.loop-from.invariant.read tells asked head content has) step in
    (said.0, subst (λ (a : List ℕ). HasFramed asked head (g.W.Wire.told c.loop-from.wire).given (going a (body.Chunked c.step.new.self) c.args.given) content) (sym c.pass.ensures) said.1)

pub returns-in-Broken-clause-says : goal.returns-in-Broken-clause-says
returns-in-Broken-clause-says g c tells asked head content has =
    let step = subst (λ (a : List ℕ). Steps c.loop-from.chunks c.step.new.self a steps.Broken) c.bytes.ensures.same c.in-Broken.ensures.decodes in (
      chunks_broken asked head (g.W.Wire.told c.loop-from.wire) c.args.given c.loop-from.chunks c.step.new.self c.loop-from.ahead content
          (c.loop-from.invariant.read tells asked head content has) step,
      refl,
    )

pub returns-in-Ok-eq0-clause-says : goal.returns-in-Ok-eq0-clause-says
returns-in-Ok-eq0-clause-says g c tells asked head content has =
    let step = subst (λ (a : List ℕ). Steps c.loop-from.chunks c.step.new.self a steps.More) c.bytes.ensures.same c.in-More.ensures.decodes in
    let read = c.loop-from.invariant.read tells asked head content has in
    let grows = subst (λ (n : ℕ). Grows (g.W.Wire.told c.loop-from.wire) (g.W.Wire.told c.refill.new.wire) [] c.refill.new.self n) c.in-Ok-eq0.field-0-test
    (c.in-Ok-eq0.ensures.told tells) in (
      (
        chunks_short asked head (g.W.Wire.told c.loop-from.wire) (g.W.Wire.told c.refill.new.wire) c.args.given c.loop-from.chunks c.step.new.self c.loop-from.ahead
            c.refill.new.self content read step grows,
        read.count,
      ),
      refl,
    )

pub returns-in-Err-clause-says : goal.returns-in-Err-clause-says
returns-in-Err-clause-says g c tells asked head content has =
    let step = subst (λ (a : List ℕ). Steps c.loop-from.chunks c.step.new.self a steps.More) c.bytes.ensures.same c.in-More.ensures.decodes in
    let front = chunks_stopped asked head (g.W.Wire.told c.loop-from.wire) (g.W.Wire.told c.refill.new.wire) c.args.given c.loop-from.chunks c.step.new.self
    c.loop-from.ahead content (c.loop-from.invariant.read tells asked head content has) step (c.in-Err.ensures.told tells) in
    (subst (λ (cause : Cause). FramedBroke asked head (stream_of (g.W.Wire.told c.refill.new.wire)) content cause) (sym c.wire_cause.ensures) (stopped front c.in-Err.fault), refl)

pub returns-in-Err-clause-unfinished : goal.returns-in-Err-clause-unfinished
returns-in-Err-clause-unfinished g c tells asked head content has fault =
    let step = subst (λ (a : List ℕ). Steps c.loop-from.chunks c.step.new.self a steps.More) c.bytes.ensures.same c.in-More.ensures.decodes in
    chunks_unfinished asked head (g.W.Wire.told c.loop-from.wire) (g.W.Wire.told c.refill.new.wire) c.args.given c.loop-from.chunks c.step.new.self
    c.loop-from.ahead content (c.loop-from.invariant.read tells asked head content has) step (c.in-Err.ensures.told tells)

pub returns-in-Ok-eq0-clause-reads : goal.returns-in-Ok-eq0-clause-reads
returns-in-Ok-eq0-clause-reads g c = reads_then _ _ _ c.loop-from.invariant.reads c.in-Ok-eq0.ensures.reads

pub returns-in-Err-clause-reads : goal.returns-in-Err-clause-reads
returns-in-Err-clause-reads g c = reads_then _ _ _ c.loop-from.invariant.reads c.in-Err.ensures.reads

pub returns-in-Err-clause-own : goal.returns-in-Err-clause-own
returns-in-Err-clause-own g c = subst (λ (broke : Cause). IsTrue (is_content_cause broke)) (sym c.wire_cause.ensures) (wire_own c.in-Err.fault)

pub returns-in-Err-clause-memory : goal.returns-in-Err-clause-memory
returns-in-Err-clause-memory g c =
    let W = g.W.Wire in
    subst (ShowsWant (W.wants c.args.wire.now) (W.wants c.refill.new.wire)) (sym c.wire_cause.ensures)
    (wire_wants (W.wants c.args.wire.now) (W.wants c.refill.new.wire) c.in-Err.fault
    (λ memory. wanted_since (W.wants c.args.wire.now) (W.wants c.loop-from.wire) (W.wants c.refill.new.wire) c.loop-from.invariant.reads.later (c.in-Err.ensures.wants.rose memory)))

pub loop-from-init : goal.loop-from-init
loop-from-init g c = record { read = λ tells asked head content has. has; reads = reads_none _; later = λ kind. omega arith }
