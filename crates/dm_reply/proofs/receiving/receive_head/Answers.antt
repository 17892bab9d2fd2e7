use Rattle.std.proofs.Common.{◌+◌, [], List, ◌++◌, ℕ, sym, subst, arith, IfOk}
use Rattle.dm_edge.specs.Begins.{FrontBroke}
use Rattle.dm_edge.specs.Head.{IsHeadCut}
use Rattle.dm_head.specs.Look.{FindsInterim, FindsContent, FindsRedirect}
use Rattle.dm_reply.specs.Found.{HasPassed, IsContentHead}
use Rattle.dm_reply.proofs.ReadsLemmas.{reads_none, reads_then}
use Rattle.dm_reply.proofs.HeadLemmas.{none_passed, shown_since, content_framed, redirect_framed, front_own, one_passed, more_passed, ninth_broke, refused_broke, more_broke, content_answer, redirect_answer, refused_cause, front_leaves, metadata_within, metadata_short, content_plain, redirect_plain, open_leaves}
use Rattle.dm_reply.proofs.receiving.receive_head.Goals as goal

pub returns-then-passed-eq-MOST_INTERIM-clause-broke : goal.returns-then-passed-eq-MOST_INTERIM-clause-broke
returns-then-passed-eq-MOST_INTERIM-clause-broke g c tells fresh =
    ninth_broke c.args.wanted.now (g.W.Wire.told c.loop-size.wire) c.loop-size.ahead c.loop-size.passed c.in-Interim.size c.in-Interim.status
    (c.loop-size.invariant.held tells fresh) c.if-passed-eq-MOST_INTERIM.true
    (subst (λ (t : List ℕ). FindsInterim t c.in-Interim.size c.in-Interim.status) c.bytes.ensures.same c.in-Interim.ensures)

pub loop-size-preserved-in-Interim : goal.loop-size-preserved-in-Interim
loop-size-preserved-in-Interim g c =
    let before = c.loop-size.invariant in
    let finds = subst (λ (t : List ℕ). FindsInterim t c.in-Interim.size c.in-Interim.status) c.bytes.ensures.same c.in-Interim.ensures in
    record {
      few = omega (arith, before.few, c.if-passed-eq-MOST_INTERIM.false);
      held = λ tells fresh.
          subst (λ (t : List ℕ). HasPassed (g.W.Wire.told c.loop-size.wire).given t (c.loop-size.passed + 1)) (sym c.pass.ensures)
          (one_passed (g.W.Wire.told c.loop-size.wire).given c.loop-size.ahead c.loop-size.passed c.in-Interim.size c.in-Interim.status (before.held tells fresh) finds);
      ends = before.ends;
      reads = before.reads;
      later = before.later;
      shown = before.shown;
    }

pub content_head-requires : goal.content_head-requires
content_head-requires g c =
    let finds = subst (λ (t : List ℕ). FindsContent c.args.wanted.now t c.in-Content.start c.in-Content.framing c.in-Content.extent c.in-Content.metadata) c.bytes.ensures.same c.in-Content.ensures in
    record { within = (finds.within, metadata_within finds.metadata_is); limit = finds.limit; short = metadata_short finds.metadata_is }

pub redirect_head-requires : goal.redirect_head-requires
redirect_head-requires g c =
    let finds = subst (λ (t : List ℕ). FindsRedirect c.args.wanted.now t c.in-Redirect.status c.in-Redirect.location c.in-Redirect.metadata) c.bytes.ensures.same c.in-Redirect.ensures in
    record { within = (finds.within, metadata_within finds.metadata_is); short = metadata_short finds.metadata_is }

pub returns-in-Content-clause-says : goal.returns-in-Content-clause-says
returns-in-Content-clause-says g c tells fresh =
    let finds = subst (λ (t : List ℕ). FindsContent c.args.wanted.now t c.in-Content.start c.in-Content.framing c.in-Content.extent c.in-Content.metadata) c.bytes.ensures.same c.in-Content.ensures in
    content_answer c.args.wanted.now (g.W.Wire.told c.loop-size.wire) c.loop-size.ahead c.content_head.new.ahead c.loop-size.passed c.in-Content.start c.in-Content.framing
    c.in-Content.extent c.in-Content.metadata c.content_head.result (c.loop-size.invariant.held tells fresh) c.loop-size.invariant.few finds
    (subst (λ (status : ℕ). IfOk c.content_head.result (IsContentHead status c.in-Content.framing c.in-Content.extent c.loop-size.ahead c.in-Content.metadata))
    c.content_status-status.ensures c.content_head.ensures.found) c.content_head.ensures.after

pub returns-in-Content-clause-plain : goal.returns-in-Content-clause-plain
returns-in-Content-clause-plain g c =
    let finds = subst (λ (t : List ℕ). FindsContent c.args.wanted.now t c.in-Content.start c.in-Content.framing c.in-Content.extent c.in-Content.metadata)
    c.bytes.ensures.same c.in-Content.ensures in
    content_plain c.args.wanted.now c.loop-size.ahead c.content_status-status.result c.in-Content.start c.in-Content.framing c.in-Content.extent
    c.in-Content.metadata c.content_head.result finds c.content_head.ensures.found c.content_head.ensures.short

pub returns-in-Content-clause-framed : goal.returns-in-Content-clause-framed
returns-in-Content-clause-framed g c =
    let finds = subst (λ (t : List ℕ). FindsContent c.args.wanted.now t c.in-Content.start c.in-Content.framing c.in-Content.extent c.in-Content.metadata)
    c.bytes.ensures.same c.in-Content.ensures in
    content_framed c.args.wanted.now c.loop-size.ahead c.content_head.new.ahead c.content_status-status.result c.in-Content.start c.in-Content.framing
    c.in-Content.extent c.in-Content.metadata c.content_head.result finds c.content_head.ensures.found

pub returns-in-Redirect-clause-plain : goal.returns-in-Redirect-clause-plain
returns-in-Redirect-clause-plain g c =
    let finds = subst (λ (t : List ℕ). FindsRedirect c.args.wanted.now t c.in-Redirect.status c.in-Redirect.location c.in-Redirect.metadata) c.bytes.ensures.same c.in-Redirect.ensures in
    redirect_plain c.args.wanted.now c.in-Redirect.status c.in-Redirect.location c.loop-size.ahead c.in-Redirect.metadata c.redirect_head.result finds
    c.redirect_head.ensures.found c.redirect_head.ensures.short

pub returns-in-Redirect-clause-framed : goal.returns-in-Redirect-clause-framed
returns-in-Redirect-clause-framed g c =
    redirect_framed c.args.wanted.now c.in-Redirect.status _ c.loop-size.ahead c.loop-size.ahead c.in-Redirect.metadata c.redirect_head.result c.redirect_head.ensures.found

pub returns-in-Redirect-clause-says : goal.returns-in-Redirect-clause-says
returns-in-Redirect-clause-says g c tells fresh =
    let finds = subst (λ (t : List ℕ). FindsRedirect c.args.wanted.now t c.in-Redirect.status c.in-Redirect.location c.in-Redirect.metadata) c.bytes.ensures.same c.in-Redirect.ensures in
    redirect_answer c.args.wanted.now (g.W.Wire.told c.loop-size.wire) c.loop-size.ahead c.loop-size.passed c.in-Redirect.status c.in-Redirect.location c.in-Redirect.metadata
    c.redirect_head.result (c.loop-size.invariant.held tells fresh) c.loop-size.invariant.few finds c.redirect_head.ensures.found

pub returns-in-Refused-clause-broke : goal.returns-in-Refused-clause-broke
returns-in-Refused-clause-broke g c tells fresh =
    refused_broke c.args.wanted.now (g.W.Wire.told c.loop-size.wire) c.loop-size.ahead c.loop-size.passed c.in-Refused.cause (c.loop-size.invariant.held tells fresh)
    c.loop-size.invariant.few
    (subst (λ (t : List ℕ). (more : List ℕ) → FrontBroke c.args.wanted.now (t ++ more) c.in-Refused.cause) c.bytes.ensures.same c.in-Refused.ensures)

pub returns-in-Refused-clause-cause : goal.returns-in-Refused-clause-cause
returns-in-Refused-clause-cause g c =
    refused_cause c.args.wanted.now (c.bytes.result.now ++ []) c.in-Refused.cause _ _ (c.in-Refused.ensures []) c.loop-size.invariant.later

pub loop-size-preserved : goal.loop-size-preserved
loop-size-preserved g c =
    let before = c.loop-size.invariant in
    let W = g.W.Wire in
    record {
      few = before.few;
      held = λ tells fresh.
          more_passed (W.told c.loop-size.wire) (W.told c.receive_more.new.wire) c.loop-size.ahead c.receive_more.new.ahead c.loop-size.passed
          (before.held tells fresh) (c.in-Ok.ensures.says tells (before.ends tells) c.args.wanted.now);
      ends = c.in-Ok.ensures.left;
      reads = reads_then _ _ _ before.reads c.in-Ok.ensures.reads;
      later = λ kind. omega (arith, before.later kind, c.in-Ok.ensures.later kind);
      shown = shown_since (W.faults c.args.wire.now) (W.faults c.loop-size.wire) (W.faults c.receive_more.new.wire) c.in-Ok.next before.later c.in-Ok.ensures.shown;
    }

pub returns-in-Err-clause-broke : goal.returns-in-Err-clause-broke
returns-in-Err-clause-broke g c tells fresh =
    more_broke c.args.wanted.now (g.W.Wire.told c.loop-size.wire) (g.W.Wire.told c.receive_more.new.wire) c.loop-size.ahead c.receive_more.new.ahead c.loop-size.passed
    c.in-Err.fault (c.loop-size.invariant.held tells fresh) c.loop-size.invariant.few
    (c.in-Err.ensures.says tells (c.loop-size.invariant.ends tells) c.args.wanted.now)

pub returns-in-Refused-clause-unfinished : goal.returns-in-Refused-clause-unfinished
returns-in-Refused-clause-unfinished g c tells fresh wire =
    front_leaves c.args.wanted.now (g.W.Wire.told c.loop-size.wire).given (c.bytes.result.now ++ []) c.in-Refused.cause (c.in-Refused.ensures []) wire

pub returns-in-Err-clause-unfinished : goal.returns-in-Err-clause-unfinished
returns-in-Err-clause-unfinished g c tells fresh =
    open_leaves (g.W.Wire.told c.loop-size.wire) (g.W.Wire.told c.receive_more.new.wire) c.loop-size.ahead c.receive_more.new.ahead c.loop-size.passed
    c.in-Err.fault (c.loop-size.invariant.held tells fresh) c.loop-size.invariant.few (subst IsHeadCut c.bytes.ensures.same c.in-Open.ensures)
    (c.in-Err.ensures.says tells (c.loop-size.invariant.ends tells))

pub returns-in-Refused-clause-own : goal.returns-in-Refused-clause-own
returns-in-Refused-clause-own g c = front_own c.args.wanted.now (c.bytes.result.now ++ []) c.in-Refused.cause (c.in-Refused.ensures [])

pub returns-in-Err-clause-cause : goal.returns-in-Err-clause-cause
returns-in-Err-clause-cause g c = record {
  later = λ kind. omega (arith, c.loop-size.invariant.later kind, c.in-Err.ensures.later kind);
  cause = c.in-Err.ensures.cause (g.W.Wire.faults c.args.wire.now) c.loop-size.invariant.shown;
}

pub returns-in-Err-clause-reads : goal.returns-in-Err-clause-reads
returns-in-Err-clause-reads g c = reads_then _ _ _ c.loop-size.invariant.reads c.in-Err.ensures.reads

pub loop-size-init : goal.loop-size-init
loop-size-init g c = record {
  few = omega arith;
  held = λ tells fresh. subst (λ (t : List ℕ). HasPassed (g.W.Wire.told c.args.wire.now).given t 0) (sym c.requires) (none_passed (g.W.Wire.told c.args.wire.now).given fresh);
  ends = λ tells. tt;
  reads = reads_none _;
  later = λ kind. omega arith;
  shown = tt;
}
