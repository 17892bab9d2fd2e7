use Rattle.std.specs.Prelude.{IsTrue}
use Rattle.std.proofs.Common.{ℕ, List, ◌++◌, take, inl, inr, sym, ◌∙◌, ap, subst}
use Rattle.dm_policy.specs.declared.cause.Cause.{Cause}
use Rattle.dm_edge.specs.Wire.{stream_of}
use Rattle.dm_ask.specs.Causes.{is_talk_cause}
use Rattle.dm_ask.specs.Following.{TalkBroke, ShowsOn}
use Rattle.dm_ask.proofs.Talking.{send_cuts, cut_broke, send_own, send_shows, head_own, head_shows, head_broke}
use Rattle.dm_ask.proofs.asking.talk.Goals as goal

pub returns-in-Err-clause-broke : goal.returns-in-Err-clause-broke
returns-in-Err-clause-broke g c tells fresh =
    let W = g.W.Wire in
    cut_broke c.args.reader.now.wanted (W.faults c.send.new.self) (stream_of (W.told c.send.new.self)) c.wire_cause.result
    (send_cuts (W.faults c.args.wire.now) (W.faults c.send.new.self) c.in-Err.fault c.wire_cause.result c.wire_cause.ensures c.in-Err.ensures.cause.cause)

pub returns-in-Err-clause-sent : goal.returns-in-Err-clause-sent
returns-in-Err-clause-sent g c tells fresh =
    let W = g.W.Wire in
    let front = (c.in-Err.ensures.sent tells).sent in
    inr (
      send_cuts (W.faults c.args.wire.now) (W.faults c.send.new.self) c.in-Err.fault c.wire_cause.result c.wire_cause.ensures c.in-Err.ensures.cause.cause,
      (front.0, front.1 ∙ ap (λ (s : List ℕ). s ++ take front.0 c.args.request.now) fresh.sent),
    )

pub returns-in-Err-clause-own : goal.returns-in-Err-clause-own
returns-in-Err-clause-own g c = subst (λ (broke : Cause). IsTrue (is_talk_cause broke)) (sym c.wire_cause.ensures) (send_own c.in-Err.fault)

pub returns-in-Err-clause-shown : goal.returns-in-Err-clause-shown
returns-in-Err-clause-shown g c =
    let W = g.W.Wire in
    subst (ShowsOn (W.faults c.send.new.self)) (sym c.wire_cause.ensures)
    (send_shows (W.faults c.args.wire.now) (W.faults c.send.new.self) c.in-Err.fault c.in-Err.ensures.cause.cause)

pub returns-in-Ok-head-clause-says : goal.returns-in-Ok-head-clause-says
returns-in-Ok-head-clause-says g c tells fresh = c.in-Ok-head.ensures.says tells ((c.in-Ok.ensures.sent tells).given ∙ fresh.given)

pub returns-in-Ok-head-clause-heard : goal.returns-in-Ok-head-clause-heard
returns-in-Ok-head-clause-heard g c = record {
  wanted_is = c.head.ensures.wanted;
  plain = c.in-Ok-head.ensures.plain;
  framed = c.in-Ok-head.ensures.framed;
  unread = c.in-Ok-head.ensures.fresh.0;
  unbroken = c.in-Ok-head.ensures.fresh.1;
}

pub returns-in-Ok-head-clause-sent : goal.returns-in-Ok-head-clause-sent
returns-in-Ok-head-clause-sent g c tells fresh =
    c.head.ensures.reads.sent tells ∙ (c.in-Ok.ensures.sent tells).sent ∙ ap (λ (s : List ℕ). s ++ c.args.request.now) fresh.sent

pub returns-in-Ok-head-clause-stays : goal.returns-in-Ok-head-clause-stays
returns-in-Ok-head-clause-stays g c = (c.head.ensures.reads.purpose_stays ∙ c.in-Ok.ensures.stays.0, c.head.ensures.reads.origin_stays ∙ c.in-Ok.ensures.stays.1)

pub returns-in-Err-head-clause-broke : goal.returns-in-Err-head-clause-broke
returns-in-Err-head-clause-broke g c tells fresh =
    let W = g.W.Wire in
    subst (TalkBroke c.args.reader.now.wanted (W.faults c.head.new.wire) (stream_of (W.told c.head.new.wire))) (sym c.head_cause.ensures)
    (head_broke c.args.reader.now.wanted (W.faults c.send.new.self) (W.faults c.head.new.wire) (stream_of (W.told c.head.new.wire)) c.in-Err-head.fault
    (c.in-Err-head.ensures.broke tells ((c.in-Ok.ensures.sent tells).given ∙ fresh.given)) c.in-Err-head.ensures.cause.cause)

pub returns-in-Err-head-clause-sent : goal.returns-in-Err-head-clause-sent
returns-in-Err-head-clause-sent g c tells fresh =
    inl (c.head.ensures.reads.sent tells ∙ (c.in-Ok.ensures.sent tells).sent ∙ ap (λ (s : List ℕ). s ++ c.args.request.now) fresh.sent)

pub returns-in-Err-head-clause-own : goal.returns-in-Err-head-clause-own
returns-in-Err-head-clause-own g c =
    subst (λ (broke : Cause). IsTrue (is_talk_cause broke)) (sym c.head_cause.ensures) (head_own c.in-Err-head.fault c.in-Err-head.ensures.own)

pub returns-in-Err-head-clause-shown : goal.returns-in-Err-head-clause-shown
returns-in-Err-head-clause-shown g c =
    let W = g.W.Wire in
    subst (ShowsOn (W.faults c.head.new.wire)) (sym c.head_cause.ensures)
    (head_shows (W.faults c.send.new.self) (W.faults c.head.new.wire) c.in-Err-head.fault c.in-Err-head.ensures.cause.cause)

pub returns-in-Err-head-clause-stays : goal.returns-in-Err-head-clause-stays
returns-in-Err-head-clause-stays g c = (c.head.ensures.reads.purpose_stays ∙ c.in-Ok.ensures.stays.0, c.head.ensures.reads.origin_stays ∙ c.in-Ok.ensures.stays.1)
