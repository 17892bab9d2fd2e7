use Rattle.std.proofs.Common.{◌≡◌, ℕ, List, arith, inl, refl, subst, ◌∙◌}
use Rattle.dm_edge.specs.declared.wanted.Wanted.TheVariants.{Whole}
use Rattle.dm_edge.specs.Fair.{ask_of}
use Rattle.dm_request.specs.Request.{request_of}
use Rattle.dm_ask.specs.Asked.{IsReady, IsReached}
use Rattle.dm_ask.specs.Following.{IsAnswered}
use Rattle.dm_ask.specs.Redirects.{purpose_of}
use Rattle.dm_ask.proofs.Answering.{is_ready, is_reached, of_reached}
use Rattle.dm_ask.proofs.Redirecting.{led_none, led_more, none_since, stop_at, stop_shown}
use Rattle.dm_ask.proofs.Talking.{none_shown_since}
use Rattle.dm_ask.proofs.following.follow.Goals as goal

pub loop-answered-init : goal.loop-answered-init
loop-answered-init g c =
    let N = g.N.Net in
    record {
      within = omega arith;
      request = c.requires.request;
      led = λ tells. led_none (purpose_of c.args.id c.args.attempt) c.args.first.address (N.closed c.args.net.now);
      reads = λ reads. reads;
      origin = refl;
      later = λ kind. omega arith;
    }

pub loop-answered-preserved : goal.loop-answered-preserved
loop-answered-preserved g c =
    let N = g.N.Net in
    let was = c.loop-answered.invariant in
    record {
      within = omega (arith, c.in-Ok-next_aim.ensures.few);
      request = c.in-Ok-next_aim.ensures.request;
      led = λ tells. led_more Whole (purpose_of c.args.id c.args.attempt) c.args.first.address c.loop-answered.aim.address c.loop-answered.aim.request (N.closed c.args.net.now)
          (N.closed c.loop-answered.net) (N.closed c.ask_once.new.net) c.loop-answered.followed was.request (was.led tells) (N.faults c.loop-answered.net) (N.faults c.ask_once.new.net)
          c.in-Ok-next_aim.next.address c.in-Err.none refl (c.in-Err.ensures.none tells) c.in-Ok-next_aim.ensures.next;
      reads = λ first. c.in-Ok-next_aim.ensures.reads;
      origin = c.ask_once.ensures.stays ∙ was.origin;
      later = λ kind. omega (arith, was.later kind, c.ask_once.ensures.later kind);
    }

pub returns-in-Ok-clause-ready : goal.returns-in-Ok-clause-ready
returns-in-Ok-clause-ready g c =
    let made_for = purpose_of c.args.id c.args.attempt in
    let found = c.in-Ok.answered in
    of_reached c.reached_at.result found.wire found.reader found.head c.loop-answered.aim.address found.key
    (λ wire reader head address key. IsReady Whole made_for c.args.first.address reader head address key) c.reached_at.ensures
    (is_ready Whole made_for c.args.first.address c.loop-answered.aim.address found.reader found.head found.key c.in-Ok.ensures.heard c.loop-answered.invariant.reads)

pub returns-in-Ok-clause-heard : goal.returns-in-Ok-clause-heard
returns-in-Ok-clause-heard g c tells =
    let W = g.N.W.Wire in
    let made_for = purpose_of c.args.id c.args.attempt in
    let found = c.in-Ok.answered in
    of_reached c.reached_at.result found.wire found.reader found.head c.loop-answered.aim.address found.key
    (λ wire reader head address key. IsAnswered Whole (made_for address) (request_of address (ask_of Whole)) (W.purpose wire) (W.told wire) reader head) c.reached_at.ensures
    (subst (λ (request : List ℕ). IsAnswered Whole (made_for c.loop-answered.aim.address) request (W.purpose found.wire) (W.told found.wire) found.reader found.head)
    c.loop-answered.invariant.request (c.in-Ok.ensures.content tells))

pub returns-in-Ok-clause-reached : goal.returns-in-Ok-clause-reached
returns-in-Ok-clause-reached g c tells =
    let N = g.N.Net in
    let W = g.N.W.Wire in
    let was = c.loop-answered.invariant in
    let made_for = purpose_of c.args.id c.args.attempt in
    let found = c.in-Ok.answered in
    of_reached c.reached_at.result found.wire found.reader found.head c.loop-answered.aim.address found.key
    (λ wire reader head address key. IsReached Whole made_for c.args.first.address (N.closed c.args.net.now) (N.closed c.ask_once.new.net)
    (record { purpose = W.purpose wire; told = W.told wire; counts = W.faults wire }) reader head address) c.reached_at.ensures
    (is_reached Whole made_for c.args.first.address c.loop-answered.aim.address c.loop-answered.aim.request (N.closed c.args.net.now) (N.closed c.loop-answered.net)
    (N.closed c.ask_once.new.net) c.loop-answered.followed (record { purpose = W.purpose found.wire; told = W.told found.wire; counts = W.faults found.wire }) found.reader found.head
    (was.led tells) was.within (inl refl) was.request c.in-Ok.ensures.closed (c.in-Ok.ensures.content (g.met.N.Net.wires_tell tells)))

pub returns-in-Ok-clause-origin : goal.returns-in-Ok-clause-origin
returns-in-Ok-clause-origin g c =
    let N = g.N.Net in
    let W = g.N.W.Wire in
    let found = c.in-Ok.answered in
    of_reached c.reached_at.result found.wire found.reader found.head c.loop-answered.aim.address found.key (λ wire reader head address key. W.origin wire ≡ N.origin_of c.args.net.now)
    c.reached_at.ensures (c.in-Ok.ensures.origin ∙ c.loop-answered.invariant.origin)

pub returns-in-Err-next_aim-clause-stopped : goal.returns-in-Err-next_aim-clause-stopped
returns-in-Err-next_aim-clause-stopped g c tells =
    let N = g.N.Net in
    let was = c.loop-answered.invariant in
    stop_at Whole (purpose_of c.args.id c.args.attempt) c.args.first.address c.loop-answered.aim.address c.loop-answered.aim.request (N.closed c.args.net.now) (N.closed c.loop-answered.net)
    (N.closed c.ask_once.new.net) c.loop-answered.followed was.request (was.led tells) (N.faults c.args.net.now) (N.faults c.ask_once.new.net) c.in-Err.none c.in-Err-next_aim.cause was.within
    (inl refl)
    (none_since (N.faults c.args.net.now) (N.faults c.loop-answered.net) (N.faults c.ask_once.new.net) was.later Whole (purpose_of c.args.id c.args.attempt c.loop-answered.aim.address)
    c.loop-answered.aim.request (N.closed c.loop-answered.net) (N.closed c.ask_once.new.net) c.in-Err.none (c.in-Err.ensures.none tells))
    c.in-Err-next_aim.ensures.stops

pub returns-in-Err-next_aim-clause-shown : goal.returns-in-Err-next_aim-clause-shown
returns-in-Err-next_aim-clause-shown g c =
    let N = g.N.Net in
    stop_shown (N.faults c.args.net.now) (N.faults c.ask_once.new.net) c.loop-answered.aim.address c.loop-answered.followed c.in-Err.none c.in-Err-next_aim.cause
    (none_shown_since (N.faults c.args.net.now) (N.faults c.loop-answered.net) (N.faults c.ask_once.new.net) c.in-Err.none c.loop-answered.invariant.later c.in-Err.ensures.shown)
    c.in-Err-next_aim.ensures.stops
