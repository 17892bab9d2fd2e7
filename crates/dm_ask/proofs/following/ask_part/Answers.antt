use Rattle.std.proofs.Common.{◌≡◌, ℕ, List, arith, inr, refl, subst}
use Rattle.dm_ask.specs.declared.asking.NoContent.TheVariants as none_as
use Rattle.dm_edge.specs.Fair.{ask_of}
use Rattle.dm_request.specs.Request.{request_of}
use Rattle.dm_ask.specs.Asked.{IsReady, IsReached}
use Rattle.dm_ask.specs.Following.{IsAnswered, NoneSays, NoneShown}
use Rattle.dm_ask.specs.Redirects.{purpose_of}
use Rattle.dm_ask.proofs.Answering.{is_ready, is_reached, of_reached, is_cause}
use Rattle.dm_ask.proofs.Redirecting.{led_none, stop_at}
use Rattle.dm_ask.proofs.following.ask_part.Goals as goal

pub only_cause-requires : goal.only_cause-requires
only_cause-requires g c = is_cause c.args.wanted c.in-Err.none c.requires.part c.in-Err.ensures.leads

pub returns-in-Ok-clause-ready : goal.returns-in-Ok-clause-ready
returns-in-Ok-clause-ready g c =
    let made_for = purpose_of c.args.id c.args.attempt in
    let found = c.in-Ok.answered in
    of_reached c.reached_at.result found.wire found.reader found.head c.args.aim.address found.key
    (λ wire reader head address key. IsReady c.args.wanted made_for c.args.aim.address reader head address key) c.reached_at.ensures
    (is_ready c.args.wanted made_for c.args.aim.address c.args.aim.address found.reader found.head found.key c.in-Ok.ensures.heard (λ reads. reads))

pub returns-in-Ok-clause-heard : goal.returns-in-Ok-clause-heard
returns-in-Ok-clause-heard g c tells =
    let W = g.N.W.Wire in
    let made_for = purpose_of c.args.id c.args.attempt in
    let found = c.in-Ok.answered in
    of_reached c.reached_at.result found.wire found.reader found.head c.args.aim.address found.key
    (λ wire reader head address key. IsAnswered c.args.wanted (made_for address) (request_of address (ask_of c.args.wanted)) (W.purpose wire) (W.told wire) reader head) c.reached_at.ensures
    (subst (λ (request : List ℕ). IsAnswered c.args.wanted (made_for c.args.aim.address) request (W.purpose found.wire) (W.told found.wire) found.reader found.head)
    c.requires.request (c.in-Ok.ensures.content tells))

pub returns-in-Ok-clause-reached : goal.returns-in-Ok-clause-reached
returns-in-Ok-clause-reached g c tells =
    let N = g.N.Net in
    let W = g.N.W.Wire in
    let made_for = purpose_of c.args.id c.args.attempt in
    let found = c.in-Ok.answered in
    of_reached c.reached_at.result found.wire found.reader found.head c.args.aim.address found.key
    (λ wire reader head address key. IsReached c.args.wanted made_for c.args.aim.address (N.closed c.args.net.now) (N.closed c.ask_once.new.net)
    (record { purpose = W.purpose wire; told = W.told wire; counts = W.faults wire }) reader head address) c.reached_at.ensures
    (is_reached c.args.wanted made_for c.args.aim.address c.args.aim.address c.args.aim.request (N.closed c.args.net.now) (N.closed c.args.net.now)
    (N.closed c.ask_once.new.net) 0 (record { purpose = W.purpose found.wire; told = W.told found.wire; counts = W.faults found.wire }) found.reader found.head
    (led_none made_for c.args.aim.address (N.closed c.args.net.now)) (omega arith) (inr refl) c.requires.request c.in-Ok.ensures.closed (c.in-Ok.ensures.content (g.met.N.Net.wires_tell tells)))

pub returns-in-Ok-clause-origin : goal.returns-in-Ok-clause-origin
returns-in-Ok-clause-origin g c =
    let N = g.N.Net in
    let W = g.N.W.Wire in
    let found = c.in-Ok.answered in
    of_reached c.reached_at.result found.wire found.reader found.head c.args.aim.address found.key (λ wire reader head address key. W.origin wire ≡ N.origin_of c.args.net.now)
    c.reached_at.ensures (c.in-Ok.ensures.origin)

pub returns-in-Err-clause-stopped : goal.returns-in-Err-clause-stopped
returns-in-Err-clause-stopped g c tells =
    let N = g.N.Net in
    let made_for = purpose_of c.args.id c.args.attempt in
    stop_at c.args.wanted made_for c.args.aim.address c.args.aim.address c.args.aim.request (N.closed c.args.net.now) (N.closed c.args.net.now)
    (N.closed c.ask_once.new.net) 0 c.requires.request (led_none made_for c.args.aim.address (N.closed c.args.net.now)) (N.faults c.args.net.now) (N.faults c.ask_once.new.net)
    (none_as.Broke c.only_cause.result) c.only_cause.result (omega arith) (inr refl)
    (subst (NoneSays c.args.wanted (made_for c.args.aim.address) c.args.aim.request (N.faults c.args.net.now) (N.faults c.ask_once.new.net) (N.closed c.args.net.now) (N.closed c.ask_once.new.net))
    c.only_cause.ensures (c.in-Err.ensures.none tells)) (inr refl)

pub returns-in-Err-clause-shown : goal.returns-in-Err-clause-shown
returns-in-Err-clause-shown g c =
    let N = g.N.Net in
    subst (NoneShown (N.faults c.args.net.now) (N.faults c.ask_once.new.net)) c.only_cause.ensures c.in-Err.ensures.shown

pub returns-in-Ok-clause-direct : goal.returns-in-Ok-clause-direct
returns-in-Ok-clause-direct g c =
    let found = c.in-Ok.answered in
    of_reached c.reached_at.result found.wire found.reader found.head c.args.aim.address found.key (λ wire reader head address key. address ≡ c.args.aim.address) c.reached_at.ensures refl
