use Rattle.std.specs.Prelude.{IfOk, IfErr}
use Rattle.std.proofs.Common.{◌≡◌, sym, subst}
use Rattle.dm_edge.specs.Fair.{ask_of}
use Rattle.dm_request.specs.Request.{request_of}
use Rattle.dm_types.specs.declared.address.Address.{Address}
use Rattle.dm_policy.specs.declared.cause.Cause.{Cause}
use Rattle.dm_ask.specs.Asked.{IsReady, IsReached}
use Rattle.dm_ask.specs.Causes.{IsAskCause}
use Rattle.dm_ask.specs.Following.{IsAnswered, IsStopped}
use Rattle.dm_ask.specs.Redirects.{purpose_of}
use Rattle.dm_ask.proofs.Answering.{nothing_asked, memory_shown, of_content, of_stopped, of_broke}
use Rattle.dm_ask.proofs.asked.ask.Goals as goal

pub returns-in-Err-clause-stopped : goal.returns-in-Err-clause-stopped
returns-in-Err-clause-stopped g c tells =
    let N = g.N.Net in
    nothing_asked c.args.wanted (purpose_of c.args.id c.args.attempt) c.args.address.now (N.faults c.args.net.now) (N.faults c.args.net.now) (N.closed c.args.net.now)

pub returns-in-Err-clause-shown : goal.returns-in-Err-clause-shown
returns-in-Err-clause-shown g c = memory_shown (g.N.Net.faults c.args.net.now) (g.N.Net.faults c.args.net.now)

pub returns-in-Ok-clause-ready : goal.returns-in-Ok-clause-ready
returns-in-Ok-clause-ready g c =
    let made_for = purpose_of c.args.id c.args.attempt in
    of_content c.reach.result c.answer.result (λ wire reader head at key. IsReady c.args.wanted made_for c.args.address.now reader head at key) c.answer.ensures
    (subst (λ (first : Address). IfOk c.reach.result (λ f. IsReady c.args.wanted made_for first f.reader f.head f.address f.key)) c.in-Ok.ensures.address c.reach.ensures.ready)

pub returns-in-Ok-clause-heard : goal.returns-in-Ok-clause-heard
returns-in-Ok-clause-heard g c tells =
    let W = g.N.W.Wire in
    of_content c.reach.result c.answer.result (λ wire reader head at key. IsAnswered c.args.wanted (purpose_of c.args.id c.args.attempt at) (request_of at (ask_of c.args.wanted))
    (W.purpose wire) (W.told wire) reader head) c.answer.ensures (c.reach.ensures.heard tells)

pub returns-in-Ok-clause-reached : goal.returns-in-Ok-clause-reached
returns-in-Ok-clause-reached g c tells =
    let N = g.N.Net in
    let W = g.N.W.Wire in
    let made_for = purpose_of c.args.id c.args.attempt in
    of_content c.reach.result c.answer.result (λ wire reader head at key. IsReached c.args.wanted made_for c.args.address.now (N.closed c.args.net.now) (N.closed c.reach.new.net)
    (record { purpose = W.purpose wire; told = W.told wire; counts = W.faults wire }) reader head at) c.answer.ensures
    (subst (λ (first : Address). IfOk c.reach.result (λ f. IsReached c.args.wanted made_for first (N.closed c.args.net.now) (N.closed c.reach.new.net)
    (record { purpose = W.purpose f.wire; told = W.told f.wire; counts = W.faults f.wire }) f.reader f.head f.address)) c.in-Ok.ensures.address (c.reach.ensures.reached tells))

pub returns-in-Ok-clause-stopped : goal.returns-in-Ok-clause-stopped
returns-in-Ok-clause-stopped g c tells =
    let N = g.N.Net in
    let made_for = purpose_of c.args.id c.args.attempt in
    let Stops : Address → Cause → Type 0 = λ first. IsStopped c.args.wanted made_for first (N.faults c.args.net.now) (N.faults c.reach.new.net) (N.closed c.args.net.now) (N.closed c.reach.new.net) in
    of_stopped c.reach.result c.answer.result (Stops c.args.address.now) c.answer.ensures
    (subst (λ (first : Address). IfErr c.reach.result (Stops first)) c.in-Ok.ensures.address (c.reach.ensures.stopped tells))

pub returns-in-Ok-clause-shown : goal.returns-in-Ok-clause-shown
returns-in-Ok-clause-shown g c =
    let N = g.N.Net in
    of_stopped c.reach.result c.answer.result (IsAskCause (N.faults c.args.net.now) (N.faults c.reach.new.net)) c.answer.ensures c.reach.ensures.shown

pub returns-in-Ok-clause-apart : goal.returns-in-Ok-clause-apart
returns-in-Ok-clause-apart g c = of_broke c.reach.result c.answer.result c.answer.ensures

pub returns-in-Ok-clause-origin : goal.returns-in-Ok-clause-origin
returns-in-Ok-clause-origin g c =
    let N = g.N.Net in
    let W = g.N.W.Wire in
    of_content c.reach.result c.answer.result (λ wire reader head at key. W.origin wire ≡ N.origin_of c.args.net.now) c.answer.ensures c.reach.ensures.origin

pub returns-in-Ok-clause-direct : goal.returns-in-Ok-clause-direct
returns-in-Ok-clause-direct g c part =
    of_content c.reach.result c.answer.result (λ wire reader head at key. at ≡ c.args.address.now) c.answer.ensures
    (subst (λ (first : Address). IfOk c.reach.result (λ f. f.address ≡ first)) c.in-Ok.ensures.address (c.reach.ensures.direct part))
