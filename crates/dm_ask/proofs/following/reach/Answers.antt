use Rattle.std.specs.Prelude.{IfOk, IfErr}
use Rattle.std.proofs.Common.{sym, subst}
use Rattle.dm_edge.specs.Fair.{ask_of}
use Rattle.dm_edge.specs.declared.wanted.Wanted.{Wanted}
use Rattle.dm_request.specs.Request.{request_of}
use Rattle.dm_ask.specs.declared.following.Reached.{Reached}
use Rattle.dm_ask.specs.Asked.{IsAim, IsReady, IsReached}
use Rattle.dm_ask.specs.Following.{IsAnswered, IsPart, IsStopped}
use Rattle.dm_ask.specs.Redirects.{purpose_of}
use Rattle.dm_ask.proofs.following.reach.Goals as goal

pub follow-requires : goal.follow-requires
follow-requires g c = record { request = subst (λ (w : Wanted). IsAim w c.args.aim) c.in-Whole.is c.requires.request }

pub returns-in-Whole-clause-ready : goal.returns-in-Whole-clause-ready
returns-in-Whole-clause-ready g c =
    subst (λ (w : Wanted). IfOk c.follow.result (λ f. IsReady w (purpose_of c.args.id c.args.attempt) c.args.aim.address f.reader f.head f.address f.key)) (sym c.in-Whole.is) c.follow.ensures.ready

pub returns-in-Whole-clause-heard : goal.returns-in-Whole-clause-heard
returns-in-Whole-clause-heard g c tells =
    let W = g.N.W.Wire in
    subst (λ (w : Wanted). IfOk c.follow.result (λ f. IsAnswered w (purpose_of c.args.id c.args.attempt f.address) (request_of f.address (ask_of w)) (W.purpose f.wire) (W.told f.wire) f.reader f.head))
    (sym c.in-Whole.is) (c.follow.ensures.heard tells)

pub returns-in-Whole-clause-reached : goal.returns-in-Whole-clause-reached
returns-in-Whole-clause-reached g c tells =
    let N = g.N.Net in
    let W = g.N.W.Wire in
    subst (λ (w : Wanted). IfOk c.follow.result (λ f. IsReached w (purpose_of c.args.id c.args.attempt) c.args.aim.address (N.closed c.args.net.now) (N.closed c.follow.new.net)
    (record { purpose = W.purpose f.wire; told = W.told f.wire; counts = W.faults f.wire }) f.reader f.head f.address)) (sym c.in-Whole.is) (c.follow.ensures.reached tells)

pub returns-in-Whole-clause-stopped : goal.returns-in-Whole-clause-stopped
returns-in-Whole-clause-stopped g c tells =
    let N = g.N.Net in
    subst (λ (w : Wanted). IfErr c.follow.result (IsStopped w (purpose_of c.args.id c.args.attempt) c.args.aim.address (N.faults c.args.net.now) (N.faults c.follow.new.net)
    (N.closed c.args.net.now) (N.closed c.follow.new.net))) (sym c.in-Whole.is) (c.follow.ensures.stopped tells)

pub ask_part-requires-clause-request : goal.ask_part-requires-clause-request
ask_part-requires-clause-request g c = subst (λ (w : Wanted). IsAim w c.args.aim) c.in-Part.is c.requires.request

pub returns-in-Part-clause-ready : goal.returns-in-Part-clause-ready
returns-in-Part-clause-ready g c =
    subst (λ (w : Wanted). IfOk c.ask_part.result (λ f. IsReady w (purpose_of c.args.id c.args.attempt) c.args.aim.address f.reader f.head f.address f.key)) (sym c.in-Part.is) c.ask_part.ensures.ready

pub returns-in-Part-clause-heard : goal.returns-in-Part-clause-heard
returns-in-Part-clause-heard g c tells =
    let W = g.N.W.Wire in
    subst (λ (w : Wanted). IfOk c.ask_part.result (λ f. IsAnswered w (purpose_of c.args.id c.args.attempt f.address) (request_of f.address (ask_of w)) (W.purpose f.wire) (W.told f.wire) f.reader f.head))
    (sym c.in-Part.is) (c.ask_part.ensures.heard tells)

pub returns-in-Part-clause-reached : goal.returns-in-Part-clause-reached
returns-in-Part-clause-reached g c tells =
    let N = g.N.Net in
    let W = g.N.W.Wire in
    subst (λ (w : Wanted). IfOk c.ask_part.result (λ f. IsReached w (purpose_of c.args.id c.args.attempt) c.args.aim.address (N.closed c.args.net.now) (N.closed c.ask_part.new.net)
    (record { purpose = W.purpose f.wire; told = W.told f.wire; counts = W.faults f.wire }) f.reader f.head f.address)) (sym c.in-Part.is) (c.ask_part.ensures.reached tells)

pub returns-in-Part-clause-stopped : goal.returns-in-Part-clause-stopped
returns-in-Part-clause-stopped g c tells =
    let N = g.N.Net in
    subst (λ (w : Wanted). IfErr c.ask_part.result (IsStopped w (purpose_of c.args.id c.args.attempt) c.args.aim.address (N.faults c.args.net.now) (N.faults c.ask_part.new.net)
    (N.closed c.args.net.now) (N.closed c.ask_part.new.net))) (sym c.in-Part.is) (c.ask_part.ensures.stopped tells)

pub returns-in-Whole-clause-direct : goal.returns-in-Whole-clause-direct
returns-in-Whole-clause-direct g c part = absurd (subst IsPart c.in-Whole.is part)

pub returns-in-Part-clause-direct : goal.returns-in-Part-clause-direct
returns-in-Part-clause-direct g c part = c.ask_part.ensures.direct
