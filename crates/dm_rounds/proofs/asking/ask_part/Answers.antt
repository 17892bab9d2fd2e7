use Rattle.dm_request.specs.Request.{request_of}
use Rattle.std.proofs.Common.{true, refl, sym, ◌∙◌, subst, arith}
use Rattle.dm_edge.specs.declared.wanted.Wanted.{Wanted}
use Rattle.dm_edge.specs.Fair.{ask_of, IsOrdered}
use Rattle.dm_ask.specs.Asked.{IsReached}
use Rattle.dm_ask.specs.Following.{IsAnswered, IsPart, IsStopped}
use Rattle.dm_ask.specs.Redirects.{purpose_of}
use Rattle.dm_rounds.proofs.Causes.{ask_own}
use Rattle.dm_rounds.proofs.Asks.{ask_met, heard_lane, new_turn, none_closed}
use Rattle.dm_rounds.proofs.asking.ask_part.Goals as goal

pub ask-requires : goal.ask-requires
ask-requires g c = record { ordered = subst IsOrdered (sym c.in-Ok.ensures) (omega (arith, c.requires.some)) }

pub returns-in-Content-clause-fresh : goal.returns-in-Content-clause-fresh
returns-in-Content-clause-fresh g c =
    record { part_is = refl; at_is = refl; bounded_is = refl; wanted_is = c.in-Content.ensures.ready.wanted_is ∙ c.in-Ok.ensures; given = c.in-Content.ensures.ready.unread; unbroken = c.in-Content.ensures.ready.unbroken }

pub returns-in-Content-clause-heard : goal.returns-in-Content-clause-heard
returns-in-Content-clause-heard g c t =
    let W = g.N.W.Wire in
    let source = c.args.source.now in
    let pass = c.args.pass.now in
    let part = c.args.part.now in
    let answered = subst (λ (w : Wanted). IsAnswered w (purpose_of pass.id pass.attempt c.in-Content._at) (request_of c.in-Content._at (ask_of w)) (W.purpose c.in-Content.wire) (W.told c.in-Content.wire) c.in-Content.reader c.in-Content._head)
    c.in-Ok.ensures (c.in-Content.ensures.heard t) in
    heard_lane W.purpose W.told source pass part c.in-Content.wire c.in-Content.reader c.in-Content._head c.in-Content._at (c.in-Content.ensures.direct (subst IsPart (sym c.in-Ok.ensures) tt)) answered
    (c.in-Content.ensures.ready.wanted_is ∙ c.in-Ok.ensures) c.in-Content.ensures.ready.kind_is

pub returns-in-Content-clause-turn : goal.returns-in-Content-clause-turn
returns-in-Content-clause-turn g c asking shares asks empty =
    let N = g.N.Net in
    let W = g.N.W.Wire in
    let source = c.args.source.now in
    let pass = c.args.pass.now in
    let part = c.args.part.now in
    let wanted = c.in-Content.ensures.ready.wanted_is ∙ c.in-Ok.ensures in
    new_turn W.tells W.purpose W.told W.origin (N.origin_of c.args.net.now) asking source pass part shares (record { wire = c.in-Content.wire; reader = c.in-Content.reader; part = part; at = part.first; bounded = true }) asks empty c.requires.some
    (record { part_is = refl; at_is = refl; bounded_is = refl; wanted_is = wanted; given = c.in-Content.ensures.ready.unread; unbroken = c.in-Content.ensures.ready.unbroken })
    (λ t. let answered = subst (λ (w : Wanted). IsAnswered w (purpose_of pass.id pass.attempt c.in-Content._at) (request_of c.in-Content._at (ask_of w)) (W.purpose c.in-Content.wire) (W.told c.in-Content.wire) c.in-Content.reader c.in-Content._head)
    c.in-Ok.ensures (c.in-Content.ensures.heard t) in
    heard_lane W.purpose W.told source pass part c.in-Content.wire c.in-Content.reader c.in-Content._head c.in-Content._at (c.in-Content.ensures.direct (subst IsPart (sym c.in-Ok.ensures) tt)) answered wanted c.in-Content.ensures.ready.kind_is)
    c.in-Content.ensures.origin

pub returns-in-Content-clause-closed : goal.returns-in-Content-clause-closed
returns-in-Content-clause-closed g c t =
    let N = g.N.Net in
    let W = g.N.W.Wire in
    let source = c.args.source.now in
    let pass = c.args.pass.now in
    let part = c.args.part.now in
    let reached = subst (λ (w : Wanted). IsReached w (purpose_of pass.id pass.attempt) source.address (N.closed c.args.net.now) (N.closed c.ask.new.net)
    (record { purpose = W.purpose c.in-Content.wire; told = W.told c.in-Content.wire; counts = W.faults c.in-Content.wire }) c.in-Content.reader c.in-Content._head c.in-Content._at) c.in-Ok.ensures (c.in-Content.ensures.reached t) in
    none_closed W.purpose W.told W.faults source pass part c.in-Content.wire c.in-Content.reader c.in-Content._head c.in-Content._at (N.closed c.args.net.now) (N.closed c.ask.new.net) reached

pub returns-in-Broke-clause-stopped : goal.returns-in-Broke-clause-stopped
returns-in-Broke-clause-stopped g c t =
    let N = g.N.Net in
    subst (λ (w : Wanted). IsStopped w (purpose_of c.args.pass.now.id c.args.pass.now.attempt) c.args.source.now.address (N.faults c.args.net.now) (N.faults c.ask.new.net) (N.closed c.args.net.now) (N.closed c.ask.new.net) c.in-Broke.cause)
    c.in-Ok.ensures (c.in-Broke.ensures.stopped t)

pub returns-in-Broke-clause-counted : goal.returns-in-Broke-clause-counted
returns-in-Broke-clause-counted g c = (ask_own c.in-Broke.cause c.in-Broke.ensures.apart c.in-Broke.ensures.shown.own, c.in-Broke.ensures.shown.counted)

pub returns-in-Broke-clause-met : goal.returns-in-Broke-clause-met
returns-in-Broke-clause-met g c = ask_met c.in-Broke.cause c.in-Broke.ensures.shown.own
