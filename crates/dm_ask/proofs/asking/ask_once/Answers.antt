use Rattle.std.specs.Prelude.{IfOk, IfErr}
use Rattle.std.proofs.Common.{List, inl, refl, sym, ◌∙◌, ap, subst}
use Rattle.dm_edge.specs.Causes.{CutsNet}
use Rattle.dm_edge.specs.Wire.{Closed}
use Rattle.dm_edge.specs.declared.wanted.Wanted.{Wanted}
use Rattle.dm_reply.specs.Content.{Reader, unread}
use Rattle.dm_ask.specs.declared.asking.NoContent.{NoContent}
use Rattle.dm_ask.specs.Causes.{IsAskCause}
use Rattle.dm_ask.specs.Following.{IsAnswered, IsContent, LeadsFor, NoneSays, NoneShown}
use Rattle.dm_ask.specs.Redirects.{purpose_of}
use Rattle.dm_ask.proofs.Redirecting.{err_by, none_since}
use Rattle.dm_ask.proofs.Talking.{broke_leads, connect_cuts, connect_shown, none_shown_since}
use Rattle.dm_ask.proofs.asking.ask_once.Goals as goal

pub hear-requires-clause-unread : goal.hear-requires-clause-unread
hear-requires-clause-unread g c = c.in-Ok.ensures ∙ ap unread (sym (ap (λ (r : Reader). r.wanted) c.in-Ok.ensures))

pub returns-in-Err-clause-none : goal.returns-in-Err-clause-none
returns-in-Err-clause-none g c tells = inl (refl, inl refl)

pub returns-in-Err-clause-leads : goal.returns-in-Err-clause-leads
returns-in-Err-clause-leads g c = broke_leads c.args.wanted _

pub returns-in-Err-clause-shown : goal.returns-in-Err-clause-shown
returns-in-Err-clause-shown g c = record { own = refl; counted = tt }

pub returns-in-Err-connect-clause-none : goal.returns-in-Err-connect-clause-none
returns-in-Err-connect-clause-none g c tells =
    let N = g.N.Net in
    inl (
      c.connect.ensures.closed,
      subst (CutsNet (N.faults c.args.net.now) (N.faults c.connect.new.self)) (sym c.net_cause.ensures)
          (connect_cuts (N.faults c.args.net.now) (N.faults c.connect.new.self) c.in-Err-connect.fault c.in-Err-connect.ensures.cause.cause),
    )

pub returns-in-Err-connect-clause-leads : goal.returns-in-Err-connect-clause-leads
returns-in-Err-connect-clause-leads g c = broke_leads c.args.wanted _

pub returns-in-Err-connect-clause-shown : goal.returns-in-Err-connect-clause-shown
returns-in-Err-connect-clause-shown g c =
    let N = g.N.Net in
    subst (IsAskCause (N.faults c.args.net.now) (N.faults c.connect.new.self)) (sym c.net_cause.ensures)
    (connect_shown (N.faults c.args.net.now) (N.faults c.connect.new.self) c.in-Err-connect.fault c.in-Err-connect.ensures.cause.cause)

pub returns-in-Ok-connect-clause-shown : goal.returns-in-Ok-connect-clause-shown
returns-in-Ok-connect-clause-shown g c =
    let N = g.N.Net in
    err_by (NoneShown (N.faults c.connect.new.self) (N.faults c.hear.new.net)) (NoneShown (N.faults c.args.net.now) (N.faults c.hear.new.net)) c.hear.result
    (λ (none : NoContent) shown. none_shown_since (N.faults c.args.net.now) (N.faults c.connect.new.self) (N.faults c.hear.new.net) none c.connect.ensures.cause.later shown)
    c.hear.ensures.shown

pub returns-in-Ok-connect-clause-none : goal.returns-in-Ok-connect-clause-none
returns-in-Ok-connect-clause-none g c tells =
    let N = g.N.Net in
    let tells_wire = g.met.N.Net.wires_tell tells in
    let made_for = purpose_of c.args.id c.args.attempt c.args.aim.now.address in
    let request = c.args.aim.now.request in
    let wanted_is = ap (λ (r : Reader). r.wanted) c.in-Ok.ensures in
    let none = c.hear.ensures.none tells (c.in-Ok-connect.ensures.fresh tells_wire) (c.in-Ok-connect.ensures.purpose tells_wire) in
    err_by (NoneSays c.in-Ok.reader.wanted made_for request (N.faults c.connect.new.self) (N.faults c.hear.new.net) (N.closed c.connect.new.self) (N.closed c.hear.new.net))
    (NoneSays c.args.wanted made_for request (N.faults c.args.net.now) (N.faults c.hear.new.net) (N.closed c.args.net.now) (N.closed c.hear.new.net)) c.hear.result
    (λ (fault : NoContent) says. subst (λ (w : Wanted). NoneSays w made_for request (N.faults c.args.net.now) (N.faults c.hear.new.net) (N.closed c.args.net.now) (N.closed c.hear.new.net) fault)
    wanted_is
    (subst (λ (closed : List Closed). NoneSays c.in-Ok.reader.wanted made_for request (N.faults c.args.net.now) (N.faults c.hear.new.net) closed (N.closed c.hear.new.net) fault) c.connect.ensures.closed
    (none_since (N.faults c.args.net.now) (N.faults c.connect.new.self) (N.faults c.hear.new.net) c.connect.ensures.cause.later c.in-Ok.reader.wanted made_for request (N.closed c.connect.new.self)
    (N.closed c.hear.new.net) fault says)))
    none

pub returns-in-Ok-connect-clause-content : goal.returns-in-Ok-connect-clause-content
returns-in-Ok-connect-clause-content g c tells =
    let W = g.N.W.Wire in
    subst (λ (w : Wanted). IfOk c.hear.result (λ answered. IsAnswered w (purpose_of c.args.id c.args.attempt c.args.aim.now.address) c.args.aim.now.request
    (W.purpose answered.wire) (W.told answered.wire) answered.reader answered.head)) (ap (λ (r : Reader). r.wanted) c.in-Ok.ensures)
    (c.hear.ensures.content tells (c.in-Ok-connect.ensures.fresh tells) (c.in-Ok-connect.ensures.purpose tells))

pub returns-in-Ok-connect-clause-heard : goal.returns-in-Ok-connect-clause-heard
returns-in-Ok-connect-clause-heard g c =
    subst (λ (w : Wanted). IfOk c.hear.result (λ answered. IsContent w (purpose_of c.args.id c.args.attempt) answered.reader answered.head answered.key))
    (ap (λ (r : Reader). r.wanted) c.in-Ok.ensures) c.hear.ensures.heard

pub returns-in-Ok-connect-clause-leads : goal.returns-in-Ok-connect-clause-leads
returns-in-Ok-connect-clause-leads g c =
    subst (λ (w : Wanted). IfErr c.hear.result (LeadsFor w)) (ap (λ (r : Reader). r.wanted) c.in-Ok.ensures) c.hear.ensures.leads
