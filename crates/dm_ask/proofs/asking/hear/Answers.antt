use Rattle.std.proofs.Common.{List, ℕ, ◌∙◌, subst}
use Rattle.dm_ask.specs.Following.{SentBefore}
use Rattle.dm_ask.specs.Redirects.{purpose_of}
use Rattle.dm_ask.proofs.Redirecting.{closed_says}
use Rattle.dm_ask.proofs.Talking.{none_shown}
use Rattle.dm_ask.proofs.asking.hear.Goals as goal

pub returns-in-Ok-clause-content : goal.returns-in-Ok-clause-content
returns-in-Ok-clause-content g c tells fresh made = record {
  purpose_is = c.converse.ensures.stays.0 ∙ made;
  sent = c.in-Ok.ensures.sent tells fresh ∙ c.bytes.ensures;
  says = c.in-Ok.ensures.says tells fresh;
}

pub returns-in-Err-clause-none : goal.returns-in-Err-clause-none
returns-in-Err-clause-none g c tells fresh made =
    let N = g.N.Net in
    let W = g.N.W.Wire in
    let tells_wire = g.met.N.Net.wires_tell tells in
    closed_says (W.faults c.converse.new.wire) (N.faults c.args.net.now) (N.faults c.close.new.self) c.close.ensures.counted c.args.reader.wanted
    (purpose_of c.args.id c.args.attempt c.args.aim.now.address) (W.purpose c.converse.new.wire) (W.told c.converse.new.wire) c.args.aim.now.request
    (N.closed c.args.net.now) (N.closed c.close.new.self) c.in-Err.none (c.converse.ensures.stays.0 ∙ made) (c.close.ensures.closed tells)
    (c.in-Err.ensures.none tells_wire fresh)
    (subst (λ (r : List ℕ). SentBefore (W.faults c.converse.new.wire) r (W.told c.converse.new.wire).sent c.in-Err.none) c.bytes.ensures (c.in-Err.ensures.sent tells_wire fresh))

pub returns-in-Err-clause-shown : goal.returns-in-Err-clause-shown
returns-in-Err-clause-shown g c =
    let N = g.N.Net in
    none_shown (g.N.W.Wire.faults c.converse.new.wire) (N.faults c.args.net.now) (N.faults c.close.new.self) c.in-Err.none c.close.ensures.counted c.in-Err.ensures.shown
