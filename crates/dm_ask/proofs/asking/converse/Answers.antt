use Rattle.std.proofs.Common.{◌≡◌, inl, refl, sym, subst}
use Rattle.dm_reply.specs.declared.head.Head.{Head}
use Rattle.dm_reply.specs.declared.head.Kind.TheVariants as kind
use Rattle.dm_reply.specs.Content.{HeadSays}
use Rattle.dm_ask.specs.Following.{IsHeard}
use Rattle.dm_ask.proofs.Talking.{has_redirect, none_leads, broke_leads}
use Rattle.dm_ask.proofs.asking.converse.Goals as goal

pub returns-in-Err-clause-leads : goal.returns-in-Err-clause-leads
returns-in-Err-clause-leads g c = broke_leads c.args.reader.now.wanted c.in-Err.cause

pub returns-in-Err-clause-shown : goal.returns-in-Err-clause-shown
returns-in-Err-clause-shown g c = (c.in-Err.ensures.own, c.in-Err.ensures.shown)

pub returns-in-Err-content_of-clause-none : goal.returns-in-Err-content_of-clause-none
returns-in-Err-content_of-clause-none g c tells fresh =
    has_redirect c.args.reader.now.wanted (g.W.Wire.told c.talk.new.wire) c.talk.new.reader c.in-Ok.told c.in-Err-content_of.location
    (c.in-Ok.ensures.says tells fresh) c.in-Err-content_of.ensures.redirect

pub returns-in-Err-content_of-clause-leads : goal.returns-in-Err-content_of-clause-leads
returns-in-Err-content_of-clause-leads g c =
    none_leads c.args.reader.now.wanted c.in-Ok.told c.in-Err-content_of.location c.in-Ok.ensures.heard.plain c.in-Err-content_of.ensures.redirect

pub returns-in-Ok-key_for-clause-says : goal.returns-in-Ok-key_for-clause-says
returns-in-Ok-key_for-clause-says g c tells fresh =
    subst (HeadSays c.args.reader.now.wanted (g.W.Wire.told c.talk.new.wire) c.talk.new.reader) (sym c.in-Ok-content_of.ensures.content.0) (c.in-Ok.ensures.says tells fresh)

pub returns-in-Ok-key_for-clause-heard : goal.returns-in-Ok-key_for-clause-heard
returns-in-Ok-key_for-clause-heard g c =
    let same = c.in-Ok-content_of.ensures.content.0 in
    record {
      kind_is = subst (λ (h : Head). h.kind ≡ kind.Content) (sym same) c.in-Ok-content_of.ensures.content.1;
      heard = subst (IsHeard c.args.reader.now.wanted c.talk.new.reader) (sym same) c.in-Ok.ensures.heard;
      key_is = c.in-Ok-key_for.ensures;
    }

pub returns-in-Err-key_for-clause-none : goal.returns-in-Err-key_for-clause-none
returns-in-Err-key_for-clause-none g c tells fresh = inl refl

pub returns-in-Err-key_for-clause-sent : goal.returns-in-Err-key_for-clause-sent
returns-in-Err-key_for-clause-sent g c tells fresh = inl (c.in-Ok.ensures.sent tells fresh)

pub returns-in-Err-key_for-clause-leads : goal.returns-in-Err-key_for-clause-leads
returns-in-Err-key_for-clause-leads g c = broke_leads c.args.reader.now.wanted _

pub returns-in-Err-key_for-clause-shown : goal.returns-in-Err-key_for-clause-shown
returns-in-Err-key_for-clause-shown g c = (refl, tt)
