-- The lane that asking for a part gives.
use Rattle.std.proofs.Common.{◌≡◌, ◌≢◌, ◌⊎◌, inl, inr, ◌<◌, ℕ, ◌-◌, arith, List, [], ◌++◌, Some, true, false, IsTrue, refl, sym, ◌∙◌, ap, subst}
use Rattle.std.proofs.lemmas.Bool.{false≢true}
use Rattle.std.proofs.lemmas.List.{append-nil}
use Rattle.dm_types.specs.declared.address.Address.{Address}
use Rattle.dm_policy.specs.declared.cause.Cause.{Cause}
use Rattle.dm_edge.specs.declared.fault.WireFault.{WireFault}
use Rattle.dm_edge.specs.declared.wanted.Wanted.{Wanted}
use Rattle.dm_edge.specs.declared.wanted.Wanted.TheVariants.{Whole}
use Rattle.dm_edge.specs.Fair.{ask_of, key_of}
use Rattle.dm_edge.specs.Wire.{Purpose, Told, Closed}
use Rattle.dm_request.specs.Request.{request_of}
use Rattle.dm_slice.specs.declared.plan.Part.{Part}
use Rattle.dm_reply.specs.declared.head.Head.{Head}
use Rattle.dm_reply.specs.declared.head.Kind.TheVariants as kind
use Rattle.dm_reply.specs.Content.{HasRead, KindSays, Reader}
use Rattle.dm_reply.proofs.Said.{part_key}
use Rattle.dm_ask.specs.Asked.{IsReached}
use Rattle.dm_ask.specs.Causes.{is_ask_cause}
use Rattle.dm_ask.specs.Following.{IsAnswered}
use Rattle.dm_ask.specs.Redirects.{Led, purpose_of}
use Rattle.dm_store.specs.declared.pass.Pass.{Pass}
use Rattle.dm_answers.specs.Broke.{IsMet}
use Rattle.dm_attempt.specs.declared.source.Source.{Source}
use Rattle.std.specs.Prelude.{slice_get}
use Rattle.dm_edge.specs.Fair.{first_of}
use Rattle.dm_attempt.specs.Asking.{Asking, range_of}
use Rattle.dm_attempt.specs.Ends.{empty_share}
use Rattle.dm_attempt.specs.Shares.{Share}
use Rattle.dm_rounds.specs.declared.lane.Lane.{Lane}
use Rattle.dm_rounds.specs.Lanes.{read}
use Rattle.dm_rounds.specs.Parts.{AsksOf, IsHeardLane, IsNewLane}
use Rattle.dm_rounds.specs.Reading.{IsTurn}

pub none_led : (wanted : Wanted) (source : Source) (part : Part) (led : List Closed) → (range_of source part ≡ Whole) ⊎ (led ≡ []) → led ≡ []
none_led wanted source part led (inl whole) = absurd (let e = whole in cc)
none_led wanted source part led (inr none) = none

module _ {W : Type 0} (made_for : W → Purpose) (told : W → Told) (counts : W → WireFault → ℕ) (source : Source) (pass : Pass) (part : Part) (wire : W) (reader : Reader) (head : Head) (at : Address) (before after : List Closed)
    (reached : IsReached (range_of source part) (purpose_of pass.id pass.attempt) source.address before after (record { purpose = made_for wire; told = told wire; counts = counts wire }) reader head at) where
  none : reached.led ≡ []
  none = none_led (range_of source part) source part reached.led reached.direct

  -- nothing led on
  same_place : at ≡ source.address
  same_place = subst (λ (led : List Closed). Led (purpose_of pass.id pass.attempt) source.address led at) none reached.leads

  pub none_closed : after ≡ before
  none_closed = reached.closed ∙ ap (λ (led : List Closed). before ++ led) none ∙ append-nil before

-- the lane of a connection that was answered at the source's address
pub heard_lane : {W : Type 0} (made_for : W → Purpose) (told : W → Told) (source : Source) (pass : Pass) (part : Part) (wire : W) (reader : Reader) (head : Head) (at : Address) → at ≡ source.address
    → IsAnswered (range_of source part) (purpose_of pass.id pass.attempt at) (request_of at (ask_of (range_of source part))) (made_for wire) (told wire) reader head
    → reader.wanted ≡ range_of source part → head.kind ≡ kind.Content → IsHeardLane made_for told source pass part (record { wire = wire; reader = reader; part = part; at = part.first; bounded = true })
heard_lane made_for told source pass part wire reader head at same answered wanted content =
    let says = answered.says in
    let given : HasRead (range_of source part) says.head (told wire).given reader [] = subst (KindSays (range_of source part) (told wire) reader says.head) content says.kind_is in
    let strong : head.strong ≡ Some source.tag = part_key part.first (part.end - 1) source.tag source.total (told wire) reader head says content in
    record {
      purpose_is = answered.purpose_is ∙ ap (purpose_of pass.id pass.attempt) same;
      sent_is = answered.sent ∙ ap (λ (a : Address). request_of a (ask_of (range_of source part))) same;
      given = record {
        head = says.head;
        has = subst (λ (w : Wanted). HasRead w says.head (told wire).given reader []) (sym wanted) given;
        tag = head.strong;
        tag_is = says.fields_say.strong_is;
        key_is = ap (key_of (made_for wire)) (sym strong);
      };
    }

pub ask_met : (cause : Cause) → IsTrue (is_ask_cause cause) → IsMet cause
ask_met cause is = record {
  cancel = λ e. false≢true (ap is_ask_cause (sym e) ∙ is);
  shutdown = λ e. false≢true (ap is_ask_cause (sym e) ∙ is);
  crash = λ e. false≢true (ap is_ask_cause (sym e) ∙ is);
}

-- A lane that asked for its part may be read on.
pub new_turn : {W O : Type 0} (tells : Type 0) (made_for : W → Purpose) (told : W → Told) (origin : W → O) (there : O) (asking : Asking) (source : Source) (pass : Pass) (part : Part) (shares : List Share) (lane : Lane W)
    → AsksOf asking source pass part → slice_get shares part.index ≡ Some (empty_share part) → part.first < part.end → IsNewLane source part lane → (tells → IsHeardLane made_for told source pass part lane) → origin lane.wire ≡ there
    → IsTurn tells made_for told origin there asking shares lane
new_turn tells made_for told origin there asking source pass part shares lane asks empty some new heard same =
    let first : lane.part.first ≡ part.first = ap (λ (p : Part). p.first) new.part_is in
    let end : lane.part.end ≡ part.end = ap (λ (p : Part). p.end) new.part_is in
    let place = new.at_is in
    record {
      ready = record {
        left = record {
          share = empty_share part;
          share_is = ap (λ (p : Part). slice_get shares p.index) new.part_is ∙ empty;
          part_is = sym new.part_is;
          brought = λ t. let given = (heard t).given in read (told lane.wire).given (told lane.wire).left [] lane.reader given.head refl given.has;
        };
        at = omega (arith, first, place);
        within = omega (arith, end, place, some);
        on = inl (omega (arith, end, place, some));
        open_end = λ unbounded. absurd (false≢true (sym unbounded ∙ new.bounded_is));
        given = new.given;
        unbroken = new.unbroken;
        whole = λ bounded wanted. absurd (let e = sym new.wanted_is ∙ wanted in cc);
        reads = λ t. let given = (heard t).given in record { head = given.head; has = given.has; tag = given.tag; tag_is = given.tag_is; key_is = asks.key_is ∙ given.key_is };
      };
      asks = record {
        asked = record {
          wanted_is = inr (subst (λ (p : Part). (asking.served ≡ false) ⊎ (p.index ≢ 0)) (sym new.part_is) asks.own, record { of = source; source_is = asks.source_is; asked_is = new.wanted_is ∙ ap (range_of source) (sym new.part_is) });
          first_is = ap first_of new.wanted_is ∙ sym first;
          purpose_is = λ t. (heard t).purpose_is ∙ sym asks.purpose_is;
          sent_is = λ t. (heard t).sent_is ∙ ap (λ (w : Wanted). request_of source.address (ask_of w)) (sym new.wanted_is)
              ∙ ap (λ (p : Purpose). request_of p.address (ask_of lane.reader.wanted)) (sym (heard t).purpose_is);
          replied = λ t whole. absurd (let e = sym new.wanted_is ∙ whole in cc);
        };
        bounded_is = new.bounded_is ∙ sym asks.known_is;
      };
      origin_is = same;
    }
