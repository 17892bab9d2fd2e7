-- The head of the first reply, as a stream has it.
use Rattle.std.proofs.Common.{◌≡◌, ℕ, List, [], ◌∷◌, ◌++◌, Option, Some, None, refl, sym, ◌∙◌, ap, subst, arith}
use Rattle.std.specs.List.{Contains}
use Rattle.std.proofs.lemmas.List.Elements.{Contains-append_left, Contains-append_right}
use Rattle.dm_types.specs.declared.address.Address.{Address}
use Rattle.dm_edge.specs.declared.wanted.Wanted.TheVariants.{Whole}
use Rattle.dm_edge.specs.Wire.{Closed, Purpose, Told, closed_of}
use Rattle.dm_request.specs.Request.{request_of}
use Rattle.dm_ask.specs.Redirects.{purpose_of}
use Rattle.dm_store.specs.declared.pass.Pass.{Pass}
use Rattle.dm_reply.specs.declared.head.Head.{Head}
use Rattle.dm_reply.specs.declared.head.Kind.TheVariants as kind
use Rattle.dm_reply.specs.Content.{HasRead, HeadSays, KindSays, Reader, counted_of, framing_of}
use Rattle.dm_reply.specs.Reads.{GoesOn}
use Rattle.dm_reply.proofs.StreamLemmas.{content_more}
use Rattle.dm_attempt.specs.Heads.{SaysHead, SaysReply}
use Rattle.dm_attempt.specs.Replied.{HasReplied}
use Rattle.dm_attempt.specs.Trace.{Tale, Trace, wires_of}
use Rattle.dm_rounds.specs.declared.first.Reply.{Reply}
use Rattle.dm_rounds.specs.First.{IsHeard, IsReplied, first_asking}
use Rattle.dm_rounds.specs.Trail.{HasFirst}

-- whatever comes behind it
pub says_more : (told : Head) (given more : List ℕ) → SaysHead given told → SaysHead (given ++ more) told
says_more told given more says = record {
  head = says.head;
  framing = says.framing;
  rest = says.rest ++ more;
  begins = content_more says.begins more;
  total_is = says.total_is;
  fields_say = says.fields_say;
}

pub reply_more : (reply : Option Head) (given more : List ℕ) → SaysReply reply given → SaysReply reply (given ++ more)
reply_more None given more says = absurd says
reply_more (Some told) given more says = says_more told given more says

-- what a wire gave goes on
pub reply_grown : (reply : Option Head) (before now : Told) → GoesOn before now → SaysReply reply before.given → SaysReply reply now.given
reply_grown reply before now goes says = subst (SaysReply reply) (sym goes.given) (reply_more reply before.given goes.piece says)

-- a head with content that was read is that of what the wire gave
pub says_read : (told : Told) (reader : Reader) (head : Head) → head.kind ≡ kind.Content → head.total ≡ counted_of reader.reading.body → HeadSays Whole told reader head → SaysHead told.given head
says_read told reader head content counted says =
    let has : HasRead Whole says.head told.given reader [] = subst (KindSays Whole told reader says.head) content says.kind_is in
    record {
      head = says.head;
      framing = framing_of reader.reading.body;
      rest = has.framed.bytes;
      begins = has.framed.begins;
      total_is = counted;
      fields_say = says.fields_say;
    }

-- a closed connection on which this reply came: it was made for its address, was sent the whole request, and its stream begins with the head
pub record IsOwn (pass : Pass) (address : Address) (head : Head) (c : Closed) : Type 0 where
  pub purpose_is : c.purpose ≡ purpose_of pass.id pass.attempt address
  pub sent : c.sent ≡ request_of address None
  pub says : SaysHead c.stream head

-- so is the first reply's
pub own_reply : {W : Type 0} (made_for : W → Purpose) (told : W → Told) (pass : Pass) (first : Address) (reply : Reply W) → IsReplied pass first reply → IsHeard made_for told pass reply → IsOwn pass reply.address reply.head (closed_of (made_for reply.wire) (told reply.wire))
own_reply made_for told pass first reply replied heard = record {
  purpose_is = heard.purpose_is;
  sent = heard.sent;
  says = says_more reply.head (told reply.wire).given (told reply.wire).left (says_read (told reply.wire) reply.reader reply.head replied.kind_is replied.framed.1 heard.says);
}

-- where that one belongs to no round
pub lost_replied : (pass : Pass) (address : Address) (head : Head) (c : Closed) (trace : Trace) → IsOwn pass address head c → trace.lost ≡ c ∷ [] → HasReplied (purpose_of pass.id pass.attempt address) trace head
lost_replied pass address head c trace own lost = record {
  connection = c;
  among = Contains-append_right trace.led (wires_of trace.rounds ++ trace.lost) c
      (Contains-append_right (wires_of trace.rounds) trace.lost c (subst (λ (l : List Closed). Contains l c) (sym lost) (0, omega arith, refl)));
  purpose_is = own.purpose_is;
  sent = own.sent;
  says = own.says;
}

-- where a round has it
pub first_replied : (pass : Pass) (tale : Tale) (trace : Trace) → HasFirst (first_asking pass tale) trace.rounds → HasReplied (purpose_of pass.id pass.attempt tale.address) trace tale.head
first_replied pass tale trace has = record {
  connection = has.connection;
  among = Contains-append_right trace.led (wires_of trace.rounds ++ trace.lost) has.connection (Contains-append_left (wires_of trace.rounds) trace.lost has.connection has.among);
  purpose_is = has.purpose_is;
  sent = has.sent ∙ ap (λ (p : Purpose). request_of p.address None) has.purpose_is;
  says = has.says;
}
