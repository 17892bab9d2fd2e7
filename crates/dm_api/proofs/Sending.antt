-- What serving a connection leaves, by what went out.
use Rattle.std.proofs.Common.{◌≡◌, ◌∙◌, ◌≤◌, ◌⊎◌, inl, inr, ℕ, ◌++◌, take, Option, Some, None, Result, Ok, Err, refl, sym, ap, subst, arith, List, []}
use Rattle.std.proofs.lemmas.Option.{none-some}
use Rattle.dm_types.specs.Faults.{HasCause, NoneFell, Rose}
use Rattle.dm_types.specs.declared.memory.NoMemory.{NoMemory}
use Rattle.dm_edge.specs.Wire.{Told, stream_of}
use Rattle.dm_edge.specs.declared.fault.EdgeFault.{EdgeFault}
use Rattle.dm_edge.specs.declared.fault.EdgeFault.TheVariants.{Failed}
use Rattle.dm_call.specs.declared.request.ApiRequest.{ApiRequest}
use Rattle.dm_hear.specs.Heard.{Hears, api_kind}
use Rattle.dm_hear.specs.declared.fault.ApiFault.{ApiFault}
use Rattle.dm_hear.specs.declared.fault.ApiFault.TheVariants as faults
use Rattle.dm_hear.specs.declared.fault.Rule.TheVariants as rules
use Rattle.dm_response.specs.declared.reply.ApiReply.{ApiReply}
use Rattle.dm_api.specs.Outgoing.{Outgoes, RefusedBy, reply_of_answer}
use Rattle.dm_api.specs.Serving.{Adds, Sends, SendsOut, Serves, WasDropped}
use Rattle.dm_api.specs.declared.send.Served.{Served}
use Rattle.dm_api.specs.declared.send.Served.TheVariants as served

rose_later : (old via new : ℕ) → old ≤ via → Rose via new → Rose old new
rose_later old via new later rose = omega (arith, later, rose)

rose_sooner : (old via new : ℕ) → via ≤ new → Rose old via → Rose old new
rose_sooner old via new later rose = omega (arith, later, rose)

adds_later : (before mid after : Told) (bytes : List ℕ) → mid.sent ≡ before.sent → stream_of mid ≡ stream_of before → Adds mid after bytes → Adds before after bytes
adds_later before mid after bytes sent stream adds = record { sent = adds.sent ∙ ap (λ t. t ++ bytes) sent; stream = adds.stream ∙ stream }

module _ (tells : Type 0) (before mid after : Told) (old via new : EdgeFault → ℕ) (heard : Result ApiRequest ApiFault) (hears : tells → Hears before mid heard) (cause : HasCause api_kind old via heard) (later : NoneFell via new) where
  -- what was sent behind the reading was sent in all
  sends_all : (reply : ApiReply) (is : Served) → Sends tells mid after via new reply is → Sends tells before after old new reply is
  sends_all reply (served.Answered status stop) sends =
      (sends.0, sends.1, λ told. adds_later before mid after reply.bytes (hears told).sent (hears told).stream (sends.2 told))
  sends_all reply served.Dropped sends =
      (rose_later (old Failed) (via Failed) (new Failed) (cause.later Failed) sends.0, λ told. let written = sends.1 told in (written.0, adds_later before mid after (take written.0 reply.bytes) (hears told).sent (hears told).stream written.1))

  sends_out : (reply : Option ApiReply) (is : Served) → SendsOut tells mid after via new reply is → SendsOut tells before after old new reply is
  sends_out (Some reply) is sends = sends_all reply is sends
  sends_out None is sends = (sends.0, λ told. adds_later before mid after [] (hears told).sent (hears told).stream (sends.1 told))

  none_read : (fault : ApiFault) (reply : Option ApiReply) → heard ≡ Err fault → RefusedBy fault reply → WasDropped tells before old new reply
  none_read fault (Some reply) is refused = tt
  none_read (faults.Rule rules.Head) None is (inl same) = absurd (none-some _ same)
  none_read (faults.Rule rules.Head) None is (inr same) = absurd (none-some _ same)
  none_read (faults.Rule rules.Length) None is (inl same) = absurd (none-some _ same)
  none_read (faults.Rule rules.Length) None is (inr same) = absurd (none-some _ same)
  none_read faults.TooLarge None is (inl same) = absurd (none-some _ same)
  none_read faults.TooLarge None is (inr same) = absurd (none-some _ same)
  none_read faults.Cut None is refused = inl (λ told. (subst (λ (h : Result ApiRequest ApiFault). Hears before mid h) is (hears told)).answer)
  none_read faults.Source None is refused = inr (rose_sooner (old Failed) (via Failed) (new Failed) (later Failed) (subst (HasCause api_kind old via) is cause).cause)
  none_read faults.NoMemory None is same = absurd (none-some _ same)

module _ {V : Type 0} (answers : V → ApiRequest → ℕ → Result ApiReply NoMemory → V → Type 0) (service then : V) (tells : Type 0) (before mid after : Told) (old via new : EdgeFault → ℕ) (now : ℕ) (is : Served) where
  -- a request was read, and this was answered
  pub served_answer : (heard : Result ApiRequest ApiFault) (request : ApiRequest) (result : Result ApiReply NoMemory) → heard ≡ Ok request → (tells → Hears before mid heard) → HasCause api_kind old via heard → NoneFell via new → answers service request now result then
      → SendsOut tells mid after via new (reply_of_answer result) is → Serves tells answers service then before after old new now is
  served_answer heard request (Ok reply) heard_is hears cause later done sends = record {
    heard = heard;
    is = λ told. (hears told).answer;
    reply = Some reply;
    outgoes = subst (λ (h : Result ApiRequest ApiFault). Outgoes answers service then h now (Some reply)) (sym heard_is) (inl done);
    sends = sends_out tells before mid after old via new heard hears cause later (Some reply) is sends;
    dropped = tt;
  }
  served_answer heard request (Err wanting) heard_is hears cause later done sends = record {
    heard = heard;
    is = λ told. (hears told).answer;
    reply = reply_of_answer (Err wanting);
    outgoes = subst (λ (h : Result ApiRequest ApiFault). Outgoes answers service then h now (reply_of_answer (Err wanting))) (sym heard_is) (inr (wanting, done, refl));
    sends = sends_out tells before mid after old via new heard hears cause later (reply_of_answer (Err wanting)) is sends;
    dropped = tt;
  }

  -- no request was read
  pub served_refusal : (heard : Result ApiRequest ApiFault) (fault : ApiFault) (reply : Option ApiReply) → heard ≡ Err fault → (tells → Hears before mid heard) → HasCause api_kind old via heard → NoneFell via new → then ≡ service → RefusedBy fault reply
      → SendsOut tells mid after via new reply is → Serves tells answers service then before after old new now is
  served_refusal heard fault reply heard_is hears cause later same refused sends = record {
    heard = heard;
    is = λ told. (hears told).answer;
    reply = reply;
    outgoes = subst (λ (h : Result ApiRequest ApiFault). Outgoes answers service then h now reply) (sym heard_is) (refused, same);
    sends = sends_out tells before mid after old via new heard hears cause later reply is sends;
    dropped = none_read tells before mid after old via new heard hears cause later fault reply heard_is refused;
  }
