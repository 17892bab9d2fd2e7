-- Connections, one behind another.
use Rattle.std.proofs.Common.{◌≡◌, inl, inr, ℕ, ◌+◌, ◌-◌, ◌<◌, Bool, true, false, List, [], ◌∷◌, ◌++◌, length, map, take, Option, Some, None, Result, Ok, Err, refl, sym, ◌∙◌, ap, subst, append_assoc, length-append, arith}
use Rattle.std.specs.Prelude.{MatchResult}
use Rattle.std.proofs.lemmas.Bool.{lt-ltb}
use Rattle.std.proofs.lemmas.List.{append-nil, map-append}
use Rattle.dm_types.specs.Faults.{Rose}
use Rattle.dm_types.specs.declared.memory.NoMemory.{NoMemory}
use Rattle.dm_edge.specs.Counts.{raised_by}
use Rattle.dm_edge.specs.Wire.{IsFresh, Told, stream_of}
use Rattle.dm_edge.specs.declared.fault.EdgeFault.{EdgeFault}
use Rattle.dm_edge.specs.declared.fault.EdgeFault.TheVariants.{Failed}
use Rattle.dm_conns.specs.Conn.{Over, over_of}
use Rattle.dm_call.specs.declared.request.ApiRequest.{ApiRequest}
use Rattle.dm_hear.specs.Heard.{IsCut, IsFaultOf, IsRequest}
use Rattle.dm_hear.specs.declared.fault.ApiFault.{ApiFault}
use Rattle.dm_response.specs.declared.reply.ApiReply.{ApiReply}
use Rattle.dm_api.specs.Outgoing.{Outgoes}
use Rattle.dm_api.specs.Serving.{Adds, SendsOut, Serves, WasDropped}
use Rattle.dm_api.specs.declared.send.Served.{Served}
use Rattle.dm_api.specs.declared.send.Served.TheVariants as served
use Rattle.dm_session.specs.Looping.{ClosesSo, IsNotServed, IsServed, TurnedSo, turned_by}
use Rattle.dm_session.specs.Turning.{AllTurn, AreServed, GoOn, Turn, WentOver, handed_back, next, none, stops_behind}
use Rattle.dm_session.specs.declared.turning.Closed.TheVariants as closes
use Rattle.dm_session.specs.declared.turning.Turned.{Turned}

-- A connection that nothing had gone over.
module _ (tells : Type 0) (before after : Told) (old new : EdgeFault → ℕ) (fresh : tells → IsFresh before) (unfailed : old Failed ≡ 0) where
  abbrev over : Over
  over = over_of after new

  rose_failed : Rose (old Failed) (new Failed) → over.failed ≡ true
  rose_failed rose = lt-ltb 0 (new Failed) (omega (arith, rose, unfailed))

  -- all that was to be read
  stream_is : tells → stream_of after ≡ stream_of before → over.stream ≡ before.left
  stream_is told same = same ∙ ap (λ (given : List ℕ). given ++ before.left) (fresh told).given

  sent_is : (bytes : List ℕ) → tells → Adds before after bytes → over.sent ≡ bytes
  sent_is bytes told adds = adds.sent ∙ ap (λ (sent : List ℕ). sent ++ bytes) (fresh told).sent

  went_over : (reply : Option ApiReply) (end : Served) → SendsOut tells before after old new reply end → WasDropped tells before old new reply → WentOver tells over reply end
  went_over (Some reply) (served.Answered status stop) sends dropped = (sends.0, sends.1, λ told. sent_is reply.bytes told (sends.2 told))
  went_over (Some reply) served.Dropped sends dropped = (rose_failed sends.0, λ told. let written = sends.1 told in (written.0, sent_is (take written.0 reply.bytes) told written.1))
  went_over None end sends (inl cut) = (sends.0, λ told. sent_is [] told (sends.1 told), inl (λ told. subst IsCut (sym (stream_is told (sends.1 told).stream)) (cut told)))
  went_over None end sends (inr rose) = (sends.0, λ told. sent_is [] told (sends.1 told), inr (rose_failed rose))

  stays : (reply : Option ApiReply) (end : Served) → SendsOut tells before after old new reply end → tells → stream_of after ≡ stream_of before
  stays (Some reply) (served.Answered status stop) sends told = (sends.2 told).stream
  stays (Some reply) served.Dropped sends told = (sends.1 told).1.stream
  stays None end sends told = (sends.1 told).stream

  pub turn_served : {V : Type 0} (answers : V → ApiRequest → ℕ → Result ApiReply NoMemory → V → Type 0) (service then : V) (at : ℕ) (end : Served) → Serves tells answers service then before after old new at end
      → (overs overs' : List Over) (count count' : ℕ) → (tells → overs' ≡ overs ++ over ∷ []) → count' ≡ raised_by 1 count → IsServed tells answers service then overs overs' count count' (stops_behind end)
  turn_served answers service then at end s overs overs' count count' over_is count_is = record {
    turn = record { at = at; heard = s.heard; reply = s.reply; end = end; over = over };
    goes = record {
      is = λ told. subst (λ (stream : List ℕ). MatchResult s.heard (IsRequest stream) (IsFaultOf stream)) (sym (stream_is told (stays s.reply end s.sends told))) (s.is told);
      outgoes = s.outgoes;
      over = went_over s.reply end s.sends s.dropped;
    };
    over_is = over_is;
    count_is = count_is;
    stops_is = refl;
  }

-- The same of answers of which more is said.
module _ {V : Type 0} (answers more : V → ApiRequest → ℕ → Result ApiReply NoMemory → V → Type 0) (service then : V) (tells : Type 0) (before after : Told) (old new : EdgeFault → ℕ) (at : ℕ) (end : Served)
    (leads : (request : ApiRequest) (answer : Result ApiReply NoMemory) → answers service request at answer then → more service request at answer then) where
  outgoes_more : (heard : Result ApiRequest ApiFault) (reply : Option ApiReply) → Outgoes answers service then heard at reply → Outgoes more service then heard at reply
  outgoes_more (Ok request) None is = absurd is
  outgoes_more (Ok request) (Some reply) (inl is) = inl (leads request (Ok reply) is)
  outgoes_more (Ok request) (Some reply) (inr (wanting, is, reply_is)) = inr (wanting, leads request (Err wanting) is, reply_is)
  outgoes_more (Err fault) reply is = is

  pub serves_more : Serves tells answers service then before after old new at end → Serves tells more service then before after old new at end
  serves_more s = record { heard = s.heard; is = s.is; reply = s.reply; outgoes = outgoes_more s.heard s.reply s.outgoes; sends = s.sends; dropped = s.dropped }

-- The same where less is told.
module _ (tells fewer : Type 0) (tell : fewer → tells) (before after : Told) (old new : EdgeFault → ℕ) where
  sends_told : (reply : Option ApiReply) (end : Served) → SendsOut tells before after old new reply end → SendsOut fewer before after old new reply end
  sends_told (Some reply) (served.Answered status stop) sends = (sends.0, sends.1, λ told. sends.2 (tell told))
  sends_told (Some reply) served.Dropped sends = (sends.0, λ told. sends.1 (tell told))
  sends_told None end sends = (sends.0, λ told. sends.1 (tell told))

  dropped_told : (reply : Option ApiReply) → WasDropped tells before old new reply → WasDropped fewer before old new reply
  dropped_told (Some reply) dropped = tt
  dropped_told None (inl cut) = inl (λ told. cut (tell told))
  dropped_told None (inr rose) = inr rose

  pub serves_told : {V : Type 0} (answers : V → ApiRequest → ℕ → Result ApiReply NoMemory → V → Type 0) (service then : V) (at : ℕ) (end : Served) → Serves tells answers service then before after old new at end → Serves fewer answers service then before after old new at end
  serves_told answers service then at end s = record {
    heard = s.heard;
    is = λ told. s.is (tell told);
    reply = s.reply;
    outgoes = s.outgoes;
    sends = sends_told s.reply end s.sends;
    dropped = dropped_told s.reply s.dropped;
  }

module _ {V : Type 0} (tells : Type 0) (answers : V → ApiRequest → ℕ → Result ApiReply NoMemory → V → Type 0) where
  by_stops : (service then : V) (overs overs' : List Over) (count count' : ℕ) (accepts failed : Type 0) (stops : Bool) → IsServed tells answers service then overs overs' count count' stops → accepts
      → TurnedSo tells answers service then overs overs' count count' accepts failed (turned_by stops)
  by_stops service then overs overs' count count' accepts failed true is accepted = (is, accepted)
  by_stops service then overs overs' count count' accepts failed false is accepted = (is, accepted)

  pub turned_so : (service then : V) (overs overs' : List Over) (count count' : ℕ) (accepts failed : Type 0) (stops tested : Bool) (turned : Turned) → tested ≡ stops → turned ≡ turned_by tested → IsServed tells answers service then overs overs' count count' stops → accepts
      → TurnedSo tells answers service then overs overs' count count' accepts failed turned
  turned_so service then overs overs' count count' accepts failed stops tested turned same is served accepted =
      subst (TurnedSo tells answers service then overs overs' count count' accepts failed) (sym (is ∙ ap turned_by same)) (by_stops service then overs overs' count count' accepts failed stops served accepted)

-- there is one kind of fault
pub as_failed : (before after : EdgeFault → ℕ) (fault : EdgeFault) → Rose (before fault) (after fault) → Rose (before Failed) (after Failed)
as_failed before after Failed rose = rose

-- One more connection.

go_on_more : (turns : List Turn) (turn : Turn) → GoOn turns → stops_behind turn.end ≡ false → GoOn (turns ++ turn ∷ [])
go_on_more [] turn all one = (one, tt)
go_on_more (first ∷ more) turn all one = (all.0, go_on_more more turn all.1 one)

handed_more : (turns : List Turn) (turn : Turn) (count : ℕ) → handed_back (turns ++ turn ∷ []) count ≡ raised_by 1 (handed_back turns count)
handed_more [] turn count = refl
handed_more (first ∷ more) turn count = handed_more more turn (raised_by 1 count)

-- so far so many were served, and so many are left
pub record SoFar {V : Type 0} (tells : Type 0) (answers : V → ApiRequest → ℕ → Result ApiReply NoMemory → V → Type 0) (start present : V) (overs overs' : List Over) (count count' : ℕ) (requests left : ℕ) : Type 0 where
  pub turns : List Turn
  pub served : AreServed tells answers start present overs overs' count count' turns
  pub goes_on : GoOn turns
  pub number : length turns + left ≡ requests

pub far_start : {V : Type 0} (tells : Type 0) (answers : V → ApiRequest → ℕ → Result ApiReply NoMemory → V → Type 0) (start : V) (overs : List Over) (count requests : ℕ) → SoFar tells answers start start overs overs count count requests requests
far_start tells answers start overs count requests = record {
  turns = [];
  served = record { all = none; over_is = λ told. sym (append-nil overs); count_is = refl };
  goes_on = tt;
  number = omega arith;
}

module _ {V : Type 0} (tells : Type 0) (answers : V → ApiRequest → ℕ → Result ApiReply NoMemory → V → Type 0) (start present then : V) (overs overs' overs'' : List Over) (count count' count'' : ℕ) (requests left : ℕ)
    (far : SoFar tells answers start present overs overs' count count' requests left) where
  one_more : (stops : Bool) → (one : IsServed tells answers present then overs' overs'' count' count'' stops) → AreServed tells answers start then overs overs'' count count'' (far.turns ++ one.turn ∷ [])
  one_more stops one = record {
    all = next far.turns present then one.turn far.served.all one.goes;
    over_is = λ told.
        one.over_is told
        ∙ ap (λ (o : List Over). o ++ one.turn.over ∷ []) (far.served.over_is told)
        ∙ append_assoc overs (map (λ (turn : Turn). turn.over) far.turns) (one.turn.over ∷ [])
        ∙ ap (λ (o : List Over). overs ++ o) (sym (map-append (λ (turn : Turn). turn.over) far.turns (one.turn ∷ [])));
    count_is = one.count_is ∙ ap (raised_by 1) far.served.count_is ∙ sym (handed_more far.turns one.turn count);
  }

  pub far_next : 0 < left → IsServed tells answers present then overs' overs'' count' count'' false → SoFar tells answers start then overs overs'' count count'' requests (left - 1)
  far_next some one = record {
    turns = far.turns ++ one.turn ∷ [];
    served = one_more false one;
    goes_on = go_on_more far.turns one.turn far.goes_on one.stops_is;
    number = let longer : length (far.turns ++ one.turn ∷ []) ≡ length far.turns + 1 = length-append far.turns (one.turn ∷ []) in let number = far.number in omega (arith, longer, number, some);
  }

  pub closes_stopped : (accepts failed : Type 0) → IsServed tells answers present then overs' overs'' count' count'' true → accepts → ClosesSo tells answers start then overs overs'' count count'' accepts failed requests closes.Stopped
  closes_stopped accepts failed one accepted = record {
    turns = far.turns ++ one.turn ∷ [];
    served = one_more true one;
    ends = (record { front = far.turns; last = one.turn; are = refl; before = far.goes_on; stops = one.stops_is }, accepted);
  }

  fewer_than : 0 < left → length far.turns < requests
  fewer_than some = let number = far.number in omega (arith, number, some)

  pub closes_failed : (accepts failed here : Type 0) → (here → failed) → 0 < left → IsNotServed present then overs' overs'' count' count'' here → ClosesSo tells answers start then overs overs'' count count'' accepts failed requests closes.AcceptFailed
  closes_failed accepts failed here wider some none_came = record {
    turns = far.turns;
    served = record {
      all = subst (λ (v : V). AllTurn tells answers start far.turns v) (sym none_came.same) far.served.all;
      over_is = λ told. none_came.over_is ∙ far.served.over_is told;
      count_is = none_came.count_is ∙ far.served.count_is;
    };
    ends = (wider none_came.failed, fewer_than some, far.goes_on);
  }

all_of_them : (done left requests : ℕ) → done + left ≡ requests → (0 < left → ⊥) → done ≡ requests
all_of_them done left requests number over = omega (arith, number, over)

pub closes_full : {V : Type 0} (tells : Type 0) (answers : V → ApiRequest → ℕ → Result ApiReply NoMemory → V → Type 0) (start present : V) (overs overs' : List Over) (count count' : ℕ) (accepts failed : Type 0) (requests left : ℕ)
    → SoFar tells answers start present overs overs' count count' requests left → accepts → (0 < left → ⊥) → ClosesSo tells answers start present overs overs' count count' accepts failed requests closes.Full
closes_full tells answers start present overs overs' count count' accepts failed requests left far accepted over = record {
  turns = far.turns;
  served = far.served;
  ends = (all_of_them (length far.turns) left requests far.number over, far.goes_on, accepted);
}
