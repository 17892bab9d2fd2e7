-- What is handed out.
use Rattle.std.specs.Prelude.{IsTrue, ◌⊎◌, ◌≢◌, IfErr, IfOk}
use Rattle.std.proofs.Common.{◌≡◌, ℕ, ◌≤◌, List, [], ◌++◌, length, Result, Ok, Err, inl, inr, refl, sym, ◌∙◌, ap, subst, arith}
use Rattle.std.proofs.lemmas.List.{append-nil}
use Rattle.dm_types.specs.declared.address.Address.{Address}
use Rattle.dm_types.specs.declared.item.Key.{Key}
use Rattle.dm_policy.specs.declared.cause.Cause.{Cause}
use Rattle.dm_policy.specs.declared.cause.Cause.TheVariants as cause
use Rattle.dm_edge.specs.declared.fault.NetFault.{NetFault}
use Rattle.dm_edge.specs.declared.fault.WireFault.{WireFault}
use Rattle.dm_edge.specs.declared.wanted.Wanted.{Wanted}
use Rattle.dm_edge.specs.declared.wanted.Wanted.TheVariants.{Whole, Part}
use Rattle.dm_edge.specs.Fair.{ask_of}
use Rattle.dm_edge.specs.Wire.{Purpose, Told, Seen, Closed}
use Rattle.dm_request.specs.Fault.{IsRead}
use Rattle.dm_request.specs.Request.{request_of}
use Rattle.dm_reply.specs.declared.head.Head.{Head}
use Rattle.dm_reply.specs.declared.head.Kind.{Kind}
use Rattle.dm_reply.specs.Content.{Reader, IsFramedAs}
use Rattle.dm_ask.specs.declared.asked.Asked.{Asked}
use Rattle.dm_ask.specs.declared.following.Reached.{Reached}
use Rattle.dm_ask.specs.Asked.{IsReady, IsReached, IfContent, IfStopped, IfBroke, asked_of}
use Rattle.dm_ask.specs.Causes.{IsAskCause}
use Rattle.dm_ask.specs.Following.{IsContent, IsAnswered, IsLed, IsStopped, IsPart, IsCause, LeadsFor}
use Rattle.dm_ask.specs.declared.asking.NoContent.{NoContent}
use Rattle.dm_ask.specs.declared.asking.NoContent.TheVariants.{Redirect, Broke}
use Rattle.dm_ask.specs.Redirects.{most_redirects}

-- a connection that was answered is ready
pub is_ready : (wanted : Wanted) (made_for : Address → Purpose) (first address : Address) (reader : Reader) (head : Head) (key : Key)
    → IsContent wanted made_for reader head key → (IsRead first.text first → IsRead address.text address) → IsReady wanted made_for first reader head address key
is_ready wanted made_for first address reader head key is reads = record {
  kind_is = is.kind_is;
  wanted_is = is.heard.wanted_is;
  plain = is.heard.plain;
  framed = subst (IsFramedAs wanted head reader) is.kind_is is.heard.framed;
  unread = is.heard.unread;
  unbroken = is.heard.unbroken;
  key_is = is.key_is address;
  reads = reads;
}

-- and reached, where so many connections led to it
pub is_reached : (wanted : Wanted) (made_for : Address → Purpose) (first address : Address) (request : List ℕ) (before now after : List Closed) (followed : ℕ) (seen : Seen)
    (reader : Reader) (head : Head) → (led : IsLed made_for first before now address followed) → followed ≤ most_redirects → (wanted ≡ Whole) ⊎ (led.led ≡ [])
    → request ≡ request_of address (ask_of wanted) → after ≡ now → IsAnswered wanted (made_for address) request seen.purpose seen.told reader head
    → IsReached wanted made_for first before after seen reader head address
is_reached wanted made_for first address request before now after followed seen reader head led within direct is_request same is = record {
  led = led.led;
  few = omega (arith, led.count, within);
  leads = led.leads;
  closed = same ∙ led.closed;
  direct = direct;
  purpose_is = is.purpose_is;
  sent = is.sent ∙ is_request;
  says = is.says;
}

-- memory was wanting before any connection
pub nothing_asked : (wanted : Wanted) (made_for : Address → Purpose) (first : Address) (net_before net_after : NetFault → ℕ) (closed : List Closed)
    → IsStopped wanted made_for first net_before net_after closed closed cause.Memory
nothing_asked wanted made_for first net_before net_after closed =
    record { led = []; few = omega arith; at = first; leads = refl; direct = inr refl; ended = inl (sym (append-nil closed), inl refl) }

pub memory_shown : (before after : NetFault → ℕ) → IsAskCause before after cause.Memory
memory_shown before after = record { own = refl; counted = tt }

-- where a part is wanted, no content is by a cause
pub is_cause : (wanted : Wanted) (none : NoContent) → IsPart wanted → LeadsFor wanted none → IsCause none
is_cause Whole none part leads = absurd part
is_cause (Part first last tag total) (Redirect location) part leads = leads
is_cause (Part first last tag total) (Broke broke) part leads = tt

-- ---- the answer

pub of_content : {W : Type 0} (found : Result (Reached W) Cause) (answer : Asked W) (P : W → Reader → Head → Address → Key → Type 0) → answer ≡ asked_of found
    → IfOk found (λ f. P f.wire f.reader f.head f.address f.key) → IfContent answer P
of_content {W} found answer P is says = subst (λ (a : Asked W). IfContent a P) (sym is) (of_found found says)
  where
    of_found : (found : Result (Reached W) Cause) → IfOk found (λ f. P f.wire f.reader f.head f.address f.key) → IfContent (asked_of found) P
    of_found (Ok found) says = says
    of_found (Err cause.Memory) says = tt
    of_found (Err broke) says = tt

pub of_stopped : {W : Type 0} (found : Result (Reached W) Cause) (answer : Asked W) (P : Cause → Type 0) → answer ≡ asked_of found → IfErr found P → IfStopped answer P
of_stopped {W} found answer P is says = subst (λ (a : Asked W). IfStopped a P) (sym is) (of_found found says)
  where
    of_found : (found : Result (Reached W) Cause) → IfErr found P → IfStopped (asked_of found) P
    of_found (Ok found) says = tt
    of_found (Err cause.Memory) says = says
    of_found (Err broke) says = says

pub of_broke : {W : Type 0} (found : Result (Reached W) Cause) (answer : Asked W) → answer ≡ asked_of found → IfBroke answer (λ broke. broke ≢ cause.Memory)
of_broke {W} found answer is = subst (λ (a : Asked W). IfBroke a (λ broke. broke ≢ cause.Memory)) (sym is) (of_found found)
  where
    of_found : (found : Result (Reached W) Cause) → IfBroke (asked_of found) (λ broke. broke ≢ cause.Memory)
    of_found (Ok found) = tt
    of_found (Err cause.Memory) = tt
    of_found (Err broke) = λ is. absurd (let wrong = is in cc)

-- what was reached is what was answered, at its address
pub of_reached : {W : Type 0} (found : Reached W) (wire : W) (reader : Reader) (head : Head) (address : Address) (key : Key)
    (P : W → Reader → Head → Address → Key → Type 0) → found ≡ record { wire = wire; reader = reader; head = head; address = address; key = key }
    → P wire reader head address key → P found.wire found.reader found.head found.address found.key
of_reached {W} found wire reader head address key P is says = subst (λ (f : Reached W). P f.wire f.reader f.head f.address f.key) (sym is) says
