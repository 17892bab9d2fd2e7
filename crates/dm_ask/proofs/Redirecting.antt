-- From one connection to the next, and where the redirects end.
use Rattle.std.specs.Prelude.{IsTrue, ◌⊎◌, IfErr, IfOk, MatchResult}
use Rattle.std.proofs.lemmas.List.{append-nil}
use Rattle.std.proofs.Common.{◌≡◌, ℕ, ◌<◌, ◌≤◌, ◌+◌, List, [], ◌∷◌, ◌++◌, length, None, Result, Ok, Err, inl, inr, refl, sym, ◌∙◌, ap, subst, arith, length-append, append_assoc}
use Rattle.dm_types.specs.Faults.{NoneFell}
use Rattle.dm_types.specs.declared.address.Address.{Address}
use Rattle.dm_types.specs.declared.item.Key.{Key}
use Rattle.dm_policy.specs.declared.cause.Cause.{Cause}
use Rattle.dm_policy.specs.declared.cause.Cause.TheVariants as cause
use Rattle.dm_edge.specs.declared.fault.NetFault.{NetFault}
use Rattle.dm_edge.specs.declared.fault.WireFault.{WireFault}
use Rattle.dm_edge.specs.declared.wanted.Wanted.{Wanted}
use Rattle.dm_edge.specs.declared.wanted.Wanted.TheVariants.{Whole, Part}
use Rattle.dm_edge.specs.Begins.{HasRedirect}
use Rattle.dm_edge.specs.Causes.{IsNetFault, CutsNet, CutsWire}
use Rattle.dm_edge.specs.Fair.{ask_of}
use Rattle.dm_edge.specs.Faults.{net_count_of}
use Rattle.dm_edge.specs.Wire.{Purpose, Told, Closed, closed_of, stream_of}
use Rattle.dm_types.specs.Faults.{Rose}
use Rattle.dm_request.specs.Request.{request_of}
use Rattle.dm_ask.specs.declared.asking.NoContent.{NoContent}
use Rattle.dm_ask.specs.declared.asking.NoContent.TheVariants.{Redirect, Broke}
use Rattle.dm_ask.specs.Redirects.{most_redirects, LedOn, Led}
use Rattle.dm_ask.specs.Causes.{MeetsHead, ninth, refused, nowhere, too_many, IsAskCause}
use Rattle.dm_ask.specs.Following.{IsOfHead, TalkBroke, SentUntil, SentBefore, MeetsNone, IsRedirected, IsBrokenOff, IsUnreached, NoneSays, NoneShown, IsCause, GoesTo, StopsBy, IsLed, IsStopped}
use Rattle.dm_ask.proofs.Talking.{rose_since, net_failed, cuts_net}

-- what an error says may be said otherwise
pub err_by : {T E : Type 0} (P Q : E → Type 0) (result : Result T E) → ((fault : E) → P fault → Q fault) → IfErr result P → IfErr result Q
err_by P Q (Ok value) by says = tt
err_by P Q (Err fault) by says = by fault says

-- what cuts off may be shown otherwise
pub until_by : (Cuts Others : Cause → Type 0) (request sent : List ℕ) (broke : Cause) → (Cuts broke → Others broke) → SentUntil Cuts request sent broke → SentUntil Others request sent broke
until_by Cuts Others request sent broke by (inl whole) = inl whole
until_by Cuts Others request sent broke by (inr cut) = inr (by cut.0, cut.1)

-- whatever ended it, memory was wanting afterwards
until_memory : (Cuts : Cause → Type 0) (before after : NetFault → ℕ) (request sent : List ℕ) (met broke : Cause) → broke ≡ cause.Memory → SentUntil Cuts request sent met → SentUntil (CutsNet before after) request sent broke
until_memory Cuts before after request sent met broke memory (inl whole) = inl whole
until_memory Cuts before after request sent met broke memory (inr cut) = inr (inl memory, cut.1)

-- ---- one connection

module _ (counts : WireFault → ℕ) (before after : NetFault → ℕ)
    (counted : (kind : WireFault) → 0 < counts kind → Rose (before (net_count_of kind)) (after (net_count_of kind))) where
  talk_met : (wanted : Wanted) (stream : List ℕ) (broke : Cause) → TalkBroke wanted counts stream broke
      → (broke ≡ cause.Memory) ⊎ (IsNetFault before after broke ⊎ IsOfHead wanted stream broke)
  talk_met wanted stream broke (inl memory) = inl memory
  talk_met wanted stream broke (inr (inl failed)) = inr (inl (net_failed counts before after broke counted failed))
  talk_met wanted stream broke (inr (inr met)) = inr (inr met)

  -- what no content on a wire says, where the net took it back
  pub closed_says : (wanted : Wanted) (made_for purpose : Purpose) (told : Told) (request : List ℕ) (was now : List Closed) (none : NoContent)
      → purpose ≡ made_for → now ≡ was ++ closed_of purpose told ∷ [] → MeetsNone wanted counts (stream_of told) none → SentBefore counts request told.sent none
      → NoneSays wanted made_for request before after was now none
  closed_says wanted made_for purpose told request was now (Redirect location) is closed meets sent =
      record { connection = closed_of purpose told; last = closed; purpose_is = is; sent = sent; redirects = meets }
  closed_says wanted made_for purpose told request was now (Broke broke) is closed meets sent = inr (record {
    connection = closed_of purpose told;
    last = closed;
    purpose_is = is;
    sent = until_by (CutsWire counts) (CutsNet before after) request told.sent broke (cuts_net counts before after broke counted) sent;
    met = talk_met wanted (stream_of told) broke meets;
  })

module _ (before first after : NetFault → ℕ) (later : NoneFell before first) where
  -- a count that rose since a later moment
  fault_since : (broke : Cause) → IsNetFault first after broke → IsNetFault before after broke
  fault_since broke fault = record { kind = fault.kind; counted = fault.counted; rose = rose_since _ _ _ (later fault.kind) fault.rose; is = fault.is }

  cuts_since : (broke : Cause) → CutsNet first after broke → CutsNet before after broke
  cuts_since broke (inl memory) = inl memory
  cuts_since broke (inr fault) = inr (fault_since broke fault)

  -- what one connection says, since an earlier moment
  pub none_since : (wanted : Wanted) (made_for : Purpose) (request : List ℕ) (closed_before closed_after : List Closed) (none : NoContent)
      → NoneSays wanted made_for request first after closed_before closed_after none → NoneSays wanted made_for request before after closed_before closed_after none
  none_since wanted made_for request closed_before closed_after (Redirect location) says = says
  none_since wanted made_for request closed_before closed_after (Broke broke) (inl unreached) = inl (unreached.0, cuts_since broke unreached.1)
  none_since wanted made_for request closed_before closed_after (Broke broke) (inr says) = inr (record {
    connection = says.connection;
    last = says.last;
    purpose_is = says.purpose_is;
    sent = until_by (CutsNet first after) (CutsNet before after) request says.connection.sent broke (cuts_since broke) says.sent;
    met = elim says.met [
      | inl memory ↦ inl memory
      | inr (inl fault) ↦ inr (inl (fault_since broke fault))
      | inr (inr met) ↦ inr (inr met)
    ];
  })

-- ---- several

led_snoc : (made_for : Address → Purpose) (from : Address) (led : List Closed) (at next : Address) (connection : Closed) → Led made_for from led at
    → LedOn made_for at next connection → Led made_for from (led ++ connection ∷ []) next
led_snoc made_for from [] at next connection leads on = (next, subst (λ (a : Address). LedOn made_for a next connection) leads on, refl)
led_snoc made_for from (first ∷ later) at next connection leads on = (leads.0, leads.1, led_snoc made_for leads.0 later at next connection leads.2 on)

-- nothing led on yet
abbrev pub led_none : (made_for : Address → Purpose) (first : Address) (now : List Closed) → IsLed made_for first now now first 0
led_none made_for first now = record { led = []; closed = sym (append-nil now); count = refl; leads = refl }

module _ (wanted : Wanted) (made_for : Address → Purpose) (first at : Address) (request : List ℕ) (before now new : List Closed) (followed : ℕ)
    (is_request : request ≡ request_of at (ask_of wanted)) (led : IsLed made_for first before now at followed) (net_before net_after : NetFault → ℕ) where
  behind : (connection : Closed) → new ≡ now ++ connection ∷ [] → new ≡ (before ++ led.led) ++ connection ∷ []
  behind connection last = last ∙ ap (λ (c : List Closed). c ++ connection ∷ []) led.closed

  -- one more connection led on
  pub led_more : (next : Address) (none : NoContent) → wanted ≡ Whole → NoneSays wanted (made_for at) request net_before net_after now new none → GoesTo at none next
      → IsLed made_for first before new next (followed + 1)
  led_more next (Redirect location) whole says goes = record {
    led = led.led ++ says.connection ∷ [];
    closed = behind says.connection says.last ∙ append_assoc before led.led (says.connection ∷ []);
    count = omega (arith, led.count, length-append led.led (says.connection ∷ []));
    leads = led_snoc made_for first led.led at next says.connection led.leads (record {
      purpose_is = says.purpose_is;
      sent = says.sent ∙ is_request ∙ ap (λ (w : Wanted). request_of at (ask_of w)) whole;
      location = location;
      redirects = subst (λ (w : Wanted). HasRedirect w says.connection.stream location) whole says.redirects;
      next = goes;
    });
  }
  led_more next (Broke broke) whole says goes = absurd goes

  of_head : (stream : List ℕ) (broke : Cause) → IsOfHead wanted stream broke → MeetsHead wanted at (length led.led) stream broke
  of_head stream broke (inl met) = ninth met
  of_head stream broke (inr met) = refused met

  stopped_by : (location : List ℕ) (broke : Cause) → IsRedirected wanted (made_for at) request now new location → StopsBy at followed (Redirect location) broke
      → IsBrokenOff (made_for at) (request_of at (ask_of wanted)) net_before net_after (MeetsHead wanted at (length led.led)) (before ++ led.led) new broke
  stopped_by location broke says stops = record {
    connection = says.connection;
    last = behind says.connection says.last;
    purpose_is = says.purpose_is;
    sent = inl (says.sent ∙ is_request);
    met = elim stops [
      | inl memory ↦ inl memory
      | inr (inl bad) ↦ inr (inr (nowhere location bad.0 says.redirects bad.1))
      | inr (inr many) ↦ inr (inr (too_many location many.0 says.redirects (led.count ∙ many.1)))
    ];
  }

  broke_same : (broke : Cause) → NoneSays wanted (made_for at) request net_before net_after now new (Broke broke)
      → IsUnreached net_before net_after (before ++ led.led) new broke
      ⊎ IsBrokenOff (made_for at) (request_of at (ask_of wanted)) net_before net_after (MeetsHead wanted at (length led.led)) (before ++ led.led) new broke
  broke_same broke (inl none) = inl (none.0 ∙ led.closed, none.1)
  broke_same broke (inr off) = inr (record {
    connection = off.connection;
    last = behind off.connection off.last;
    purpose_is = off.purpose_is;
    sent = subst (λ (r : List ℕ). SentUntil (CutsNet net_before net_after) r off.connection.sent broke) is_request off.sent;
    met = elim off.met [
      | inl memory ↦ inl memory
      | inr (inl fault) ↦ inr (inl fault)
      | inr (inr met) ↦ inr (inr (of_head off.connection.stream broke met))
    ];
  })

  -- whatever it met, memory was wanting afterwards
  broke_memory : (met broke : Cause) → broke ≡ cause.Memory → NoneSays wanted (made_for at) request net_before net_after now new (Broke met)
      → IsUnreached net_before net_after (before ++ led.led) new broke
      ⊎ IsBrokenOff (made_for at) (request_of at (ask_of wanted)) net_before net_after (MeetsHead wanted at (length led.led)) (before ++ led.led) new broke
  broke_memory met broke memory (inl none) = inl (none.0 ∙ led.closed, inl memory)
  broke_memory met broke memory (inr off) = inr (record {
    connection = off.connection;
    last = behind off.connection off.last;
    purpose_is = off.purpose_is;
    sent = subst (λ (r : List ℕ). SentUntil (CutsNet net_before net_after) r off.connection.sent broke) is_request
        (until_memory (CutsNet net_before net_after) net_before net_after request off.connection.sent met broke memory off.sent);
    met = inl memory;
  })

  -- no further connection is made
  pub stop_at : (none : NoContent) (broke : Cause) → followed ≤ most_redirects → (wanted ≡ Whole) ⊎ (led.led ≡ [])
      → NoneSays wanted (made_for at) request net_before net_after now new none → ((broke ≡ cause.Memory) ⊎ StopsBy at followed none broke)
      → IsStopped wanted made_for first net_before net_after before new broke
  stop_at (Redirect location) broke within direct says stops = record {
    led = led.led;
    few = omega (arith, led.count, within);
    at = at;
    leads = led.leads;
    direct = direct;
    ended = inr (stopped_by location broke says (elim stops [ inl memory ↦ inl memory | inr by ↦ by ]));
  }
  stop_at (Broke met) broke within direct says (inl memory) = record {
    led = led.led;
    few = omega (arith, led.count, within);
    at = at;
    leads = led.leads;
    direct = direct;
    ended = broke_memory met broke memory says;
  }
  stop_at (Broke met) broke within direct says (inr same) = record {
    led = led.led;
    few = omega (arith, led.count, within);
    at = at;
    leads = led.leads;
    direct = direct;
    ended = broke_same broke (subst (λ (b : Cause). NoneSays wanted (made_for at) request net_before net_after now new (Broke b)) (sym same) says);
  }

-- a cause that ends the asking is one of it
pub stop_shown : (before after : NetFault → ℕ) (at : Address) (followed : ℕ) (none : NoContent) (broke : Cause) → NoneShown before after none
    → ((broke ≡ cause.Memory) ⊎ StopsBy at followed none broke) → IsAskCause before after broke
stop_shown before after at followed none broke shown (inl memory) = subst (IsAskCause before after) (sym memory) (record { own = refl; counted = tt })
stop_shown before after at followed (Redirect location) broke shown (inr (inl memory)) = subst (IsAskCause before after) (sym memory) (record { own = refl; counted = tt })
stop_shown before after at followed (Redirect location) broke shown (inr (inr (inl bad))) = subst (IsAskCause before after) (sym bad.0) (record { own = refl; counted = tt })
stop_shown before after at followed (Redirect location) broke shown (inr (inr (inr many))) = subst (IsAskCause before after) (sym many.0) (record { own = refl; counted = tt })
stop_shown before after at followed (Broke met) broke shown (inr same) = subst (IsAskCause before after) (sym same) shown
