-- What a connection meets.
use Rattle.std.specs.Prelude.{IsTrue, IfSome, IfErr, ◌⊎◌, MatchResult}
use Rattle.std.proofs.Common.{◌≡◌, ℕ, ◌<◌, ◌≤◌, ◌++◌, List, [], ◌∷◌, Option, Some, None, Result, Ok, Err, inl, inr, refl, sym, ◌∙◌, ap, subst, arith}
use Rattle.dm_types.specs.Faults.{HasCause, Rose, NoneFell}
use Rattle.dm_types.specs.declared.address.Address.{Address}
use Rattle.dm_policy.specs.declared.cause.Cause.{Cause}
use Rattle.dm_policy.specs.declared.cause.Cause.TheVariants as cause
use Rattle.dm_edge.specs.declared.fault.NetFault.{NetFault}
use Rattle.dm_edge.specs.declared.fault.NetFault.TheVariants as net
use Rattle.dm_edge.specs.declared.fault.WireFault.{WireFault}
use Rattle.dm_edge.specs.declared.fault.WireFault.TheVariants as wire
use Rattle.dm_edge.specs.declared.wanted.Wanted.{Wanted}
use Rattle.dm_edge.specs.declared.wanted.Wanted.TheVariants.{Whole, Part}
use Rattle.dm_edge.specs.Begins.{HasRedirect, HeadBroke, BeginsRedirect}
use Rattle.dm_edge.specs.Causes.{wire_cause, net_cause, is_head_cause, IsNetFault, IsWireFault, CutsNet, CutsWire}
use Rattle.dm_edge.specs.Fair.{ask_of, IsOrdered}
use Rattle.dm_request.specs.declared.request.Ask.{Ask}
use Rattle.dm_edge.specs.Faults.{wire_kind, net_kind, net_count_of}
use Rattle.dm_edge.specs.Wire.{Told, stream_of}
use Rattle.dm_reply.specs.declared.head.Head.{Head}
use Rattle.dm_reply.specs.declared.head.HeadFault.{HeadFault}
use Rattle.dm_reply.specs.declared.head.HeadFault.TheVariants as fault
use Rattle.dm_reply.specs.declared.head.Kind.{Kind}
use Rattle.dm_reply.specs.declared.head.Kind.TheVariants as kind
use Rattle.dm_reply.specs.Causes.{IsHeadFault}
use Rattle.dm_reply.specs.Content.{Reader, HeadSays, HeadBreaks, PlacesSay, IsPlainHead}
use Rattle.dm_reply.specs.Faults.{cause_kind, head_kind}
use Rattle.dm_reply.proofs.HeadLemmas.{led_to}
use Rattle.dm_ask.specs.declared.asking.NoContent.{NoContent}
use Rattle.dm_ask.specs.declared.asking.NoContent.TheVariants.{Redirect, Broke}
use Rattle.dm_ask.specs.Causes.{is_talk_cause, is_ask_cause, net_kind_of, IsAskCause}
use Rattle.dm_ask.specs.Following.{head_cause, TalkBroke, ShowsOn, SentUntil, ShownOn, LeadsFor, NoneShown}

pub rose_since : (a b c : ℕ) → a ≤ b → Rose b c → Rose a c
rose_since a b c earlier rose = omega (arith, earlier, rose)

-- ---- a send that failed

pub send_cuts : (before after : WireFault → ℕ) (fault : WireFault) (broke : Cause) → broke ≡ wire_cause fault
    → IfSome (wire_kind fault) (λ kind. Rose (before kind) (after kind)) → CutsWire after broke
send_cuts before after wire.Failed broke is rose =
    inr (record { kind = wire.Failed; counted = refl; rose = rose_since 0 (before wire.Failed) (after wire.Failed) (omega arith) rose; is = is })
send_cuts before after wire.Timeout broke is rose =
    inr (record { kind = wire.Timeout; counted = refl; rose = rose_since 0 (before wire.Timeout) (after wire.Timeout) (omega arith) rose; is = is })
send_cuts before after wire.NoMemory broke is rose = inl is

pub cut_broke : (wanted : Wanted) (counts : WireFault → ℕ) (stream : List ℕ) (broke : Cause) → CutsWire counts broke → TalkBroke wanted counts stream broke
cut_broke wanted counts stream broke (inl memory) = inl memory
cut_broke wanted counts stream broke (inr failed) = inr (inl failed)

pub send_own : (fault : WireFault) → IsTrue (is_talk_cause (wire_cause fault))
send_own wire.Failed = refl
send_own wire.Timeout = refl
send_own wire.NoMemory = refl

pub send_shows : (before after : WireFault → ℕ) (fault : WireFault) → IfSome (wire_kind fault) (λ kind. Rose (before kind) (after kind)) → ShowsOn after (wire_cause fault)
send_shows before after wire.Failed rose = rose_since 0 (before wire.Failed) (after wire.Failed) (omega arith) rose
send_shows before after wire.Timeout rose = rose_since 0 (before wire.Timeout) (after wire.Timeout) (omega arith) rose
send_shows before after wire.NoMemory rose = tt

-- ---- a head that was refused

pub head_own : (refusal : HeadFault) → IsHeadFault refusal → IsTrue (is_talk_cause (head_cause refusal))
head_own fault.NoMemory own = refl
head_own (fault.Broke cause.Memory) own = refl
head_own (fault.Broke broke) own = own

pub head_shows : (before after : WireFault → ℕ) (refusal : HeadFault) → IfSome (head_kind refusal) (λ kind. Rose (before kind) (after kind))
    → ShowsOn after (head_cause refusal)
head_shows before after fault.NoMemory rose = tt
head_shows before after (fault.Broke cause.NetFailed) rose = rose_since 0 (before wire.Failed) (after wire.Failed) (omega arith) rose
head_shows before after (fault.Broke cause.NetTimeout) rose = rose_since 0 (before wire.Timeout) (after wire.Timeout) (omega arith) rose
head_shows before after (fault.Broke broke) rose = tt

-- a refused head is one of the stream, or a fault of the wire
pub head_broke : (wanted : Wanted) (before after : WireFault → ℕ) (stream : List ℕ) (refusal : HeadFault) → HeadBreaks wanted stream refusal
    → IfSome (head_kind refusal) (λ kind. Rose (before kind) (after kind)) → TalkBroke wanted after stream (head_cause refusal)
head_broke wanted before after stream fault.NoMemory met rose = inl refl
head_broke wanted before after stream (fault.Broke broke) met rose = of_met met rose
  where
    of_met : HeadBroke wanted stream broke → IfSome (cause_kind broke) (λ kind. Rose (before kind) (after kind)) → TalkBroke wanted after stream broke
    of_met (inl (inl failed)) shown =
        let rose = subst (λ (b : Cause). IfSome (cause_kind b) (λ kind. Rose (before kind) (after kind))) failed shown in
        inr (inl (record { kind = wire.Failed; counted = refl; rose = rose_since 0 (before wire.Failed) (after wire.Failed) (omega arith) rose; is = failed }))
    of_met (inl (inr late)) shown =
        let rose = subst (λ (b : Cause). IfSome (cause_kind b) (λ kind. Rose (before kind) (after kind))) late shown in
        inr (inl (record { kind = wire.Timeout; counted = refl; rose = rose_since 0 (before wire.Timeout) (after wire.Timeout) (omega arith) rose; is = late }))
    of_met (inr met) shown = inr (inr met)

-- ---- a redirect

-- the stream leads to the Location that the head has
pub has_redirect : (wanted : Wanted) (now : Told) (reader : Reader) (told : Head) (location : List ℕ) → HeadSays wanted now reader told
    → told.kind ≡ kind.Redirect location → HasRedirect wanted (stream_of now) location
has_redirect wanted now reader told location says is = record { head = says.head; begins = led_to wanted now reader told location says is }

-- where a part is wanted no head has one
pub none_leads : (wanted : Wanted) (told : Head) (location : List ℕ) → IsPlainHead wanted told → told.kind ≡ kind.Redirect location → LeadsFor wanted (Redirect location)
none_leads Whole told location plain is = tt
none_leads (Part first last tag total) told location plain is = subst (PlacesSay (Part first last tag total) told) is plain.places

pub broke_leads : (wanted : Wanted) (broke : Cause) → LeadsFor wanted (Broke broke)
broke_leads Whole broke = tt
broke_leads (Part first last tag total) broke = tt

-- ---- a wire that was taken back

-- a failed wire shows in the counts of the net that took it back
pub net_failed : (counts : WireFault → ℕ) (before after : NetFault → ℕ) (broke : Cause)
    → ((kind : WireFault) → 0 < counts kind → Rose (before (net_count_of kind)) (after (net_count_of kind))) → IsWireFault counts broke → IsNetFault before after broke
net_failed counts before after broke counted failed = by_kind failed.kind failed.counted failed.rose failed.is where
  by_kind : (kind : WireFault) → wire_kind kind ≡ Some kind → Rose 0 (counts kind) → broke ≡ wire_cause kind → IsNetFault before after broke
  by_kind wire.Failed kind_is rose is = record { kind = net_count_of wire.Failed; counted = refl; rose = counted wire.Failed (omega (arith, rose)); is = is }
  by_kind wire.Timeout kind_is rose is = record { kind = net_count_of wire.Timeout; counted = refl; rose = counted wire.Timeout (omega (arith, rose)); is = is }
  by_kind wire.NoMemory kind_is rose is = cc

-- what cuts off a wire cuts off its net
pub cuts_net : (counts : WireFault → ℕ) (before after : NetFault → ℕ) (broke : Cause)
    → ((kind : WireFault) → 0 < counts kind → Rose (before (net_count_of kind)) (after (net_count_of kind))) → CutsWire counts broke → CutsNet before after broke
cuts_net counts before after broke counted (inl memory) = inl memory
cuts_net counts before after broke counted (inr failed) = inr (net_failed counts before after broke counted failed)

-- what was shown on the wire is shown on the net
pub none_shown : (counts : WireFault → ℕ) (before after : NetFault → ℕ) (none : NoContent)
    → ((kind : WireFault) → 0 < counts kind → Rose (before (net_count_of kind)) (after (net_count_of kind))) → ShownOn counts none → NoneShown before after none
none_shown counts before after (Redirect location) counted shown = tt
none_shown counts before after (Broke broke) counted shown = of_cause broke shown.0 shown.1
  where
    of_cause : (broke : Cause) → IsTrue (is_talk_cause broke) → ShowsOn counts broke → IsAskCause before after broke
    of_cause cause.NetFailed own shows = record { own = refl; counted = counted wire.Failed (omega (arith, shows)) }
    of_cause cause.NetTimeout own shows = record { own = refl; counted = counted wire.Timeout (omega (arith, shows)) }
    of_cause cause.NetNoRoute own shows = absurd (let wrong = own in cc)
    of_cause cause.NetRefused own shows = absurd (let wrong = own in cc)
    of_cause cause.BadLocation own shows = absurd (let wrong = own in cc)
    of_cause cause.TooManyRedirects own shows = absurd (let wrong = own in cc)
    of_cause cause.Memory own shows = record { own = refl; counted = tt }
    of_cause broke own shows = record { own = own; counted = tt }

-- a connect that failed is shown on the net
pub connect_shown : (before after : NetFault → ℕ) (failed : NetFault) → IfSome (net_kind failed) (λ kind. Rose (before kind) (after kind))
    → IsAskCause before after (net_cause failed)
connect_shown before after net.NoRoute rose = record { own = refl; counted = rose }
connect_shown before after net.Refused rose = record { own = refl; counted = rose }
connect_shown before after net.Timeout rose = record { own = refl; counted = rose }
connect_shown before after net.Failed rose = record { own = refl; counted = rose }
connect_shown before after net.NoMemory rose = record { own = refl; counted = tt }

-- and cuts it off
pub connect_cuts : (before after : NetFault → ℕ) (failed : NetFault) → IfSome (net_kind failed) (λ kind. Rose (before kind) (after kind))
    → CutsNet before after (net_cause failed)
connect_cuts before after net.NoRoute rose = inr (record { kind = net.NoRoute; counted = refl; rose = rose; is = refl })
connect_cuts before after net.Refused rose = inr (record { kind = net.Refused; counted = refl; rose = rose; is = refl })
connect_cuts before after net.Timeout rose = inr (record { kind = net.Timeout; counted = refl; rose = rose; is = refl })
connect_cuts before after net.Failed rose = inr (record { kind = net.Failed; counted = refl; rose = rose; is = refl })
connect_cuts before after net.NoMemory rose = inl refl

-- ---- since an earlier moment

pub shown_since : (before first after : NetFault → ℕ) (broke : Cause) → NoneFell before first → IsAskCause first after broke → IsAskCause before after broke
shown_since before first after broke later shown = record { own = shown.own; counted = of_kind (net_kind_of broke) shown.counted }
  where
    of_kind : (found : Option NetFault) → IfSome found (λ kind. Rose (first kind) (after kind)) → IfSome found (λ kind. Rose (before kind) (after kind))
    of_kind None rose = tt
    of_kind (Some kind) rose = rose_since _ _ _ (later kind) rose

pub none_shown_since : (before first after : NetFault → ℕ) (none : NoContent) → NoneFell before first → NoneShown first after none → NoneShown before after none
none_shown_since before first after (Redirect location) later shown = tt
none_shown_since before first after (Broke broke) later shown = shown_since before first after broke later shown

-- ---- the request

-- the range of a wanted part that has a byte has one
pub ordered_ask : (wanted : Wanted) (range : Ask) → IsOrdered wanted → ask_of wanted ≡ Some range → range.first ≤ range.last
ordered_ask Whole range order is = absurd (let wrong = is in cc)
ordered_ask (Part first last tag total) range order is =
    let e = some_is (record { first = first; last = last; tag = tag }) range is in
    omega (arith, order, ap (λ (r : Ask). r.first) e, ap (λ (r : Ask). r.last) e)
  where
    some_is : (a b : Ask) → ◌≡◌ {A = Option Ask} (Some a) (Some b) → a ≡ b
    some_is a b e = cc
