-- How an attempt stops by the causes of a content.
use Rattle.std.proofs.Common.{◌≢◌, ◌<◌, ◌≤◌, ℕ, List, Option, IsTrue, refl, sym, ◌∙◌, ap, arith}
use Rattle.std.specs.Prelude.{IfSome}
use Rattle.std.proofs.lemmas.Bool.{false≢true}
use Rattle.std.proofs.lemmas.Option.{IfSome_then}
use Rattle.std.specs.List.{Contains}
use Rattle.dm_types.specs.Faults.{NoneFell, Rose}
use Rattle.dm_policy.specs.declared.cause.Cause.{Cause}
use Rattle.dm_policy.specs.declared.cause.Cause.TheVariants as causes
use Rattle.dm_ask.proofs.Talking.{rose_since}
use Rattle.dm_ask.specs.Causes.{is_ask_cause, net_kind_of}
use Rattle.dm_edge.specs.declared.fault.NetFault.{NetFault}
use Rattle.dm_edge.specs.declared.fault.NetFault.TheVariants as faults
use Rattle.dm_edge.specs.declared.fault.WireFault.{WireFault}
use Rattle.dm_edge.specs.declared.fault.WireFault.TheVariants as wires
use Rattle.dm_edge.specs.Faults.{net_count_of}
use Rattle.dm_edge.specs.Causes.{is_content_cause}
use Rattle.dm_reply.specs.Faults.{cause_kind}
use Rattle.dm_answers.specs.Broke.{IsMet}
use Rattle.dm_attempt.specs.declared.stop.Stop.{Stop}
use Rattle.dm_attempt.specs.declared.stop.Stop.TheVariants as stops
use Rattle.dm_attempt.specs.Ending.{IfBroke, IsOfDesk}
use Rattle.dm_rounds.specs.declared.lane.Lane.{Lane}
use Rattle.dm_rounds.specs.Lanes.{IsOfContent, NetCounts, ShownOn, SomeShows, is_net_cause, is_reading_cause, stop_met}

-- want of memory is apart from every other cause
pub by_cause : (P : Cause → Stop → Type 0) → P causes.Memory stops.NoMemory → ((cause : Cause) → P cause (stops.Broke cause)) → (cause : Cause) → P cause (stop_met cause)
by_cause P memory other causes.Memory = memory
by_cause P memory other (causes.File kind) = other (causes.File kind)
by_cause P memory other causes.NamesTaken = other causes.NamesTaken
by_cause P memory other causes.BothStand = other causes.BothStand
by_cause P memory other (causes.TooLarge total) = other (causes.TooLarge total)
by_cause P memory other (causes.PartShort have wanted) = other (causes.PartShort have wanted)
by_cause P memory other (causes.DigestDiffers have wanted) = other (causes.DigestDiffers have wanted)
by_cause P memory other causes.NetFailed = other causes.NetFailed
by_cause P memory other causes.HeadCut = other causes.HeadCut
by_cause P memory other causes.NetTimeout = other causes.NetTimeout
by_cause P memory other causes.NetNoRoute = other causes.NetNoRoute
by_cause P memory other causes.NetRefused = other causes.NetRefused
by_cause P memory other causes.BadLocation = other causes.BadLocation
by_cause P memory other causes.TooManyRedirects = other causes.TooManyRedirects
by_cause P memory other (causes.Status status) = other (causes.Status status)
by_cause P memory other causes.BadHead = other causes.BadHead
by_cause P memory other causes.Encoded = other causes.Encoded
by_cause P memory other causes.BadFraming = other causes.BadFraming
by_cause P memory other (causes.RangeRefused status) = other (causes.RangeRefused status)
by_cause P memory other (causes.ContentShort have wanted) = other (causes.ContentShort have wanted)
by_cause P memory other causes.Cancel = other causes.Cancel
by_cause P memory other causes.Shutdown = other causes.Shutdown
by_cause P memory other causes.Crash = other causes.Crash

is_met : (cause : Cause) → IsTrue (is_content_cause cause) → IsMet cause
is_met cause is = record {
  cancel = λ e. false≢true (ap is_content_cause (sym e) ∙ is);
  shutdown = λ e. false≢true (ap is_content_cause (sym e) ∙ is);
  crash = λ e. false≢true (ap is_content_cause (sym e) ∙ is);
}

-- an attempt may meet each cause of a content
pub content_met : (cause : Cause) → IsTrue (is_content_cause cause) → IfBroke (stop_met cause) IsMet
content_met = by_cause (λ (cause : Cause) (stop : Stop). IsTrue (is_content_cause cause) → IfBroke stop IsMet) (λ is. tt) is_met

risen : (before now : ℕ) → Rose before now → 0 < now
risen before now rose = omega (arith, rose)

-- a fault of the wire shows in its count
pub cause_shown : {W : Type 0} (counts : W → WireFault → ℕ) (lane : Lane W) (before : WireFault → ℕ) (cause : Cause) → IfSome (cause_kind cause) (λ kind. Rose (before kind) (counts lane.wire kind)) → ShownOn counts lane (stop_met cause)
cause_shown {W} counts lane before =
    by_cause (λ (cause : Cause) (stop : Stop). IfSome (cause_kind cause) (λ kind. Rose (before kind) (counts lane.wire kind)) → ShownOn counts lane stop)
    (λ rose. tt) (λ cause rose. IfSome_then (cause_kind cause) rose (λ kind up. risen (before kind) (counts lane.wire kind) up))

-- the desk's own stop shows on no wire
pub desk_shown : {W : Type 0} (counts : W → WireFault → ℕ) (lane : Lane W) (stop : Stop) → IsOfDesk stop → ShownOn counts lane stop
desk_shown counts lane (stops.Broke cause) apart = absurd apart
desk_shown counts lane stops.NoMemory apart = tt
desk_shown counts lane (stops.Fault fault) apart = tt
desk_shown counts lane (stops.Recorded reason) apart = tt

-- what holds of each cause that ends a reading
pub by_reading : (P : Cause → Type 0) → P causes.NetFailed → P causes.NetTimeout → ((have : ℕ) (wanted : Option ℕ) → P (causes.ContentShort have wanted)) → P causes.BadFraming → ((total : ℕ) → P (causes.TooLarge total)) → (cause : Cause)
    → IsTrue (is_reading_cause cause) → P cause
by_reading P failed late short bad large causes.NetFailed is = failed
by_reading P failed late short bad large causes.NetTimeout is = late
by_reading P failed late short bad large (causes.ContentShort have wanted) is = short have wanted
by_reading P failed late short bad large causes.BadFraming is = bad
by_reading P failed late short bad large (causes.TooLarge total) is = large total
by_reading P failed late short bad large causes.Memory is = absurd (false≢true is)
by_reading P failed late short bad large (causes.File kind) is = absurd (false≢true is)
by_reading P failed late short bad large causes.NamesTaken is = absurd (false≢true is)
by_reading P failed late short bad large causes.BothStand is = absurd (false≢true is)
by_reading P failed late short bad large (causes.PartShort have wanted) is = absurd (false≢true is)
by_reading P failed late short bad large (causes.DigestDiffers have wanted) is = absurd (false≢true is)
by_reading P failed late short bad large causes.HeadCut is = absurd (false≢true is)
by_reading P failed late short bad large causes.NetNoRoute is = absurd (false≢true is)
by_reading P failed late short bad large causes.NetRefused is = absurd (false≢true is)
by_reading P failed late short bad large causes.BadLocation is = absurd (false≢true is)
by_reading P failed late short bad large causes.TooManyRedirects is = absurd (false≢true is)
by_reading P failed late short bad large (causes.Status status) is = absurd (false≢true is)
by_reading P failed late short bad large causes.BadHead is = absurd (false≢true is)
by_reading P failed late short bad large causes.Encoded is = absurd (false≢true is)
by_reading P failed late short bad large (causes.RangeRefused status) is = absurd (false≢true is)
by_reading P failed late short bad large causes.Cancel is = absurd (false≢true is)
by_reading P failed late short bad large causes.Shutdown is = absurd (false≢true is)
by_reading P failed late short bad large causes.Crash is = absurd (false≢true is)

pub content_own : (cause : Cause) → IsTrue (is_content_cause cause) → IsOfContent (stop_met cause)
content_own causes.NetFailed is = refl
content_own causes.NetTimeout is = refl
content_own (causes.ContentShort have wanted) is = refl
content_own causes.BadFraming is = refl
content_own (causes.TooLarge total) is = refl
content_own causes.Memory is = tt
content_own (causes.File kind) is = absurd (false≢true is)
content_own causes.NamesTaken is = absurd (false≢true is)
content_own causes.BothStand is = absurd (false≢true is)
content_own (causes.PartShort have wanted) is = absurd (false≢true is)
content_own (causes.DigestDiffers have wanted) is = absurd (false≢true is)
content_own causes.HeadCut is = absurd (false≢true is)
content_own causes.NetNoRoute is = absurd (false≢true is)
content_own causes.NetRefused is = absurd (false≢true is)
content_own causes.BadLocation is = absurd (false≢true is)
content_own causes.TooManyRedirects is = absurd (false≢true is)
content_own (causes.Status status) is = absurd (false≢true is)
content_own causes.BadHead is = absurd (false≢true is)
content_own causes.Encoded is = absurd (false≢true is)
content_own (causes.RangeRefused status) is = absurd (false≢true is)
content_own causes.Cancel is = absurd (false≢true is)
content_own causes.Shutdown is = absurd (false≢true is)
content_own causes.Crash is = absurd (false≢true is)

pub desk_own : (stop : Stop) → IsOfDesk stop → IsOfContent stop
desk_own (stops.Broke cause) apart = absurd apart
desk_own stops.NoMemory apart = tt
desk_own (stops.Fault fault) apart = tt
desk_own (stops.Recorded reason) apart = tt

-- a cause of asking that isn't want of memory
pub ask_own : (cause : Cause) → cause ≢ causes.Memory → IsTrue (is_ask_cause cause) → IsTrue (is_net_cause cause)
ask_own causes.NetFailed apart is = refl
ask_own causes.NetTimeout apart is = refl
ask_own causes.NetNoRoute apart is = refl
ask_own causes.NetRefused apart is = refl
ask_own causes.HeadCut apart is = refl
ask_own causes.BadHead apart is = refl
ask_own causes.BadLocation apart is = refl
ask_own causes.TooManyRedirects apart is = refl
ask_own (causes.Status status) apart is = refl
ask_own causes.Encoded apart is = refl
ask_own causes.BadFraming apart is = refl
ask_own (causes.RangeRefused status) apart is = refl
ask_own (causes.TooLarge total) apart is = refl
ask_own causes.Memory apart is = absurd (apart refl)
ask_own (causes.ContentShort have wanted) apart is = refl
ask_own (causes.File kind) apart is = absurd (false≢true is)
ask_own causes.NamesTaken apart is = absurd (false≢true is)
ask_own causes.BothStand apart is = absurd (false≢true is)
ask_own (causes.PartShort have wanted) apart is = absurd (false≢true is)
ask_own (causes.DigestDiffers have wanted) apart is = absurd (false≢true is)
ask_own causes.Cancel apart is = absurd (false≢true is)
ask_own causes.Shutdown apart is = absurd (false≢true is)
ask_own causes.Crash apart is = absurd (false≢true is)

-- such a cause isn't want of memory
pub net_apart : (cause : Cause) → IsTrue (is_net_cause cause) → cause ≢ causes.Memory
net_apart cause own e = false≢true (ap is_net_cause (sym e) ∙ own)

-- the net counts a fault of a wire where the lanes' wires go back
pub net_counts : {W : Type 0} (counts : W → WireFault → ℕ) (lanes : List (Lane W)) (before between after : NetFault → ℕ) (stop : Stop) → IsOfContent stop → SomeShows counts lanes stop
    → ((lane : Lane W) → Contains lanes lane → (kind : WireFault) → 0 < counts lane.wire kind → Rose (between (net_count_of kind)) (after (net_count_of kind)))
    → NoneFell before between → NetCounts before after stop
net_counts counts lanes before between after (stops.Broke cause) own shows counted later = (
  by_reading (λ (c : Cause). IsTrue (is_net_cause c)) refl refl (λ have wanted. refl) refl (λ total. refl) cause own,
  by_reading (λ (c : Cause). IfSome (cause_kind c) (λ kind. 0 < counts shows.lane.wire kind) → IfSome (net_kind_of c) (λ kind. Rose (before kind) (after kind)))
      (λ some. rose_since (before faults.Failed) (between faults.Failed) (after faults.Failed) (later faults.Failed) (counted shows.lane shows.among wires.Failed some))
      (λ some. rose_since (before faults.Timeout) (between faults.Timeout) (after faults.Timeout) (later faults.Timeout) (counted shows.lane shows.among wires.Timeout some))
      (λ have wanted none. tt) (λ none. tt) (λ total none. tt) cause own shows.shown,
)
net_counts counts lanes before between after stops.NoMemory own shows counted later = tt
net_counts counts lanes before between after (stops.Fault fault) own shows counted later = tt
net_counts counts lanes before between after (stops.Recorded reason) own shows counted later = tt

-- a count that rose meanwhile rose over a longer time
pub rose_longer : (a b c d : ℕ) → a ≤ b → c ≤ d → Rose b c → Rose a d
rose_longer a b c d earlier later rose = omega (arith, earlier, later, rose)

pub counts_longer : (a b c d : NetFault → ℕ) (stop : Stop) → NoneFell a b → NoneFell c d → NetCounts b c stop → NetCounts a d stop
counts_longer a b c d (stops.Broke cause) earlier later counted =
    (counted.0, IfSome_then (net_kind_of cause) counted.1 (λ kind rose. let e = earlier kind in let l = later kind in rose_longer (a kind) (b kind) (c kind) (d kind) e l rose))
counts_longer a b c d stops.NoMemory earlier later counted = tt
counts_longer a b c d (stops.Fault fault) earlier later counted = tt
counts_longer a b c d (stops.Recorded reason) earlier later counted = tt
