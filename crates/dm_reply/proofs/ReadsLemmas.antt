-- A wire that is only received on.
use Rattle.std.proofs.Common.{◌≡◌, ℕ, ◌≤◌, List, [], ◌++◌, take, refl, sym, ◌∙◌, ap, arith, append_assoc, Result, Ok, Err}
use Rattle.std.proofs.lemmas.List.{append-nil}
use Rattle.dm_types.specs.Faults.{Rose}
use Rattle.dm_edge.specs.declared.fault.WireFault.{WireFault}
use Rattle.dm_edge.specs.declared.fault.WireFault.TheVariants as wire
use Rattle.dm_edge.specs.Causes.{wire_cause, is_content_cause}
use Rattle.dm_edge.specs.Wire.{Purpose, Told, Receives, WantsBy}
use Rattle.dm_reply.specs.Reads.{GoesOn, OnlyReads}
use Rattle.std.specs.Prelude.{IsTrue}
use Rattle.dm_reply.specs.Steps.{ShowsWant}

pub stays_on : (told : Told) → GoesOn told told
stays_on told = record { piece = []; given = sym (append-nil told.given) }

pub goes_then : (a b c : Told) → GoesOn a b → GoesOn b c → GoesOn a c
goes_then a b c first next = record {
  piece = first.piece ++ next.piece;
  given = next.given ∙ ap (λ t. t ++ next.piece) first.given ∙ append_assoc a.given first.piece next.piece;
}

-- nothing was received
pub reads_none : {W O : Type 0} {tells : Type 0} {told : W → Told} {purpose : W → Purpose} {origin : W → O} {wants : W → ℕ} (same : W)
    → OnlyReads tells told purpose origin wants same same
reads_none {told = told} same =
    record { sent = λ tells. refl; given = λ tells. stays_on (told same); purpose_stays = refl; origin_stays = refl; later = omega arith }

-- one call after another
pub reads_then : {W O : Type 0} {tells : Type 0} {told : W → Told} {purpose : W → Purpose} {origin : W → O} {wants : W → ℕ} (a b c : W)
    → OnlyReads tells told purpose origin wants a b → OnlyReads tells told purpose origin wants b c → OnlyReads tells told purpose origin wants a c
reads_then {told = told} a b c first next = record {
  sent = λ tells. next.sent tells ∙ first.sent tells;
  given = λ tells. goes_then (told a) (told b) (told c) (first.given tells) (next.given tells);
  purpose_stays = next.purpose_stays ∙ first.purpose_stays;
  origin_stays = next.origin_stays ∙ first.origin_stays;
  later = omega (arith, first.later, next.later);
}

goes_received : (before now : Told) (result : Result ℕ WireFault) (buffer : List ℕ) → Receives before now result buffer → GoesOn before now
goes_received before now (Ok n) buffer got = record { piece = take n buffer; given = got.given.0 }
goes_received before now (Err fault) buffer got = record { piece = []; given = got.given.0 ∙ sym (append-nil before.given) }

-- a receive
pub reads_received : {W O : Type 0} {tells : Type 0} {told : W → Told} {purpose : W → Purpose} {origin : W → O} {wants : W → ℕ} (old new : W)
    (result : Result ℕ WireFault) (buffer : List ℕ) → (tells → Receives (told old) (told new) result buffer) → (purpose new ≡ purpose old) × (origin new ≡ origin old)
    → WantsBy (wants old) (wants new) result → OnlyReads tells told purpose origin wants old new
reads_received {told = told} old new result buffer got stays wanted = record {
  sent = λ tells. (got tells).sent;
  given = λ tells. goes_received (told old) (told new) result buffer (got tells);
  purpose_stays = stays.0;
  origin_stays = stays.1;
  later = wanted.later;
}

-- the cause of a wire's fault is one of a content
pub wire_own : (fault : WireFault) → IsTrue (is_content_cause (wire_cause fault))
wire_own wire.Failed = refl
wire_own wire.Timeout = refl
wire_own wire.NoMemory = refl

-- and is want of memory only where the wire wanted it
pub wire_wants : (before now : ℕ) (fault : WireFault) → (fault ≡ wire.NoMemory → Rose before now) → ShowsWant before now (wire_cause fault)
wire_wants before now wire.Failed rose is = absurd (let wrong = is in cc)
wire_wants before now wire.Timeout rose is = absurd (let wrong = is in cc)
wire_wants before now wire.NoMemory rose is = rose refl

-- a count that rose since a later moment
pub wanted_since : (before first now : ℕ) → before ≤ first → Rose first now → Rose before now
wanted_since before first now order rose = omega (arith, order, rose)
