-- A cause that the net shows has a reason that was counted.
use Rattle.std.proofs.Common.{inl, inr, ℕ, ◌==◌, ◌||◌, ◌&&◌, Bool, true, false, if◌then◌else◌, IsTrue, sym, subst}
use Rattle.std.specs.Prelude.{IfSome, nat_le}
use Rattle.std.proofs.lemmas.Bool.{false≢true}
use Rattle.dm_types.specs.Faults.{Rose}
use Rattle.dm_types.specs.declared.reason.Reason.{Reason}
use Rattle.dm_types.specs.declared.reason.Reason.TheVariants as reasons
use Rattle.dm_ask.specs.Causes.{net_kind_of}
use Rattle.dm_policy.specs.Cause.{reason_of_cause, reason_of_status}
use Rattle.dm_policy.specs.declared.cause.Cause.{Cause}
use Rattle.dm_policy.specs.declared.cause.Cause.TheVariants as causes
use Rattle.dm_attempt.specs.Scene.{Scene}
use Rattle.dm_attempt.specs.Trace.{Trace}
use Rattle.dm_rounds.specs.Lanes.{is_net_cause}
use Rattle.dm_fetch.specs.Attempts.{MetAtNet}
use Rattle.dm_does.specs.Answering.{IsCounted}
use Rattle.dm_does.specs.World.{World}

-- the last rows of the statuses
abbrev above_403 : ℕ → Reason
above_403 status =
    if (status == 404) || (status == 410) || (nat_le 201 status && nat_le status 299) then reasons.ServerBadContent else (if status == 416 then reasons.ServerNoRange else reasons.ServerFailed)

module _ (from to : World) where
  -- the same of either reason
  either : (test : Bool) (a b : Reason) → IsCounted from to a → IsCounted from to b → IsCounted from to (if test then a else b)
  either true a b first second = first
  either false a b first second = second

  of_status : (status : ℕ) → IsCounted from to (reason_of_status status)
  of_status status =
      either ((status == 401) || (status == 407)) reasons.ServerUnauthorized (if status == 403 then reasons.ServerForbidden else above_403 status) tt
      (either (status == 403) reasons.ServerForbidden (above_403 status) tt
      (either ((status == 404) || (status == 410) || (nat_le 201 status && nat_le status 299)) reasons.ServerBadContent (if status == 416 then reasons.ServerNoRange else reasons.ServerFailed) tt
      (either (status == 416) reasons.ServerNoRange reasons.ServerFailed tt tt)))

  of_cause : (cause : Cause) → IsTrue (is_net_cause cause) → IfSome (net_kind_of cause) (λ kind. Rose (from.net_faults kind) (to.net_faults kind)) → IsCounted from to (reason_of_cause cause)
  of_cause (causes.File kind) own rose = absurd (false≢true own)
  of_cause causes.NetTimeout own rose = rose
  of_cause causes.NetNoRoute own rose = rose
  of_cause causes.NetRefused own rose = rose
  of_cause (causes.Status status) own rose = of_status status
  of_cause causes.Cancel own rose = absurd (false≢true own)
  of_cause causes.Shutdown own rose = absurd (false≢true own)
  of_cause causes.Crash own rose = absurd (false≢true own)
  of_cause cause own rose = tt

  -- what an attempt met at the net
  pub shown_counted : {D O : Type 0} (net : Type 0) (scene : Scene D O) (trace : Trace) (cause : Cause) → MetAtNet net from.net_faults to.net_faults scene trace cause → IsCounted from to (reason_of_cause cause)
  shown_counted net scene trace cause (inl unread) = subst (λ (c : Cause). IsCounted from to (reason_of_cause c)) (sym unread.cause_is) tt
  shown_counted net scene trace cause (inr (inl used)) = subst (λ (c : Cause). IsCounted from to (reason_of_cause c)) (sym used.cause_is) tt
  shown_counted net scene trace cause (inr (inr shown)) = of_cause cause shown.0 shown.1
