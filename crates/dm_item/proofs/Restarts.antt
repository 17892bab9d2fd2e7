-- An item whose content begins anew may begin the attempt that it was allowed before.
use Rattle.std.proofs.Common.{◌≡◌, ℕ, ◌+◌, cond, true, false, Bool, not, ◌||◌, IsTrue, refl, ap, sym, ◌∙◌}
use Rattle.std.proofs.lemmas.Bool.{false≢true}
use Rattle.dm_types.specs.declared.item.Item.{Item}
use Rattle.dm_types.specs.declared.item.ItemId.{ItemId}
use Rattle.dm_types.specs.declared.item.Epoch.{Epoch}
use Rattle.dm_types.specs.declared.item.Phase.{Phase}
use Rattle.dm_types.specs.declared.item.Phase.TheVariants as phases
use Rattle.dm_types.specs.declared.kinds.By.{By}
use Rattle.dm_types.specs.declared.kinds.By.TheVariants.{User, Itself}
use Rattle.dm_types.specs.declared.kinds.Mode.{Mode}
use Rattle.dm_types.specs.declared.kinds.Mode.TheVariants as modes
use Rattle.dm_types.specs.declared.entry.Entry.TheVariants as entries
use Rattle.dm_policy.specs.Mode.{asked_mode, asks_user, by_user, can_continue, from_start, is_immediate, is_last_attempt, mode_by}
use Rattle.dm_item.specs.Row.{IsBegun, begins_by, changed, facts_of, is_interrupted, is_waiting, mode_in, mode_of_item, restarted_item}
use Rattle.dm_item.proofs.Sounds.{invalid-mode_by}
use Rattle.dm_item.proofs.Lasting.{never_now}

restart_phase : (phase : Phase) (mode : Mode) → (is_waiting phase || is_interrupted phase) ≡ true → mode_in phase mode ≡ mode
restart_phase phases.Waiting mode may = refl
restart_phase (phases.Interrupted why) mode may = refl
restart_phase phases.Running mode may = absurd (false≢true may)
restart_phase phases.Paused mode may = absurd (false≢true may)
restart_phase phases.Finishing mode may = absurd (false≢true may)
restart_phase phases.Complete mode may = absurd (false≢true may)
restart_phase phases.Cancelled mode may = absurd (false≢true may)

start_now : (mode : Mode) → is_immediate mode ≡ true → is_immediate (from_start mode) ≡ true
start_now modes.ImmediateContinue now = refl
start_now modes.ImmediateRestart now = refl
start_now modes.Invalid now = absurd (false≢true now)
start_now modes.UserContinue now = absurd (false≢true now)
start_now modes.UserRestart now = absurd (false≢true now)

-- what goes on at once also begins anew at once
again_now : (last asks can : Bool) (mode : Mode) → is_immediate (cond last modes.Invalid (cond asks (by_user (cond can mode (from_start mode))) (cond can mode (from_start mode)))) ≡ true
    → is_immediate (cond last modes.Invalid (cond asks (by_user (from_start mode)) (from_start mode))) ≡ true
again_now true asks can mode now = absurd (false≢true now)
again_now false true can mode now = absurd (never_now (cond can mode (from_start mode)) now)
again_now false false true mode now = start_now mode now
again_now false false false mode now = now

restarted_by : (epoch : Epoch) (by : By) (item : Item) → IsTrue (begins_by by (mode_by item.reason (facts_of item))) → IsTrue (begins_by by (mode_by item.reason (facts_of (restarted_item epoch item))))
restarted_by epoch User item may =
    ap not (invalid-mode_by item.reason (facts_of (restarted_item epoch item)) ∙ sym (invalid-mode_by item.reason (facts_of item))) ∙ may
restarted_by epoch Itself item may = again_now (is_last_attempt (facts_of item)) (asks_user (facts_of item)) (can_continue (facts_of item)) (asked_mode item.reason) may

pub restarted_begins : (id : ItemId) (epoch : Epoch) (because : ℕ) (by : By) (item : Item) → (is_waiting item.phase || is_interrupted item.phase) ≡ true → IsTrue (begins_by by (mode_of_item item))
    → IsBegun (changed (entries.Restarted id epoch because) item) (item.attempt.0 + 1) by
restarted_begins id epoch because by item may begins =
    record {
      next = refl;
      mode =
          let before : IsTrue (begins_by by (mode_by item.reason (facts_of item))) = ap (begins_by by) (sym (restart_phase item.phase _ may)) ∙ begins in
          ap (begins_by by) (restart_phase item.phase (mode_by item.reason (facts_of (restarted_item epoch item))) may) ∙ restarted_by epoch by item before;
      goes_on = λ begun. absurd (false≢true begun);
    }
