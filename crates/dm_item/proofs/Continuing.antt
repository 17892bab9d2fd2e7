-- An item that goes on from where it stopped has what a continued attempt wants.
use Rattle.std.proofs.Common.{◌≡◌, Bool, true, false, cond, IsTrue, refl, sym, ◌∙◌}
use Rattle.std.proofs.lemmas.Bool.{false≢true}
use Rattle.dm_types.specs.declared.item.Item.{Item}
use Rattle.dm_types.specs.declared.item.Phase.{Phase}
use Rattle.dm_types.specs.declared.item.Phase.TheVariants as phases
use Rattle.dm_types.specs.declared.kinds.Mode.{Mode}
use Rattle.dm_types.specs.declared.kinds.Mode.TheVariants as modes
use Rattle.dm_policy.specs.Mode.{asked_mode, asks_user, by_user, can_continue, from_start, is_continue, is_last_attempt, mode_by, placed_mode}
use Rattle.dm_item.specs.Row.{facts_of, mode_in, mode_of_item}

user_continues : (mode : Mode) → IsTrue (is_continue (by_user mode)) → IsTrue (is_continue mode)
user_continues modes.Invalid is = is
user_continues modes.ImmediateContinue is = refl
user_continues modes.ImmediateRestart is = is
user_continues modes.UserContinue is = refl
user_continues modes.UserRestart is = is

never_from_start : (mode : Mode) → is_continue (from_start mode) ≡ false
never_from_start modes.Invalid = refl
never_from_start modes.ImmediateContinue = refl
never_from_start modes.ImmediateRestart = refl
never_from_start modes.UserContinue = refl
never_from_start modes.UserRestart = refl

continue_placed : (last asks : Bool) (mode : Mode) → IsTrue (is_continue (cond last modes.Invalid (cond asks (by_user mode) mode))) → IsTrue (is_continue mode)
continue_placed true asks mode is = absurd (false≢true is)
continue_placed false true mode is = user_continues mode is
continue_placed false false mode is = is

continue_can : (can : Bool) (mode : Mode) → IsTrue (is_continue (cond can mode (from_start mode))) → IsTrue can
continue_can true mode is = refl
continue_can false mode is = absurd (false≢true (sym (never_from_start mode) ∙ is))

continue_in : (phase : Phase) (mode : Mode) → IsTrue (is_continue (mode_in phase mode)) → IsTrue (is_continue mode)
continue_in phases.Waiting mode is = is
continue_in phases.Running mode is = is
continue_in phases.Paused mode is = is
continue_in (phases.Interrupted reason) mode is = is
continue_in phases.Finishing mode is = absurd (false≢true is)
continue_in phases.Complete mode is = absurd (false≢true is)
continue_in phases.Cancelled mode is = absurd (false≢true is)

pub can_go_on : (item : Item) → IsTrue (is_continue (mode_of_item item)) → IsTrue (can_continue (facts_of item))
can_go_on item is =
    let facts = facts_of item in
    continue_can (can_continue facts) (asked_mode item.reason)
    (continue_placed (is_last_attempt facts) (asks_user facts) (placed_mode item.reason facts) (continue_in item.phase (mode_by item.reason facts) is))
