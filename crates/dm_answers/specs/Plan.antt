-- The parts of the next round.
use Rattle.std.specs.Prelude.{◌≡◌, ◌≢◌, ◌⊎◌, ℕ, ◌+◌, List, map, Option, None, IsSome, Result, Ok, Err}
use Rattle.dm_types.specs.declared.item.Attempt.{Attempt}
use Rattle.dm_types.specs.declared.item.Item.{Item}
use Rattle.dm_types.specs.declared.item.ItemId.{ItemId}
use Rattle.dm_types.specs.declared.item.Phase.{Phase}
use Rattle.dm_slice.specs.Plan.{opened_by, parts_by}
use Rattle.dm_slice.specs.declared.plan.Part.{Part}
use Rattle.dm_store.specs.declared.life.Life.{Life}
use Rattle.dm_store.specs.declared.pass.Gone.TheVariants as gones
use Rattle.dm_store.specs.declared.pass.Pass.{Pass}
use Rattle.dm_store.specs.Becomes.{Refuses}
use Rattle.dm_store.specs.Passes.{PassDeclines}
use Rattle.dm_store.specs.View.{View}
use Rattle.dm_answers.specs.declared.answer.SlicePass.{SlicePass}
use Rattle.dm_answers.specs.declared.fault.DeskFault.{DeskFault}
use Rattle.dm_answers.specs.declared.fault.DeskFault.TheVariants as faults
use Rattle.dm_answers.specs.Frame.{IsBroken, LifeOnly}
use Rattle.dm_answers.specs.Running.{RunsWith}

-- rounds are counted up to here
abbrev pub last_round : ℕ
last_round = 4294967295

-- the first reply was told, and one more round can be counted
pub record MayPlan (item : Item) (life : Life) : Type 0 where
  pub told : IsSome item.key
  pub more : life.round ≢ last_round

-- the first reply wasn't told, or the rounds are used up
pub record MayNotPlan (phase : Phase) (item : Item) (life : Life) : Type 0 where
  pub phase_is : phase ≡ item.phase
  pub why : (item.key ≡ None) ⊎ (life.round ≡ last_round)

-- the life with the next round: so many parts, none below the least size where a hole is cut
abbrev pub planned_life : Option ℕ → ℕ → ℕ → Life → Life
planned_life total n least life = record life { cover = opened_by total n least life.cover; round = life.round + 1; plan = parts_by total n least life.cover }

-- what is shown with each piece of a part
abbrev pub slice_pass : ItemId → Attempt → ℕ → Part → SlicePass
slice_pass id attempt round part = record { id = id; attempt = attempt; round = round; index = part.index; first = part.first; end = part.end }

-- the round that was planned, and a pass for each of its parts
pub record IsRound {D O : Type 0} (old new : View D O) (pass : Pass) (n : ℕ) (passes : List SlicePass) (item : Item) (life : Life) : Type 0 where
  pub may : MayPlan item life
  pub planned : LifeOnly old new pass.id.0 (planned_life item.total n old.limits.min_slice)
  pub still : new.disk ≡ old.disk
  pub passes_are : passes ≡ map (slice_pass pass.id pass.attempt (life.round + 1)) (parts_by item.total n old.limits.min_slice life.cover)

-- Each answer, with its cause and what it makes of the desk.
abbrev pub PlanAnswers : {D O : Type 0} → View D O → View D O → Pass → ℕ → Result (List SlicePass) DeskFault → Type 0
PlanAnswers old new pass n (Ok passes) = RunsWith old pass.id pass.attempt (IsRound old new pass n passes)
PlanAnswers old new pass n (Err faults.Broken) = IsBroken old new
PlanAnswers old new pass n (Err (faults.NoItem id)) = Refuses old new (PassDeclines old pass.id pass.attempt (gones.NoItem id))
PlanAnswers old new pass n (Err (faults.Stale attempt round)) = Refuses old new (PassDeclines old pass.id pass.attempt (gones.Stale attempt round))
PlanAnswers old new pass n (Err (faults.WrongState phase)) = Refuses old new (RunsWith old pass.id pass.attempt (MayNotPlan phase))
PlanAnswers old new pass n (Err faults.NoMemory) = Refuses old new (RunsWith old pass.id pass.attempt MayPlan)
PlanAnswers old new pass n _ = ⊥
