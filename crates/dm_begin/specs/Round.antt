-- How a round is planned.
use Rattle.std.specs.Prelude.{◌≡◌, ℕ, ◌+◌, List, map, Result, Ok, Err}
use Rattle.dm_types.specs.declared.item.Item.{Item}
use Rattle.dm_types.specs.declared.slices.Slice.{Slice}
use Rattle.dm_slice.specs.Plan.{opened_by, parts_by}
use Rattle.dm_slice.specs.declared.plan.Part.{Part}
use Rattle.dm_store.specs.declared.life.Life.{Life}
use Rattle.dm_store.specs.declared.pass.Gone.TheVariants as gones
use Rattle.dm_store.specs.declared.pass.Pass.{Pass}
use Rattle.dm_store.specs.Passes.{PassDeclines}
use Rattle.dm_store.specs.View.{View}
use Rattle.dm_answers.specs.declared.fault.DeskFault.{DeskFault}
use Rattle.dm_answers.specs.declared.fault.DeskFault.TheVariants as faults
use Rattle.dm_answers.specs.Plan.{MayNotPlan, MayPlan, slice_pass}
use Rattle.dm_answers.specs.Running.{RunsWith}
use Rattle.dm_begin.specs.declared.planning.Planned.{Planned}
use Rattle.dm_begin.specs.declared.planning.Round.{Round}

-- a round may be planned, and this is the next one
pub record MayRound (round : Round) (item : Item) (life : Life) : Type 0 where
  pub may : MayPlan item life
  pub total_is : round.total ≡ item.total
  pub round_is : round.round ≡ life.round + 1

-- the round that may be planned, or why none may be
abbrev pub PlanChecks : {D O : Type 0} → View D O → Pass → Result Round DeskFault → Type 0
PlanChecks desk pass (Ok round) = RunsWith desk pass.id pass.attempt (MayRound round)
PlanChecks desk pass (Err (faults.NoItem id)) = PassDeclines desk pass.id pass.attempt (gones.NoItem id)
PlanChecks desk pass (Err (faults.Stale attempt round)) = PassDeclines desk pass.id pass.attempt (gones.Stale attempt round)
PlanChecks desk pass (Err (faults.WrongState phase)) = RunsWith desk pass.id pass.attempt (MayNotPlan phase)
PlanChecks desk pass _ = ⊥

-- what was made of the life
pub record IsMade (n least : ℕ) (pass : Pass) (round : Round) (planned : Planned) (item : Item) (life : Life) : Type 0 where
  pub may : MayRound round item life
  pub cover_is : planned.cover ≡ opened_by item.total n least life.cover
  pub plan_is : planned.plan ≡ parts_by item.total n least life.cover
  pub passes_are : planned.passes ≡ map (slice_pass pass.id pass.attempt round.round) planned.plan

-- the life with a round
abbrev pub with_round : ℕ → List Slice → List Part → Life → Life
with_round round cover plan life = record life { cover = cover; round = round; plan = plan }
