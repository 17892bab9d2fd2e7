-- The whole clause of a run of any words, over a list and a history: one verdict and one moment explain what is printed, and what was done.
use Rattle.std.specs.Prelude.{◌≡◌, ℕ, List}
use Rattle.dm_kept.specs.Files.{Says}
use Rattle.dm_report.specs.Said.{Said}
use Rattle.dm_does.specs.Answering.{Bringing}
use Rattle.dm_does.specs.Explaining.{Telling}
use Rattle.dm_does.specs.Log.{Run}
use Rattle.dm_does.specs.Printing.{Outputs, Prints}
use Rattle.dm_does.specs.World.{World}
use Rattle.dm_past.specs.Listed.{RunsListed, RunsRow}
use Rattle.dm_past.specs.Past.{Past}
use Rattle.dm_past.specs.Running.{RunsTask}
use Rattle.dm_past.specs.Tasks.{Does}
use Rattle.dm_past.specs.Words.{HasTask}
use Rattle.dm_past.specs.declared.task.Task.{Task}

-- the words ask for a task, and it was done
pub record RunsWords (tells told : Type 0) (says : Says) (words : List (List ℕ)) (at : ℕ) (before after : World) (past past' : Past) (far far' : ℕ) (said : Said) : Type 0 where
  pub task : Task
  pub has : HasTask words task
  pub runs : RunsTask tells told says (Does told task) at before after past past' far far' said

-- the words ask for no task
abbrev pub AsksNoTask : List (List ℕ) → Type 0
AsksNoTask words = (task : Task) → HasTask words task → ⊥

-- They ask for no task, and ran as they do without a history, and no row answers; or they are a job, and a row answered it, or the history gave no answer; or they ask for a task, and it was done.
pub data RunsAll (P : Run → Type 0) (brings : ℕ → Bringing) (tells told : Type 0) (says : Says) (words : List (List ℕ)) (at : ℕ) (before after : World) (past past' : Past) (far far' : ℕ) (said : Said) : Type 0 where
  by_list : AsksNoTask words → RunsListed P brings tells told says words at before after past past' far far' said → RunsAll P brings tells told says words at before after past past' far far' said
  by_row : RunsRow tells told says words at before after past past' far far' said → RunsAll P brings tells told says words at before after past past' far far' said
  by_task : RunsWords tells told says words at before after past past' far far' said → RunsAll P brings tells told says words at before after past past' far far' said

-- how far it came
abbrev pub run_in : {P : Run → Type 0} {brings : ℕ → Bringing} {tells told : Type 0} {says : Says} {words : List (List ℕ)} {at : ℕ} {before after : World} {past past' : Past} {far far' : ℕ} {said : Said} → RunsAll P brings tells told says words at before after past past' far far' said → Run
run_in (by_list none is) = is.runs.run
run_in (by_row is) = is.runs.run
run_in (by_task is) = is.runs.run

-- `told`: the history tells its rows. P is what holds besides, at the moment, of what was said and of how far it came, where it ran as without a history.
pub record ExplainsAll (P : ℕ → Said → Run → Type 0) (brings : ℕ → Bringing) (tells : Telling) (told : Type 0) (says : Says) (words : List (List ℕ)) (moment : ℕ) (before after : World) (past past' : Past) (far far' : ℕ) (seen seen' : Outputs) (status : ℕ) : Type 0 where
  pub said : Said
  -- the moment of every entry, for which the clock was asked once
  pub at : ℕ
  pub at_is : tells.clock → at ≡ moment
  -- the texts and the status are those of what was said
  pub prints : Prints tells.outputs seen seen' said status
  pub runs : RunsAll (P at said) brings tells.disk told says words at before after past past' far far' said
