-- A run with a history is one over which the promise over all runs goes on.
use Rattle.std.proofs.Common.{ℕ, List, ◌++◌}
use Rattle.dm_disk_model.specs.Disk.{IsSoundDisk, now}
use Rattle.dm_kept.specs.Files.{Says}
use Rattle.dm_report.specs.Said.{Said}
use Rattle.dm_does.specs.Answering.{Bringing}
use Rattle.dm_does.specs.Explaining.{Telling}
use Rattle.dm_does.specs.Headline.{IsRun, OpensOnce}
use Rattle.dm_does.specs.Log.{Run, Untouched, Unread, Unopened, Opened}
use Rattle.dm_does.specs.Printing.{Outputs}
use Rattle.dm_does.specs.World.{World}
use Rattle.dm_does.proofs.Explained.{behind_opened, behind_opening, opens_once}
use Rattle.dm_past.specs.All.{ExplainsAll, RunsAll, by_list, by_row, by_task, run_in}
use Rattle.dm_past.specs.Answering.{Answers}
use Rattle.dm_past.specs.Listed.{RunsListed}
use Rattle.dm_past.specs.Past.{Past}
use Rattle.dm_past.specs.Running.{RunsTask}
use Rattle.dm_past.specs.Tasks.{DoingFor}

-- it opened the list once, and recorded what it tried behind what it found
task_opens : (tells told : Type 0) (does : DoingFor) (at : ℕ) (before after : World) (past past' : Past) (said : Said) (run : Run) → tells → Answers tells told does at before after past past' said run → OpensOnce (now before.disk) run
task_opens tells told does at before after past past' said Untouched sees answers = absurd answers
task_opens tells told does at before after past past' said Unread sees answers = tt
task_opens tells told does at before after past past' said (Unopened found recorded failed rest) sees answers =
    behind_opening tells before.disk after.disk at found (recorded ++ (failed ++ rest)) answers.left sees answers.lawful answers.tried
task_opens tells told does at before after past past' said (Opened log) sees answers = behind_opened tells before.disk after.disk at log sees answers.lawful answers.opened answers.once

-- one that did a task, or that a row answered
pub task_promised : (tells told : Type 0) (says : Says) (does : DoingFor) (at : ℕ) (before after : World) (past past' : Past) (far far' : ℕ) (said : Said) → tells → IsSoundDisk (now before.disk) → (is : RunsTask tells told says does at before after past past' far far' said)
    → IsRun says before.disk after.disk is.run
task_promised tells told says does at before after past past' far far' said sees sound is = record {
  sound = sound;
  opens = task_opens tells told does at before after past past' said is.run sees is.answers;
  keeps = is.keeps sees;
}

-- one that ran as without a history
pub listed_promised : (P : Run → Type 0) (brings : ℕ → Bringing) (tells told : Type 0) (says : Says) (words : List (List ℕ)) (at : ℕ) (before after : World) (past past' : Past) (far far' : ℕ) (said : Said) → tells → IsSoundDisk (now before.disk)
    → (is : RunsListed P brings tells told says words at before after past past' far far' said) → IsRun says before.disk after.disk is.runs.run
listed_promised P brings tells told says words at before after past past' far far' said sees sound is = record {
  sound = sound;
  opens = opens_once brings tells words at before after said is.runs.run sees is.runs.answers;
  keeps = is.runs.keeps sees;
}

all_promised : (P : Run → Type 0) (brings : ℕ → Bringing) (tells told : Type 0) (says : Says) (words : List (List ℕ)) (at : ℕ) (before after : World) (past past' : Past) (far far' : ℕ) (said : Said) → tells → IsSoundDisk (now before.disk)
    → (is : RunsAll P brings tells told says words at before after past past' far far' said) → IsRun says before.disk after.disk (run_in is)
all_promised P brings tells told says words at before after past past' far far' said sees sound (by_list none is) = listed_promised P brings tells told says words at before after past past' far far' said sees sound is
all_promised P brings tells told says words at before after past past' far far' said sees sound (by_row is) = task_promised tells told says _ at before after past past' far far' said sees sound is.runs
all_promised P brings tells told says words at before after past past' far far' said sees sound (by_task is) = task_promised tells told says _ at before after past past' far far' said sees sound is.runs

-- whatever the words are: each run by the clause of the program's call
pub top_promised : (P : ℕ → Said → Run → Type 0) (brings : ℕ → Bringing) (tells : Telling) (told : Type 0) (says : Says) (words : List (List ℕ)) (moment : ℕ) (before after : World) (past past' : Past) (far far' : ℕ) (seen seen' : Outputs) (status : ℕ)
    → tells.disk → IsSoundDisk (now before.disk) → (is : ExplainsAll P brings tells told says words moment before after past past' far far' seen seen' status) → IsRun says before.disk after.disk (run_in is.runs)
top_promised P brings tells told says words moment before after past past' far far' seen seen' status sees sound is =
    all_promised (P is.at is.said) brings tells.disk told says words is.at before after past past' far far' is.said sees sound is.runs
