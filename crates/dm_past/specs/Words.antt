-- Which words ask for a task.
use Rattle.std.specs.Prelude.{◌≡◌, ℕ, List, Option, Some, None}
use Rattle.dm_words.specs.Asked.{Asked, Asks, Archives, Histories}
use Rattle.dm_past.specs.declared.task.Task.{Task}
use Rattle.dm_past.specs.declared.task.Task.TheVariants as tasks

abbrev pub task_of : Asked → Option Task
task_of Archives = Some tasks.Archive
task_of (Histories after limit) = Some (tasks.Page after limit)
task_of asked = None

-- the words ask for this task
pub record HasTask (words : List (List ℕ)) (task : Task) : Type 0 where
  pub asked : Asked
  pub asks : Asks words asked
  pub is : task_of asked ≡ Some task
