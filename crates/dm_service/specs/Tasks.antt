-- What is to be done for a call.
use Rattle.dm_answers.specs.declared.order.Order.{Order}
use Rattle.dm_call.specs.declared.call.Call.{Call}
use Rattle.dm_call.specs.declared.call.Call.TheVariants as calls
use Rattle.dm_call.specs.declared.call.Named.{Named}
use Rattle.dm_does.specs.declared.job.Job.TheVariants as jobs
use Rattle.dm_service.specs.declared.task.Task.{Task}
use Rattle.dm_service.specs.declared.task.Task.TheVariants as tasks

-- the name is handed in as a wish
abbrev pub order_by : Named → Order
order_by named = record { word = named.word; address = named.address; wish = named.name; digest = named.digest }

abbrev pub task_by : Call → Task
task_by (calls.Page window) = tasks.Page window
task_by (calls.Add named) = tasks.Add (order_by named)
task_by (calls.Show id) = tasks.Job (jobs.Show id)
task_by (calls.Remove id) = tasks.Remove id
task_by (calls.Pause id) = tasks.Job (jobs.Pause id)
task_by (calls.Resume id) = tasks.Job (jobs.Resume id 1)
task_by (calls.Cancel id) = tasks.Job (jobs.Cancel id)
task_by calls.Archive = tasks.Archive
task_by (calls.History window) = tasks.History window
task_by calls.Report = tasks.Report
task_by calls.Stop = tasks.Stop
