-- The clause of a run, put together.
use Rattle.std.proofs.Common.{inl, inr, ℕ, List, sym, subst}
use Rattle.dm_types.specs.declared.kinds.DiskKind.{DiskKind}
use Rattle.dm_disk_model.specs.Disk.{History as Clock}
use Rattle.dm_edge.specs.declared.fault.NetFault.{NetFault}
use Rattle.dm_edge.specs.Wire.{Closed}
use Rattle.dm_kept.specs.Files.{Says}
use Rattle.dm_report.specs.Said.{Said}
use Rattle.dm_does.specs.Log.{Opened}
use Rattle.dm_list.specs.Running.{world_of}
use Rattle.dm_past.specs.Past.{Past}
use Rattle.dm_past.specs.Running.{RunsTask, TaskRan, TaskRuns}
use Rattle.dm_past.specs.Tasks.{DoingFor}
use Rattle.dm_past.proofs.Closed.{closed_runs}
use Rattle.dm_past.proofs.Left as left

module _ {D O : Type 0} (tells told : Type 0) (clock : D → Clock) (counts : D → DiskKind → ℕ) (far : D → ℕ) (says : O → Says) (origin : O) (does : DoingFor) (no_damages : left.TellsNoDamage does) (at : ℕ) (start : D) (past past' : Past) (said : Said) (net_faults : NetFault → ℕ) (closed : List Closed) where
  abbrev Ran : D → Type 0
  Ran end = RunsTask tells told (says origin) does at (world_of clock counts net_faults closed start) (world_of clock counts net_faults closed end) past past' (far start) (far end) said

  ran : (end : D) (w : TaskRan tells told clock counts far says origin does at start end past past' said) → Ran w.ended.disk
  ran end w = record {
    run = Opened (left.log tells told clock counts far says origin does no_damages at start end past past' said w);
    answers = left.works tells told clock counts far says origin does no_damages at start end past past' said w net_faults closed;
    later = left.later tells told clock counts far says origin does no_damages at start end past past' said w net_faults closed;
    past_later = w.goes.past_later;
    leaves = left.leaves tells told clock counts far says origin does no_damages at start end past past' said w;
    keeps = left.keeps tells told clock counts far says origin does no_damages at start end past past' said w;
    shows = left.shows tells told clock counts far says origin does no_damages at start end past past' said w;
  }

  pub task_runs : (end : D) → TaskRuns tells told clock counts far says origin does at start end past past' said → Ran end
  task_runs end (inl w) = subst Ran (sym w.end_is) (ran end w)
  task_runs end (inr (r, same)) = closed_runs tells told clock counts far (says origin) does at start past said net_faults closed end past' r same
