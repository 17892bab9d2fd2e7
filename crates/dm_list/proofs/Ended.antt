-- What is put together of a run of a job.
use Rattle.std.proofs.Common.{◌≡◌, ℕ, List, Result, Err, sym, subst}
use Rattle.dm_types.specs.Faults.{HasCause, NoneFell}
use Rattle.dm_types.specs.Limits.{most_items}
use Rattle.dm_types.specs.declared.kinds.DiskKind.{DiskKind}
use Rattle.dm_disk_model.specs.Beside.{Besides}
use Rattle.dm_disk_model.specs.Disk.{History as Clock}
use Rattle.dm_edge.specs.Wire.{Closed}
use Rattle.dm_edge.specs.declared.fault.NetFault.{NetFault}
use Rattle.dm_kept.specs.Files.{Says}
use Rattle.dm_open.specs.Refused.{OpenRefuses}
use Rattle.dm_report.specs.Said.{Said}
use Rattle.dm_answers.specs.Faults.{open_kind}
use Rattle.dm_answers.specs.Opening.{disk_in}
use Rattle.dm_answers.specs.Reads.{IsSettledName}
use Rattle.dm_answers.specs.declared.fault.OpenFault.{OpenFault}
use Rattle.dm_answers.specs.declared.fault.OpenFault.TheVariants as opens
use Rattle.dm_does.specs.declared.job.Job.{Job}
use Rattle.dm_list.specs.Running.{JobRefused, JobRuns, SaysRefusal, ShowsOpening}

opening_shows : {D T : Type 0} (before after : DiskKind → ℕ) (fault : OpenFault D) (result : Result T (OpenFault D)) → result ≡ Err fault → HasCause open_kind before after result → ShowsOpening before after fault
opening_shows before after (opens.Disk kind disk) result is cause = (subst (HasCause open_kind before after) is cause).cause
opening_shows before after (opens.Damaged place disk) result is cause = tt
opening_shows before after (opens.NoMemory disk) result is cause = tt

pub job_refused : {D T : Type 0} (tells : Type 0) (clock : D → Clock) (counts : D → DiskKind → ℕ) (far : D → ℕ) (says : Says) (at : ℕ) (start end : D) (said : Said) (fault : OpenFault D) (result : Result T (OpenFault D)) → result ≡ Err fault
    → end ≡ disk_in fault → SaysRefusal fault said → OpenRefuses tells clock far says start most_items at fault → (tells → Besides (IsSettledName clock start) (clock start) (clock (disk_in fault)))
    → HasCause open_kind (counts start) (counts (disk_in fault)) result → JobRefused tells clock counts far says at start end said
job_refused {D = D} tells clock counts far says at start end said fault result is end_is told refuses beside cause = record {
  fault = fault;
  end_is = end_is;
  says_is = told;
  refuses = refuses;
  beside = λ told_so. subst (λ (d : D). Besides (IsSettledName clock start) (clock start) (clock d)) (sym end_is) (beside told_so);
  later = subst (λ (d : D). NoneFell (counts start) (counts d)) (sym end_is) cause.later;
  shows = subst (λ (d : D). ShowsOpening (counts start) (counts d) fault) (sym end_is) (opening_shows (counts start) (counts (disk_in fault)) fault result is cause);
}

-- the net told its origin
pub job_at : {D O : Type 0} (tells : Type 0) (clock : D → Clock) (counts : D → DiskKind → ℕ) (far : D → ℕ) (says : O → Says) (net : Type 0) (told origin : O) (job : Job) (at : ℕ) (start end : D) (was closed : List Closed) (before after : NetFault → ℕ) (said : Said)
    → told ≡ origin → JobRuns tells clock counts far says net told job at start end was closed before after said → JobRuns tells clock counts far says net origin job at start end was closed before after said
job_at {O = O} tells clock counts far says net told origin job at start end was closed before after said same runs =
    subst (λ (o : O). JobRuns tells clock counts far says net o job at start end was closed before after said) same runs
