-- Where nothing fails a command does all, or memory was wanting.
use Rattle.std.proofs.Common.{inl, inr, ℕ, true, List, Option, ap, subst}
use Rattle.dm_types.specs.Faults.{NoneRose}
use Rattle.dm_types.specs.Limits.{most_items}
use Rattle.dm_disk_model.specs.Disk.{DiskState, History as Clock, IsSoundDisk, now, reading}
use Rattle.dm_disk_model.proofs.Images.{as_read}
use Rattle.dm_kept.specs.Files.{Says}
use Rattle.dm_kept.specs.Kept.{IsKeptNow}
use Rattle.dm_kept.specs.Spelled.{Records}
use Rattle.dm_kept.proofs.Damages.{never_both}
use Rattle.dm_report.specs.Said.{Said}
use Rattle.dm_answers.specs.Opening.{ReadsDamage}
use Rattle.dm_does.specs.declared.job.Job.{Job}
use Rattle.dm_does.specs.Answering.{Answers, Bringing, Came, SaysFault, SaysUnread, all, broke, fell, given_by, stopped, unsaid}
use Rattle.dm_does.specs.Completing.{Gives, refused, wanting}
use Rattle.dm_does.specs.Completing as completing
use Rattle.dm_does.specs.Doing.{does}
use Rattle.dm_does.specs.Explaining.{Explains, Telling}
use Rattle.dm_does.specs.Jobs.{HasJob}
use Rattle.dm_does.specs.Leaving.{ShowsDamage}
use Rattle.dm_does.specs.Log.{Log, Run, Untouched, Unread, Unopened, Opened, opened_of}
use Rattle.dm_does.specs.Printing.{Outputs}
use Rattle.dm_does.specs.World.{World}
use Rattle.dm_does.proofs.Statuses.{went_failed}

-- what this program left is never damaged
never_damaged : (says : Says) (start : DiskState) (place : ℕ) → IsSoundDisk start → IsKeptNow true says start → ReadsDamage start most_items place → ⊥
never_damaged says start place sound kept damage =
    let found = kept.kept (reading start) (as_read start sound) in
    never_both most_items place damage.bytes found.history (subst (λ (bytes : Option (List ℕ)). Records bytes found.history) damage.reads found.recorded) found.taken damage.damage

by_fault : (words : List (List ℕ)) (at : ℕ) (before after : World) (said : Said) (run : Run) → NoneRose before.disk_faults after.disk_faults → SaysFault before after said → Gives words at said run
by_fault words at before after said run none (inl failed) = absurd (none failed.0 failed.1)
by_fault words at before after said run none (inr is) = wanting run is

by_unread : (says : Says) (words : List (List ℕ)) (at : ℕ) (start end : Clock) (before after : World) (said : Said) → IsSoundDisk (now start) → IsKeptNow true says (now start) → NoneRose before.disk_faults after.disk_faults
    → ShowsDamage start end said.verdict → SaysUnread before after said → Gives words at said Unread
by_unread says words at start end before after said sound kept none shows (inl fault) = by_fault words at before after said Unread none fault
by_unread says words at start end before after said sound kept none shows (inr told) =
    absurd (never_damaged says (now start) told.0 sound kept (subst (ShowsDamage start end) (ap (λ (s : Said). s.verdict) told.1) shows).0)

by_work : (brings : Bringing) (tells : Type 0) (words : List (List ℕ)) (at : ℕ) (before after : World) (log : Log) (said : Said) (job : Job) → HasJob words job → NoneRose before.disk_faults after.disk_faults
    → Came brings tells at before after (does job (given_by (opened_of log) at)) log said → Gives words at said (Opened log)
by_work brings tells words at before after log said job has none (all whole none_failed went is rests) = completing.all log (record {
  job = job;
  has = has;
  whole = whole;
  none_failed = none_failed;
  fetched = went.fetched;
  more_is = went.more_is;
  says = is;
  rests = rests;
})
by_work brings tells words at before after log said job has none (fell kind entry is_broken failed_is cut failed is) = absurd (none kind failed)
by_work brings tells words at before after log said job has none (broke kind is_broken went is) =
    absurd (none kind (went_failed brings tells at before after (does job (given_by (opened_of log) at)) log kind went))
by_work brings tells words at before after log said job has none (stopped whole none_failed cut is) = wanting (Opened log) is
by_work brings tells words at before after log said job has none (unsaid whole none_failed went is) = wanting (Opened log) is

by_answer : (brings : ℕ → Bringing) (tells : Type 0) (says : Says) (words : List (List ℕ)) (at : ℕ) (before after : World) (said : Said) (run : Run) → IsSoundDisk (now before.disk) → IsKeptNow true says (now before.disk)
    → NoneRose before.disk_faults after.disk_faults → ShowsDamage before.disk after.disk said.verdict → Answers brings tells words at before after said run → Gives words at said run
by_answer brings tells says words at before after said Untouched sound kept none shows answers = refused answers.refused answers.nothing
by_answer brings tells says words at before after said Unread sound kept none shows answers = by_unread says words at before.disk after.disk before after said sound kept none shows answers.says
by_answer brings tells says words at before after said (Unopened found recorded failed rest) sound kept none shows answers =
    by_fault words at before after said (Unopened found recorded failed rest) none answers.says
by_answer brings tells says words at before after said (Opened log) sound kept none shows answers = by_work (brings at) tells words at before after log said answers.job answers.has none answers.works.came

pub nothing_fails : (brings : ℕ → Bringing) (tells : Telling) (says : Says) (words : List (List ℕ)) (moment : ℕ) (before after : World) (far far' : ℕ) (seen seen' : Outputs) (status : ℕ) → tells.disk → IsSoundDisk (now before.disk)
    → IsKeptNow true says (now before.disk) → NoneRose before.disk_faults after.disk_faults → (is : Explains brings tells says words moment before after far far' seen seen' status) → Gives words is.at is.said is.run
nothing_fails brings tells says words moment before after far far' seen seen' status told sound kept none is =
    by_answer brings tells.disk says words is.at before after is.said is.run sound kept none (is.leaves told).damage is.answers
