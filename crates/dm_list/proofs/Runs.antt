-- A run of words: they are refused, or the job is done.
use Rattle.std.proofs.Common.{◌≡◌, inl, inr, ℕ, List, [], refl, sym, ◌∙◌, ap, subst, arith}
use Rattle.dm_types.specs.declared.kinds.DiskKind.{DiskKind}
use Rattle.dm_disk_model.specs.Disk.{DiskState, History as Clock, now}
use Rattle.dm_disk_model.proofs.Beside.{besides_stay}
use Rattle.dm_disk_model.proofs.Reaching.{at_start}
use Rattle.dm_edge.specs.declared.fault.NetFault.{NetFault}
use Rattle.dm_edge.specs.Wire.{Closed}
use Rattle.dm_kept.specs.Files.{Says}
use Rattle.dm_report.specs.Said.{Said, only}
use Rattle.dm_report.specs.Verdict.{IsMade}
use Rattle.dm_report.specs.declared.verdict.Verdict.{Verdict}
use Rattle.dm_report.specs.declared.verdict.Verdict.TheVariants as verdicts
use Rattle.dm_does.specs.declared.job.Job.{Job}
use Rattle.dm_brings.specs.Bringing.{brings_of}
use Rattle.dm_does.specs.Answering.{Bringing}
use Rattle.dm_does.specs.Jobs.{HasJob, RefusesWords}
use Rattle.dm_does.specs.Leaving.{IsTouched, KeepsOne, ShowsDamage}
use Rattle.dm_does.specs.Log.{Run, Untouched, Unread, Unopened, Opened}
use Rattle.dm_list.specs.Completing.{Completes}
use Rattle.dm_list.specs.Running.{IsClosed, JobRefused, JobRuns, JobWorked, RunsBy, world_of}
use Rattle.dm_list.proofs.Closed.{refused_runs}
use Rattle.dm_list.proofs.Left as left

-- words that are refused have a fixed line
pub refused_fixed : (words : List (List ℕ)) (verdict : Verdict) → RefusesWords words verdict → IsMade verdict → ⊥
refused_fixed words verdicts.BadWords refused made = made
refused_fixed words verdicts.BadAddress refused made = made
refused_fixed words verdicts.NoMemory refused made = made
refused_fixed words verdict refused made = absurd refused

no_damage : (words : List (List ℕ)) (start end : Clock) (verdict : Verdict) → RefusesWords words verdict → ShowsDamage start end verdict
no_damage words start end verdicts.BadWords refused = tt
no_damage words start end verdicts.BadAddress refused = tt
no_damage words start end verdicts.NoMemory refused = tt
no_damage words start end verdict refused = absurd refused

module _ {D : Type 0} (P : Run → Type 0) (shut : (run : Run) → IsClosed run → P run) (brings : ℕ → Bringing) (tells : Type 0) (clock : D → Clock) (counts : D → DiskKind → ℕ) (far : D → ℕ) (says : Says) (words : List (List ℕ)) (at : ℕ) (start : D) (said : Said) (net_faults : NetFault → ℕ) (closed : List Closed) where
  abbrev RanTo : D → Type 0
  RanTo end = RunsBy P brings tells says words at (world_of clock counts net_faults closed start) (world_of clock counts net_faults closed end) (far start) (far end) said

  untouched : RefusesWords words said.verdict → said ≡ only said.verdict → RanTo start
  untouched refused nothing = record {
    run = Untouched;
    answers = record { refused = refused; nothing = nothing; same = refl };
    later = record { disk_later = λ kind. omega arith; net_later = λ kind. omega arith; moments_stay = λ told. at_start (clock start) (λ disk. Unit {0}) tt };
    leaves = λ told. record {
      moments = refl;
      ends = tt;
      files = besides_stay (IsTouched (clock start) Untouched) (clock start) (clock start) refl;
      holds = tt;
      damage = no_damage words (clock start) (clock start) said.verdict refused;
      near = λ short. refl;
    };
    keeps = λ told kept rest here. record {
      moments = at_start (clock start) (KeepsOne says kept rest Untouched) (inl here);
      after = here;
      settles = tt;
    };
    besides = shut Untouched tt;
  }

  pub words_refused : (end : D) (verdict : Verdict) → RefusesWords words verdict → end ≡ start → said ≡ only verdict → RanTo end
  words_refused end verdict refused same is =
      let told : said.verdict ≡ verdict = ap (λ (s : Said). s.verdict) is in
      subst RanTo (sym same) (untouched (subst (RefusesWords words) (sym told) refused) (is ∙ ap only (sym told)))

module _ {D O : Type 0} (tells : Type 0) (clock : D → Clock) (counts : D → DiskKind → ℕ) (far : D → ℕ) (says : O → Says) (net : Type 0) (origin : O) (words : List (List ℕ)) (at : ℕ) (start : D) (was : List Closed)
    (before : NetFault → ℕ) (said : Said) where
  -- it completes the item that it brings
  abbrev Well : D → List Closed → (NetFault → ℕ) → Run → Type 0
  Well end closed after run = Completes tells clock says far counts net origin start end was closed before after words at said run

  well_closed : (end : D) (closed : List Closed) (after : NetFault → ℕ) (run : Run) → IsClosed run → Well end closed after run
  well_closed end closed after Untouched is told kept rest here none = tt
  well_closed end closed after Unread is told kept rest here none = tt
  well_closed end closed after (Unopened found recorded failed rest) is told kept more here none = tt
  well_closed end closed after (Opened log) is told kept rest here none = absurd is

  abbrev pub Ran : D → List Closed → (NetFault → ℕ) → Type 0
  Ran end closed after = RunsBy (Well end closed after) (brings_of tells clock says far counts net) tells (says origin) words at (world_of clock counts before was start) (world_of clock counts after closed end) (far start) (far end) said

  worked : (job : Job) (has : HasJob words job) (end : D) (closed : List Closed) (after : NetFault → ℕ) → (w : JobWorked tells clock counts far says net origin job at start end was closed before after said) → Ran w.ended.disk closed after
  worked job has end closed after w = record {
    run = Opened (left.log tells clock counts far says net origin job at start end was closed before after said w);
    answers = record { job = job; has = has; works = left.works tells clock counts far says net origin job at start end was closed before after said w };
    later = left.later tells clock counts far says net origin job at start end was closed before after said w;
    leaves = left.leaves tells clock counts far says net origin job at start end was closed before after said w;
    keeps = left.keeps tells clock counts far says net origin job at start end was closed before after said w;
    besides = λ told kept rest here none. record { job = job; has = has; brings = left.completes tells clock counts far says net origin job at start end was closed before after said w told (record { earlier = kept; more = rest; kept = here }) none };
  }

  pub job_runs : (job : Job) (has : HasJob words job) (end : D) (closed : List Closed) (after : NetFault → ℕ) → JobRuns tells clock counts far says net origin job at start end was closed before after said → Ran end closed after
  job_runs job has end closed after (inl w) = subst (λ (d : D). Ran d closed after) (sym w.end_is) (worked job has end closed after w)
  job_runs job has end closed after (inr (r, none, same)) =
      subst (λ (c : List Closed). Ran end c after) (sym none)
      (subst (λ (counted : NetFault → ℕ). Ran end was counted) (sym same)
      (refused_runs (Well end was before) (well_closed end was before) (brings_of tells clock says far counts net) tells clock counts far (says origin) words (record { job = job; has = has }) at start said before was end r))

  pub words_run : (verdict : Verdict) → RefusesWords words verdict → said ≡ only verdict → Ran start was before
  words_run verdict refused is = words_refused (Well start was before) (well_closed start was before) (brings_of tells clock says far counts net) tells clock counts far (says origin) words at start said before was start verdict refused refl is
