-- What a run leaves whose list couldn't be opened.
use Rattle.std.proofs.Common.{◌≡◌, ◌⊎◌, inl, inr, ℕ, true, false, List, [], ◌++◌, refl, sym, subst, arith}
use Rattle.dm_types.specs.Faults.{NoneFell, Rose}
use Rattle.dm_types.specs.Limits.{most_items}
use Rattle.dm_types.specs.declared.kinds.DiskKind.{DiskKind}
use Rattle.dm_disk_model.specs.Beside.{Besides}
use Rattle.dm_disk_model.specs.Disk.{DiskState, History as Clock, now}
use Rattle.dm_disk_model.proofs.Beside.{besides_same}
use Rattle.dm_disk_model.proofs.Reaching.{at_end, weaker}
use Rattle.dm_edge.specs.declared.fault.NetFault.{NetFault}
use Rattle.dm_edge.specs.Wire.{Closed}
use Rattle.dm_item.specs.Lawful.{History}
use Rattle.dm_kept.specs.Files.{Says, says_all}
use Rattle.dm_kept.specs.Kept.{Kept, WasKept}
use Rattle.dm_kept.specs.Recovery.{Found, Through}
use Rattle.dm_kept.proofs.Resting.{kept_any}
use Rattle.dm_open.specs.Refused.{IsHindered, NoneRead, OpenRefuses, StaysDamaged}
use Rattle.dm_open.proofs.Unread.{none_read_leaves}
use Rattle.dm_report.specs.Said.{EndsAs, Said, only}
use Rattle.dm_report.specs.declared.verdict.Verdict.{Verdict}
use Rattle.dm_report.specs.declared.verdict.Verdict.TheVariants as verdicts
use Rattle.dm_answers.specs.Opening.{disk_in}
use Rattle.dm_answers.specs.Reads.{IsSettledName}
use Rattle.dm_answers.specs.declared.fault.OpenFault.{OpenFault}
use Rattle.dm_answers.specs.declared.fault.OpenFault.TheVariants as opens
use Rattle.dm_does.specs.Answering.{Bringing, SaysFault, SaysUnread}
use Rattle.dm_does.specs.Jobs.{HasSomeJob}
use Rattle.dm_does.specs.Leaving.{IsTouched, KeepsOne, ShowsDamage}
use Rattle.dm_does.specs.Log.{Run, Unread, Unopened}
use Rattle.dm_does.specs.World.{IsLater, World}
use Rattle.dm_does.proofs.Touching.{opening_touches}
use Rattle.dm_list.specs.Running.{IsClosed, JobRefused, RunsBy, SaysRefusal, ShowsOpening, world_of}

module _ {D : Type 0} (P : Run → Type 0) (shut : (run : Run) → IsClosed run → P run) (brings : ℕ → Bringing) (tells : Type 0) (clock : D → Clock) (counts : D → DiskKind → ℕ) (far : D → ℕ) (says : Says) (words : List (List ℕ)) (has : HasSomeJob words) (at : ℕ) (start end : D) (said : Said)
    (net_faults : NetFault → ℕ) (closed : List Closed) (fell : NoneFell (counts start) (counts end)) (beside : tells → Besides (IsSettledName clock start) (clock start) (clock end)) where
  abbrev before : World
  before = world_of clock counts net_faults closed start

  abbrev after : World
  after = world_of clock counts net_faults closed end

  abbrev Ran : Type 0
  Ran = RunsBy P brings tells says words at before after (far start) (far end) said

  later : IsLater tells before after
  later = record {
    disk_later = fell;
    net_later = λ kind. omega arith;
    moments_stay = λ told. weaker (clock start) (clock end) _ (λ disk. Unit {0}) (λ disk is. tt) (beside told);
  }

  unread : NoneRead tells clock far says start end → SaysUnread before after said → (tells → ShowsDamage (clock start) (clock end) said.verdict) → Ran
  unread none told_so damage = record {
    run = Unread;
    answers = record { has = has; none_closed = refl; says = told_so };
    later = later;
    leaves = λ told. record {
      moments = none_read_leaves tells clock far says start end none told;
      ends = tt;
      files = besides_same (IsTouched (clock start) Unread) (clock start) (clock end) (none.files told);
      holds = tt;
      damage = damage told;
      near = λ short. none.near;
    };
    keeps = λ told kept rest here.
        let through = none.kept told true kept rest here in
        record {
          moments = weaker (clock start) (clock end) (Kept true says (Through kept rest)) (KeepsOne says kept rest Unread) (λ disk is. inl is) through;
          after = at_end (clock start) (clock end) (Kept true says (Through kept rest)) through;
          settles = tt;
        };
    besides = shut Unread tt;
  }

  hindered : IsHindered tells clock far says start end most_items at → SaysFault before after said → ShowsDamage (clock start) (clock end) said.verdict → Ran
  hindered h told_so damage = record {
    run = Unopened h.found h.recorded h.failed h.rest;
    answers = record { has = has; none_closed = refl; says = told_so; taken = h.is.taken; lawful = h.is.lawful; one = h.is.one; left = h.is.left; tried = h.is.tried };
    later = later;
    leaves = λ told. record {
      moments = (h.is.runs told).leaves;
      ends = kept_any says says_all (Through (h.found ++ h.recorded) h.failed) (now (clock end)) (h.is.kept told false tt);
      files = opening_touches clock start (clock end) (Unopened h.found h.recorded h.failed h.rest) (beside told);
      holds = tt;
      damage = damage;
      near = h.is.near;
    };
    keeps = λ told kept rest here. record {
      moments = h.is.on told kept rest here;
      after = h.is.kept told true (record { earlier = kept; more = rest; kept = here });
      settles = tt;
    };
    besides = shut (Unopened h.found h.recorded h.failed h.rest) tt;
  }

-- what is said shows no damage
no_damage : (start end : Clock) (said : Said) (verdict : Verdict) → said ≡ only verdict → ShowsDamage start end verdict → ShowsDamage start end said.verdict
no_damage start end said verdict is shows = subst (λ (s : Said). ShowsDamage start end s.verdict) (sym is) shows

module _ {D : Type 0} (P : Run → Type 0) (shut : (run : Run) → IsClosed run → P run) (brings : ℕ → Bringing) (tells : Type 0) (clock : D → Clock) (counts : D → DiskKind → ℕ) (far : D → ℕ) (says : Says) (words : List (List ℕ)) (has : HasSomeJob words) (at : ℕ) (start : D) (said : Said)
    (net_faults : NetFault → ℕ) (closed : List Closed) where
  abbrev RanTo : D → Type 0
  RanTo end = RunsBy P brings tells says words at (world_of clock counts net_faults closed start) (world_of clock counts net_faults closed end) (far start) (far end) said

  by_fault : (fault : OpenFault D) → SaysRefusal fault said → OpenRefuses tells clock far says start most_items at fault → NoneFell (counts start) (counts (disk_in fault)) → (tells → Besides (IsSettledName clock start) (clock start) (clock (disk_in fault)))
      → ShowsOpening (counts start) (counts (disk_in fault)) fault → RanTo (disk_in fault)
  by_fault (opens.Damaged place disk) (inl is) refuses fell beside shows =
      unread P shut brings tells clock counts far says words has at start disk said net_faults closed fell beside refuses.0 (inr (place, is))
      (λ told. no_damage (clock start) (clock disk) said (verdicts.Damaged place) is (let stays = refuses.1 told in (stays.damaged.damage, stays.damaged.unchanged)))
  by_fault (opens.Damaged place disk) (inr is) refuses fell beside shows =
      unread P shut brings tells clock counts far says words has at start disk said net_faults closed fell beside refuses.0 (inl (inr is)) (λ told. no_damage (clock start) (clock disk) said verdicts.NoMemory is tt)
  by_fault (opens.Disk kind disk) is (inl none) fell beside shows =
      unread P shut brings tells clock counts far says words has at start disk said net_faults closed fell beside none (inl (inl (kind, shows, is))) (λ told. no_damage (clock start) (clock disk) said (verdicts.DiskFailed kind) is tt)
  by_fault (opens.Disk kind disk) is (inr h) fell beside shows =
      hindered P shut brings tells clock counts far says words has at start disk said net_faults closed fell beside h (inl (kind, shows, is)) (no_damage (clock start) (clock disk) said (verdicts.DiskFailed kind) is tt)
  by_fault (opens.NoMemory disk) is (inl none) fell beside shows =
      unread P shut brings tells clock counts far says words has at start disk said net_faults closed fell beside none (inl (inr is)) (λ told. no_damage (clock start) (clock disk) said verdicts.NoMemory is tt)
  by_fault (opens.NoMemory disk) is (inr (h, none)) fell beside shows =
      hindered P shut brings tells clock counts far says words has at start disk said net_faults closed fell beside h (inr is) (no_damage (clock start) (clock disk) said verdicts.NoMemory is tt)

  pub refused_runs : (end : D) → JobRefused tells clock counts far says at start end said → RanTo end
  refused_runs end r =
      subst RanTo (sym r.end_is)
      (by_fault r.fault r.says_is r.refuses (subst (λ (d : D). NoneFell (counts start) (counts d)) r.end_is r.later) (λ told. subst (λ (d : D). Besides (IsSettledName clock start) (clock start) (clock d)) r.end_is (r.beside told))
      (subst (λ (d : D). ShowsOpening (counts start) (counts d) r.fault) r.end_is r.shows))
