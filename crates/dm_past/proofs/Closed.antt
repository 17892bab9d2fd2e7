-- What a run leaves whose list couldn't be opened.
use Rattle.std.proofs.Common.{◌≡◌, inl, inr, ℕ, true, false, List, [], ◌++◌, refl, sym, subst, arith}
use Rattle.dm_types.specs.Faults.{NoneFell}
use Rattle.dm_types.specs.Limits.{most_items}
use Rattle.dm_types.specs.declared.kinds.DiskKind.{DiskKind}
use Rattle.dm_disk_model.specs.Beside.{Besides}
use Rattle.dm_disk_model.specs.Disk.{History as Clock, now}
use Rattle.dm_disk_model.proofs.Beside.{besides_same}
use Rattle.dm_disk_model.proofs.Reaching.{at_end, weaker}
use Rattle.dm_edge.specs.declared.fault.NetFault.{NetFault}
use Rattle.dm_edge.specs.Wire.{Closed}
use Rattle.dm_kept.specs.Files.{Says, says_all}
use Rattle.dm_kept.specs.Kept.{Kept}
use Rattle.dm_kept.specs.Recovery.{Through}
use Rattle.dm_kept.proofs.Resting.{kept_any}
use Rattle.dm_open.specs.Refused.{IsHindered, NoneRead, OpenRefuses}
use Rattle.dm_open.proofs.Unread.{none_read_leaves}
use Rattle.dm_report.specs.Said.{Said, only}
use Rattle.dm_report.specs.declared.verdict.Verdict.{Verdict}
use Rattle.dm_report.specs.declared.verdict.Verdict.TheVariants as verdicts
use Rattle.dm_answers.specs.Opening.{disk_in}
use Rattle.dm_answers.specs.Reads.{IsSettledName}
use Rattle.dm_answers.specs.declared.fault.OpenFault.{OpenFault}
use Rattle.dm_answers.specs.declared.fault.OpenFault.TheVariants as opens
use Rattle.dm_does.specs.Answering.{SaysFault, SaysUnread}
use Rattle.dm_does.specs.Leaving.{IsTouched, KeepsOne, ShowsDamage}
use Rattle.dm_does.specs.Log.{Unread, Unopened}
use Rattle.dm_does.specs.World.{IsLater, World}
use Rattle.dm_does.proofs.Touching.{opening_touches}
use Rattle.dm_list.specs.Running.{JobRefused, SaysRefusal, ShowsOpening, world_of}
use Rattle.dm_past.specs.Past.{Past}
use Rattle.dm_past.specs.Running.{RunsTask}
use Rattle.dm_past.specs.Tasks.{DoingFor}

module _ {D : Type 0} (tells told : Type 0) (clock : D → Clock) (counts : D → DiskKind → ℕ) (far : D → ℕ) (says : Says) (does : DoingFor) (at : ℕ) (start end : D) (past : Past) (said : Said)
    (net_faults : NetFault → ℕ) (closed : List Closed) (fell : NoneFell (counts start) (counts end)) (beside : tells → Besides (IsSettledName clock start) (clock start) (clock end)) where
  abbrev before : World
  before = world_of clock counts net_faults closed start

  abbrev after : World
  after = world_of clock counts net_faults closed end

  abbrev Ran : Type 0
  Ran = RunsTask tells told says does at before after past past (far start) (far end) said

  later : IsLater tells before after
  later = record {
    disk_later = fell;
    net_later = λ kind. omega arith;
    moments_stay = λ sees. weaker (clock start) (clock end) _ (λ disk. Unit {0}) (λ disk is. tt) (beside sees);
  }

  unread : NoneRead tells clock far says start end → SaysUnread before after said → (tells → ShowsDamage (clock start) (clock end) said.verdict) → Ran
  unread none told_so damage = record {
    run = Unread;
    answers = record { none_closed = refl; says = told_so; same = refl };
    later = later;
    past_later = λ kind. omega arith;
    leaves = λ sees. record {
      moments = none_read_leaves tells clock far says start end none sees;
      ends = tt;
      files = besides_same (IsTouched (clock start) Unread) (clock start) (clock end) (none.files sees);
      holds = tt;
      damage = damage sees;
      near = λ short. none.near;
    };
    keeps = λ sees kept rest here.
        let through = none.kept sees true kept rest here in
        record {
          moments = weaker (clock start) (clock end) (Kept true says (Through kept rest)) (KeepsOne says kept rest Unread) (λ disk is. inl is) through;
          after = at_end (clock start) (clock end) (Kept true says (Through kept rest)) through;
          settles = tt;
        };
    shows = λ never sees knows. refl;
  }

  hindered : IsHindered tells clock far says start end most_items at → SaysFault before after said → ShowsDamage (clock start) (clock end) said.verdict → Ran
  hindered h told_so damage = record {
    run = Unopened h.found h.recorded h.failed h.rest;
    answers = record { none_closed = refl; says = told_so; same = refl; taken = h.is.taken; lawful = h.is.lawful; one = h.is.one; left = h.is.left; tried = h.is.tried };
    later = later;
    past_later = λ kind. omega arith;
    leaves = λ sees. record {
      moments = (h.is.runs sees).leaves;
      ends = kept_any says says_all (Through (h.found ++ h.recorded) h.failed) (now (clock end)) (h.is.kept sees false tt);
      files = opening_touches clock start (clock end) (Unopened h.found h.recorded h.failed h.rest) (beside sees);
      holds = tt;
      damage = damage;
      near = h.is.near;
    };
    keeps = λ sees kept rest here. record {
      moments = h.is.on sees kept rest here;
      after = h.is.kept sees true (record { earlier = kept; more = rest; kept = here });
      settles = tt;
    };
    shows = λ never sees knows. refl;
  }

-- what is said shows no damage
no_damage : (start end : Clock) (said : Said) (verdict : Verdict) → said ≡ only verdict → ShowsDamage start end verdict → ShowsDamage start end said.verdict
no_damage start end said verdict is shows = subst (λ (s : Said). ShowsDamage start end s.verdict) (sym is) shows

module _ {D : Type 0} (tells told : Type 0) (clock : D → Clock) (counts : D → DiskKind → ℕ) (far : D → ℕ) (says : Says) (does : DoingFor) (at : ℕ) (start : D) (past : Past) (said : Said) (net_faults : NetFault → ℕ) (closed : List Closed) where
  abbrev RanTo : D → Past → Type 0
  RanTo end past' = RunsTask tells told says does at (world_of clock counts net_faults closed start) (world_of clock counts net_faults closed end) past past' (far start) (far end) said

  by_fault : (fault : OpenFault D) → SaysRefusal fault said → OpenRefuses tells clock far says start most_items at fault → NoneFell (counts start) (counts (disk_in fault)) → (tells → Besides (IsSettledName clock start) (clock start) (clock (disk_in fault)))
      → ShowsOpening (counts start) (counts (disk_in fault)) fault → RanTo (disk_in fault) past
  by_fault (opens.Damaged place disk) (inl is) refuses fell beside shows =
      unread tells told clock counts far says does at start disk past said net_faults closed fell beside refuses.0 (inr (place, is))
      (λ sees. no_damage (clock start) (clock disk) said (verdicts.Damaged place) is (let stays = refuses.1 sees in (stays.damaged.damage, stays.damaged.unchanged)))
  by_fault (opens.Damaged place disk) (inr is) refuses fell beside shows =
      unread tells told clock counts far says does at start disk past said net_faults closed fell beside refuses.0 (inl (inr is)) (λ sees. no_damage (clock start) (clock disk) said verdicts.NoMemory is tt)
  by_fault (opens.Disk kind disk) is (inl none) fell beside shows =
      unread tells told clock counts far says does at start disk past said net_faults closed fell beside none (inl (inl (kind, shows, is))) (λ sees. no_damage (clock start) (clock disk) said (verdicts.DiskFailed kind) is tt)
  by_fault (opens.Disk kind disk) is (inr h) fell beside shows =
      hindered tells told clock counts far says does at start disk past said net_faults closed fell beside h (inl (kind, shows, is)) (no_damage (clock start) (clock disk) said (verdicts.DiskFailed kind) is tt)
  by_fault (opens.NoMemory disk) is (inl none) fell beside shows =
      unread tells told clock counts far says does at start disk past said net_faults closed fell beside none (inl (inr is)) (λ sees. no_damage (clock start) (clock disk) said verdicts.NoMemory is tt)
  by_fault (opens.NoMemory disk) is (inr (h, none)) fell beside shows =
      hindered tells told clock counts far says does at start disk past said net_faults closed fell beside h (inr is) (no_damage (clock start) (clock disk) said verdicts.NoMemory is tt)

  pub closed_runs : (end : D) (past' : Past) → JobRefused tells clock counts far says at start end said → past' ≡ past → RanTo end past'
  closed_runs end past' r same =
      subst (λ (d : D). RanTo d past') (sym r.end_is)
      (subst (RanTo (disk_in r.fault)) (sym same)
      (by_fault r.fault r.says_is r.refuses (subst (λ (d : D). NoneFell (counts start) (counts d)) r.end_is r.later) (λ sees. subst (λ (d : D). Besides (IsSettledName clock start) (clock start) (clock d)) r.end_is (r.beside sees))
      (subst (λ (d : D). ShowsOpening (counts start) (counts d) r.fault) r.end_is r.shows)))
