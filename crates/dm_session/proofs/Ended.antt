-- What a session leaves whose list couldn't be opened.
use Rattle.std.proofs.Common.{◌≡◌, inl, inr, ℕ, true, false, ◌++◌, Result, Err, refl, sym, subst, arith}
use Rattle.dm_types.specs.Faults.{HasCause, NoneFell, Rose}
use Rattle.dm_types.specs.Limits.{most_items}
use Rattle.dm_types.specs.declared.kinds.DiskKind.{DiskKind}
use Rattle.dm_disk_model.specs.Beside.{Besides}
use Rattle.dm_disk_model.specs.Disk.{History as Clock, now}
use Rattle.dm_disk_model.proofs.Beside.{besides_same}
use Rattle.dm_disk_model.proofs.Reaching.{at_end, weaker}
use Rattle.dm_kept.specs.Files.{Says, says_all}
use Rattle.dm_kept.specs.Kept.{Kept}
use Rattle.dm_kept.specs.Recovery.{Through}
use Rattle.dm_kept.proofs.Resting.{kept_any}
use Rattle.dm_open.specs.Refused.{IsHindered, NoneRead, OpenRefuses}
use Rattle.dm_open.proofs.Unread.{none_read_leaves}
use Rattle.dm_report.specs.Said.{Said, only}
use Rattle.dm_report.specs.declared.verdict.Verdict.{Verdict}
use Rattle.dm_report.specs.declared.verdict.Verdict.TheVariants as verdicts
use Rattle.dm_answers.specs.Faults.{open_kind}
use Rattle.dm_answers.specs.Opening.{disk_in}
use Rattle.dm_answers.specs.Reads.{IsSettledName}
use Rattle.dm_answers.specs.declared.fault.OpenFault.{OpenFault}
use Rattle.dm_answers.specs.declared.fault.OpenFault.TheVariants as opens
use Rattle.dm_does.specs.Answering.{SaysFault, SaysUnread}
use Rattle.dm_does.specs.Leaving.{IsTouched, KeepsOne, ShowsDamage}
use Rattle.dm_does.specs.Log.{Unread, Unopened}
use Rattle.dm_does.specs.World.{IsLater, World}
use Rattle.dm_does.proofs.Touching.{opening_touches}
use Rattle.dm_past.specs.Past.{Past}
use Rattle.dm_session.specs.Explaining.{ServeRuns, world_of}
use Rattle.dm_session.specs.Refusing.{SaysRefusal}
use Rattle.dm_session.specs.Serving.{Line}

-- where a call on the disk failed, the count of its kind rose
abbrev ShowsOpening : {D : Type 0} → (DiskKind → ℕ) → (DiskKind → ℕ) → OpenFault D → Type 0
ShowsOpening before after (opens.Disk kind disk) = Rose (before kind) (after kind)
ShowsOpening before after (opens.Damaged place disk) = Unit {0}
ShowsOpening before after (opens.NoMemory disk) = Unit {0}

opening_shows : {D T : Type 0} (before after : DiskKind → ℕ) (fault : OpenFault D) (result : Result T (OpenFault D)) → result ≡ Err fault → HasCause open_kind before after result → ShowsOpening before after fault
opening_shows before after (opens.Disk kind disk) result is cause = (subst (HasCause open_kind before after) is cause).cause
opening_shows before after (opens.Damaged place disk) result is cause = tt
opening_shows before after (opens.NoMemory disk) result is cause = tt

-- what is said shows no damage
no_damage : (start end : Clock) (said : Said) (verdict : Verdict) → said ≡ only verdict → ShowsDamage start end verdict → ShowsDamage start end said.verdict
no_damage start end said verdict is shows = subst (λ (s : Said). ShowsDamage start end s.verdict) (sym is) shows

module _ {D O : Type 0} (tells conns_tell knows : Type 0) (moment : ℕ → Type 0) (accepts accept_failed : Type 0) (clock : D → Clock) (counts : D → DiskKind → ℕ) (far : D → ℕ) (says : O → Says) (origin : O) (at : ℕ) (start : D) (said : Said) (past : Past) (line : Line) (requests : ℕ) (quiet : accepts) where
  abbrev before : World
  before = world_of clock counts start

  abbrev RanTo : D → Type 0
  RanTo end = ServeRuns (record { disk = tells; conns = conns_tell; past = knows; moment = moment; accepts = accepts; accept_failed = accept_failed }) clock counts says origin at before (world_of clock counts end) past past (far start) (far end) line line requests said

  module _ (end : D) (fell : NoneFell (counts start) (counts end)) (beside : tells → Besides (IsSettledName clock start) (clock start) (clock end)) where
    abbrev after : World
    after = world_of clock counts end

    later : IsLater tells before after
    later = record {
      disk_later = fell;
      net_later = λ kind. omega arith;
      moments_stay = λ told. weaker (clock start) (clock end) _ (λ disk. Unit {0}) (λ disk is. tt) (beside told);
    }

    unread : NoneRead tells clock far (says origin) start end → SaysUnread before after said → (tells → ShowsDamage (clock start) (clock end) said.verdict) → RanTo end
    unread none told_so damage = record {
      run = Unread;
      serves = record { says = told_so; none = refl; none_failed = quiet; same = refl };
      later = later;
      leaves = λ told. record {
        moments = none_read_leaves tells clock far (says origin) start end none told;
        ends = tt;
        files = besides_same (IsTouched (clock start) Unread) (clock start) (clock end) (none.files told);
        holds = tt;
        damage = damage told;
        near = λ short. none.near;
      };
      keeps = λ told kept rest here.
          let through = none.kept told true kept rest here in
          record {
            moments = weaker (clock start) (clock end) (Kept true (says origin) (Through kept rest)) (KeepsOne (says origin) kept rest Unread) (λ disk is. inl is) through;
            after = at_end (clock start) (clock end) (Kept true (says origin) (Through kept rest)) through;
            settles = tt;
          };
    }

    hindered : IsHindered tells clock far (says origin) start end most_items at → SaysFault before after said → ShowsDamage (clock start) (clock end) said.verdict → RanTo end
    hindered h told_so damage = record {
      run = Unopened h.found h.recorded h.failed h.rest;
      serves = record { says = told_so; none = refl; none_failed = quiet; same = refl; taken = h.is.taken; lawful = h.is.lawful; one = h.is.one; left = h.is.left; tried = h.is.tried };
      later = later;
      leaves = λ told. record {
        moments = (h.is.runs told).leaves;
        ends = kept_any (says origin) says_all (Through (h.found ++ h.recorded) h.failed) (now (clock end)) (h.is.kept told false tt);
        files = opening_touches clock start (clock end) (Unopened h.found h.recorded h.failed h.rest) (beside told);
        holds = tt;
        damage = damage;
        near = h.is.near;
      };
      keeps = λ told kept rest here. record {
        moments = h.is.on told kept rest here;
        after = h.is.kept told true (record { earlier = kept; more = rest; kept = here });
        settles = tt;
      };
    }

  by_fault : (fault : OpenFault D) → SaysRefusal fault said → OpenRefuses tells clock far (says origin) start most_items at fault → NoneFell (counts start) (counts (disk_in fault)) → (tells → Besides (IsSettledName clock start) (clock start) (clock (disk_in fault)))
      → ShowsOpening (counts start) (counts (disk_in fault)) fault → RanTo (disk_in fault)
  by_fault (opens.Damaged place disk) (inl is) refuses fell beside shows =
      unread disk fell beside refuses.0 (inr (place, is)) (λ told. no_damage (clock start) (clock disk) said (verdicts.Damaged place) is (let stays = refuses.1 told in (stays.damaged.damage, stays.damaged.unchanged)))
  by_fault (opens.Damaged place disk) (inr is) refuses fell beside shows =
      unread disk fell beside refuses.0 (inl (inr is)) (λ told. no_damage (clock start) (clock disk) said verdicts.NoMemory is tt)
  by_fault (opens.Disk kind disk) is (inl none) fell beside shows = unread disk fell beside none (inl (inl (kind, shows, is))) (λ told. no_damage (clock start) (clock disk) said (verdicts.DiskFailed kind) is tt)
  by_fault (opens.Disk kind disk) is (inr h) fell beside shows = hindered disk fell beside h (inl (kind, shows, is)) (no_damage (clock start) (clock disk) said (verdicts.DiskFailed kind) is tt)
  by_fault (opens.NoMemory disk) is (inl none) fell beside shows = unread disk fell beside none (inl (inr is)) (λ told. no_damage (clock start) (clock disk) said verdicts.NoMemory is tt)
  by_fault (opens.NoMemory disk) is (inr (h, none)) fell beside shows = hindered disk fell beside h (inr is) (no_damage (clock start) (clock disk) said verdicts.NoMemory is tt)

  pub refused_runs : {T : Type 0} (end : D) (fault : OpenFault D) (result : Result T (OpenFault D)) → result ≡ Err fault → end ≡ disk_in fault → SaysRefusal fault said → OpenRefuses tells clock far (says origin) start most_items at fault
      → (tells → Besides (IsSettledName clock start) (clock start) (clock (disk_in fault))) → HasCause open_kind (counts start) (counts (disk_in fault)) result → RanTo end
  refused_runs end fault result is end_is told refuses beside cause =
      subst RanTo (sym end_is) (by_fault fault told refuses cause.later beside (opening_shows (counts start) (counts (disk_in fault)) fault result is cause))
