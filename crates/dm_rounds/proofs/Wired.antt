-- The newest round of an attempt with its connections.
use Rattle.std.proofs.Common.{◌≡◌, inl, inr, ℕ, List, [], ◌∷◌, ◌++◌, Option, refl, sym, ap, subst, Bool}
use Rattle.std.specs.List.{AllByRecursion}
use Rattle.dm_types.specs.declared.kinds.DiskKind.{DiskKind}
use Rattle.dm_types.specs.declared.slices.Slice.{Slice}
use Rattle.dm_disk_model.specs.Disk.{History as Clock}
use Rattle.dm_policy.specs.declared.cause.Cause.{Cause}
use Rattle.dm_policy.specs.declared.cause.Cause.TheVariants as causes
use Rattle.dm_slice.specs.Cover.{normal_of}
use Rattle.dm_kept.specs.Files.{Says}
use Rattle.dm_store.specs.declared.pass.Pass.{Pass}
use Rattle.dm_store.specs.View.{View}
use Rattle.dm_answers.specs.Begin.{pass_of}
use Rattle.dm_answers.specs.declared.fault.DeskFault.{DeskFault}
use Rattle.dm_answers.specs.declared.fault.DeskFault.TheVariants as faults
use Rattle.dm_attempt.specs.declared.stop.Stop.{Stop}
use Rattle.dm_attempt.specs.declared.stop.Stop.TheVariants as stops
use Rattle.dm_attempt.specs.Ending.{IsDeskCause, StopHolds}
use Rattle.dm_attempt.specs.Live.{DeskOver, IsPlanned, LiveDesk}
use Rattle.dm_attempt.specs.Scene.{Scene, begun_by, told_by}
use Rattle.dm_attempt.specs.Shows.{BeginMet, DeskDone, DeskFell, DeskMet, NoCause, ShowsClose}
use Rattle.dm_attempt.specs.Stops.{FaultLeaves}
use Rattle.dm_attempt.specs.Trace.{ArePlanned, Broken, Carried, Close, Done, IsSave, Round, Trace, WereRounds, cover_of, opened, with_saves}

-- the round with these connections
abbrev pub wired : Round → List Carried → Round
wired round wires = record round { wires = wires }

-- the trace with such a newest round
abbrev pub opened_with : Trace → Round → List Carried → Trace
opened_with older round wires = opened older (wired round wires)

module _ (start : List Slice) (total : Option ℕ) (n least : ℕ) (round : Round) (wires : List Carried) (older : List Round) where
  were_wired : (earlier : List Round) → WereRounds earlier (round ∷ older) → WereRounds earlier (wired round wires ∷ older)
  were_wired [] were = absurd were
  were_wired (was ∷ before) were = were

  wired_at : (newer rest earlier : List Round) (slices : List Slice) → round ∷ older ≡ newer ++ rest → WereRounds earlier rest → slices ≡ normal_of total (cover_of start total n least earlier)
      → IsSave start total n least (wired round wires ∷ older) slices
  wired_at [] rest earlier slices among was is = record {
    newer = [];
    rest = wired round wires ∷ older;
    among = refl;
    earlier = earlier;
    was = were_wired earlier (subst (λ (l : List Round). WereRounds earlier l) (sym among) was);
    is = is;
  }
  wired_at (first ∷ newer) rest earlier slices among was is =
      let tail : older ≡ newer ++ rest = cc in
      record { newer = wired round wires ∷ newer; rest = rest; among = ap (λ (l : List Round). wired round wires ∷ l) tail; earlier = earlier; was = was; is = is }

  saves_wired : (saves : List (List Slice)) → AllByRecursion (IsSave start total n least (round ∷ older)) saves → AllByRecursion (IsSave start total n least (wired round wires ∷ older)) saves
  saves_wired [] all = tt
  saves_wired (slices ∷ more) all = (wired_at all.0.newer all.0.rest all.0.earlier slices all.0.among all.0.was all.0.is, saves_wired more all.1)

  rounds_wired : ArePlanned start total n least (round ∷ older) → ArePlanned start total n least (wired round wires ∷ older)
  rounds_wired planned = (record { cover_is = planned.0.cover_is; parts_are = planned.0.parts_are }, planned.1)

module _ {D O : Type 0} (tells : Type 0) (clock : D → Clock) (says : O → Says) (far : D → ℕ) (counts : D → DiskKind → ℕ) (scene : Scene D O) where
  planned_wired : (round : Round) (wires : List Carried) (older : Trace) → IsPlanned scene (opened older round) → IsPlanned scene (opened_with older round wires)
  planned_wired round wires older planned = record {
    saves = saves_wired (begun_by scene).slices (told_by scene older.told).total older.count scene.start.limits.min_slice round wires older.rounds older.saves planned.saves;
    rounds = rounds_wired (begun_by scene).slices (told_by scene older.told).total older.count scene.start.limits.min_slice round wires older.rounds planned.rounds;
    placed = planned.placed;
  }

  -- it runs as well
  pub live_wired : (round : Round) (wires : List Carried) (older : Trace) (pass : Pass) (desk : View D O) → LiveDesk tells clock says far counts scene pass desk (opened older round)
      → LiveDesk tells clock says far counts scene pass desk (opened_with older round wires)
  live_wired round wires older pass desk live = record {
    goes = live.goes;
    pass_is = live.pass_is;
    runs = record {
      item = live.runs.item;
      there = live.runs.there;
      runs = live.runs.runs;
      attempt_is = live.runs.attempt_is;
      life = live.runs.life;
      lives = live.runs.lives;
      is = record { item_is = live.runs.is.item_is; cover_is = live.runs.is.cover_is; round_is = live.runs.is.round_is; plan_is = live.runs.is.plan_is };
    };
    planned = planned_wired round wires older live.planned;
    brought = live.brought;
  }

  over_wired : (round : Round) (wires : List Carried) (older : Trace) (desk : View D O) (close : Close) → DeskOver tells clock says far counts scene desk (opened older round) close
      → DeskOver tells clock says far counts scene desk (opened_with older round wires) close
  over_wired round wires older desk close over = record { goes = over.goes; planned = planned_wired round wires older over.planned }

  met_wired : (round : Round) (wires : List Carried) (older : Trace) (pass : Pass) (cause : Cause) → DeskMet tells clock says far counts scene pass (opened older round) cause → DeskMet tells clock says far counts scene pass (opened_with older round wires) cause
  met_wired round wires older pass cause met = record { desk = met.desk; live = live_wired round wires older pass met.desk met.live; is = met.is }

  done_wired : (round : Round) (wires : List Carried) (older : Trace) (pass : Pass) (digest : List ℕ) → DeskDone tells clock says far counts scene pass (opened older round) digest
      → DeskDone tells clock says far counts scene pass (opened_with older round wires) digest
  done_wired round wires older pass digest done =
      record { desk = done.desk; live = live_wired round wires older pass done.desk done.live; full = done.full; stated = done.stated; sum = done.sum }

  -- as it began there was no round
  begin_wired : (round : Round) (wires : List Carried) (older : Trace) (cause : Cause) → BeginMet tells clock scene (opened older round) cause → BeginMet tells clock scene (opened_with older round wires) cause
  begin_wired round wires older cause met = absurd (let e = met.none in cc)

  shows_wired : (came : Bool) (round : Round) (wires : List Carried) (older : Trace) (desk : View D O) (P : Cause → Type 0) (close : Close) → ShowsClose came tells clock says far counts scene desk (opened older round) P close
      → ShowsClose came tells clock says far counts scene desk (opened_with older round wires) P close
  shows_wired came round wires older desk P (Broken cause) (inl memory) = inl memory
  shows_wired came round wires older desk P (Broken cause) (inr (inl own)) = inr (inl own)
  shows_wired came round wires older desk P (Broken cause) (inr (inr (inl file))) = inr (inr (inl file))
  shows_wired came round wires older desk P (Broken cause) (inr (inr (inr (inl met)))) = inr (inr (inr (inl (met_wired round wires older (pass_of scene.item) cause met))))
  shows_wired came round wires older desk P (Broken cause) (inr (inr (inr (inr met)))) = inr (inr (inr (inr (begin_wired round wires older cause met))))
  shows_wired came round wires older desk P (Done total digest) shown = (shown.0, shown.1, done_wired round wires older (pass_of scene.item) digest shown.2)

  fell_wired : (came : Bool) (round : Round) (wires : List Carried) (older : Trace) (desk : View D O) (P : Cause → Type 0) → DeskFell came tells clock says far counts scene desk (opened older round) P → DeskFell came tells clock says far counts scene desk (opened_with older round wires) P
  fell_wired came round wires older desk P fell = record {
    after = record fell.after { rounds = wired round wires ∷ older.rounds };
    led_is = fell.led_is;
    lost_is = fell.lost_is;
    rounds_are = refl;
    told_is = fell.told_is;
    close = fell.close;
    seen = fell.seen;
    shows = shows_wired came round wires (with_saves older fell.seen) desk P fell.close fell.shows;
    recorded = fell.recorded;
    failed = fell.failed;
    rest = fell.rest;
    unpublished = fell.unpublished;
    is = fell.is;
    goes = fell.goes;
    planned = planned_wired round wires (record fell.after { rounds = older.rounds }) (subst (λ (rounds : List Round). IsPlanned scene (record fell.after { rounds = rounds })) fell.rounds_are fell.planned);
  }

  cause_wired : (round : Round) (wires : List Carried) (older : Trace) (pass : Pass) (cause : Cause) → IsDeskCause tells clock says far counts scene pass (opened older round) cause → IsDeskCause tells clock says far counts scene pass (opened_with older round wires) cause
  cause_wired round wires older pass cause (inl met) = inl (met_wired round wires older pass cause met)
  cause_wired round wires older pass cause (inr met) = inr (begin_wired round wires older cause met)

  fault_wired : (came : Bool) (round : Round) (wires : List Carried) (older : Trace) (desk : View D O) (fault : DeskFault) → FaultLeaves came tells clock says far counts scene desk (opened older round) fault → FaultLeaves came tells clock says far counts scene desk (opened_with older round wires) fault
  fault_wired came round wires older desk (faults.File kind) leaves = (leaves.0, (leaves.1.0, over_wired round wires (with_saves older leaves.1.0) desk (Broken (causes.File kind)) leaves.1.1))
  fault_wired came round wires older desk (faults.Journal kind) leaves = (leaves.0, fell_wired came round wires older desk NoCause leaves.1)
  fault_wired came round wires older desk faults.NoMemory leaves = absurd leaves
  fault_wired came round wires older desk faults.Broken leaves = absurd leaves
  fault_wired came round wires older desk (faults.NoItem id) leaves = absurd leaves
  fault_wired came round wires older desk (faults.Stale attempt turn) leaves = absurd leaves
  fault_wired came round wires older desk (faults.WrongState phase) leaves = absurd leaves
  fault_wired came round wires older desk (faults.NotNext place) leaves = absurd leaves
  fault_wired came round wires older desk (faults.PastEnd end) leaves = absurd leaves
  fault_wired came round wires older desk (faults.CheckpointDue bytes) leaves = absurd leaves
  fault_wired came round wires older desk (faults.ItemsFull count) leaves = absurd leaves
  fault_wired came round wires older desk (faults.WordTaken id) leaves = absurd leaves
  fault_wired came round wires older desk (faults.Damaged place) leaves = absurd leaves

  -- and stops so
  pub holds_wired : (came : Bool) (round : Round) (wires : List Carried) (older : Trace) (pass : Pass) (desk : View D O) (stop : Stop) → StopHolds came tells clock says far counts scene pass desk (opened older round) stop
      → StopHolds came tells clock says far counts scene pass desk (opened_with older round wires) stop
  holds_wired came round wires older pass desk (stops.Broke cause) holds = live_wired round wires older pass desk holds
  holds_wired came round wires older pass desk stops.NoMemory holds = live_wired round wires older pass desk holds
  holds_wired came round wires older pass desk (stops.Fault fault) holds = fault_wired came round wires older desk fault holds
  holds_wired came round wires older pass desk (stops.Recorded reason) holds = record {
    cause = holds.cause;
    reason_is = holds.reason_is;
    met = cause_wired round wires older pass holds.cause holds.met;
    asked = holds.asked;
    saves = holds.saves;
    over = over_wired round wires (with_saves older holds.saves) desk (Broken holds.cause) holds.over;
  }
