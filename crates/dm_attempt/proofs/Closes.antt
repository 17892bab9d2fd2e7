-- How the driver ends an attempt.
use Rattle.std.proofs.Common.{◌≡◌, ◌≢◌, ◌⊎◌, inl, inr, ℕ, Bool, IsTrue, List, [], ◌∷◌, ◌++◌, Result, Ok, Err, refl, sym, ◌∙◌, ap, subst}
use Rattle.std.specs.Prelude.{IfSome}
use Rattle.std.proofs.lemmas.List.{append-nil}
use Rattle.dm_types.specs.Faults.{Rose}
use Rattle.dm_types.specs.Name.{IsPart}
use Rattle.dm_types.specs.declared.entry.Entry.TheVariants as entries
use Rattle.dm_types.specs.declared.item.Item.{Item}
use Rattle.dm_types.specs.declared.item.ItemId.{ItemId}
use Rattle.dm_types.specs.declared.kinds.DiskKind.{DiskKind}
use Rattle.dm_types.specs.declared.reason.Reason.{Reason}
use Rattle.dm_types.specs.declared.slices.Slice.{Slice}
use Rattle.dm_disk_model.specs.Disk.{History as Clock}
use Rattle.dm_policy.specs.Cause.{reason_of_cause}
use Rattle.dm_policy.specs.declared.cause.Cause.{Cause}
use Rattle.dm_policy.specs.declared.cause.Cause.TheVariants as causes
use Rattle.dm_slice.specs.Cover.{SamePlaces}
use Rattle.dm_kept.specs.Files.{Says}
use Rattle.dm_store.specs.Becomes.{Fell}
use Rattle.dm_store.specs.Keeps.{IsDesk}
use Rattle.dm_store.specs.View.{View}
use Rattle.dm_store.specs.declared.life.Life.{Life}
use Rattle.dm_store.specs.declared.pass.Pass.{Pass}
use Rattle.dm_answers.proofs.Hard.{hard_broke}
use Rattle.dm_answers.proofs.Live.{one_life, weaker}
use Rattle.dm_answers.specs.Broke.{BrokeAnswers, IsUnderWay, broke_by}
use Rattle.dm_answers.specs.Faults.{IsOfJournal, desk_kind}
use Rattle.dm_answers.specs.Running.{RunsWith}
use Rattle.dm_answers.specs.declared.fault.DeskFault.{DeskFault}
use Rattle.dm_answers.specs.declared.fault.DeskFault.TheVariants as faults
use Rattle.dm_attempt.specs.declared.ended.Ended.{Ended}
use Rattle.dm_attempt.specs.declared.ended.Ended.TheVariants as ended
use Rattle.dm_attempt.specs.declared.stop.Stop.{Stop}
use Rattle.dm_attempt.specs.declared.stop.Stop.TheVariants as stops
use Rattle.dm_attempt.specs.Ending.{EndsBy, FaultEnds, RecordedBy}
use Rattle.dm_attempt.specs.Goes.{CallGoes}
use Rattle.dm_attempt.specs.Live.{DeskOver, IsTraced, LiveDesk, NothingUnsaved}
use Rattle.dm_attempt.specs.Scene.{Scene, cover_by, item_by}
use Rattle.dm_attempt.specs.Shows.{DeskFell, NoCause, ShowsClose}
use Rattle.dm_attempt.specs.Stops.{FaultLeaves, Refused}
use Rattle.dm_attempt.specs.Trace.{Broken, Close, Done, Trace, so_far, with_saves}
use Rattle.dm_attempt.proofs.Rounds.{life_is}
use Rattle.dm_attempt.proofs.Steps.{fell_at, over_by, own_id, rose_later, so_closed}

by_journal : (P : DeskFault → Type 0) → ((kind : DiskKind) → P (faults.Journal kind)) → (fault : DeskFault) → IsOfJournal fault → P fault
by_journal P journal (faults.Journal kind) is = journal kind
by_journal P journal faults.Broken is = absurd is
by_journal P journal (faults.NoItem id) is = absurd is
by_journal P journal (faults.Stale attempt round) is = absurd is
by_journal P journal (faults.WrongState phase) is = absurd is
by_journal P journal (faults.NotNext place) is = absurd is
by_journal P journal (faults.PastEnd end) is = absurd is
by_journal P journal (faults.CheckpointDue bytes) is = absurd is
by_journal P journal (faults.ItemsFull count) is = absurd is
by_journal P journal (faults.WordTaken id) is = absurd is
by_journal P journal (faults.File kind) is = absurd is
by_journal P journal faults.NoMemory is = absurd is
by_journal P journal (faults.Damaged place) is = absurd is

module _ {D O : Type 0} (tells : Type 0) (clock : D → Clock) (says : O → Says) (far : D → ℕ) (counts : D → DiskKind → ℕ) (scene : Scene D O) (pass : Pass) where
  shows_wider : (was came : Bool) → (IsTrue was → IsTrue came) → (present : View D O) (trace : Trace) (P : Cause → Type 0) (close : Close) → ShowsClose was tells clock says far counts scene present trace NoCause close → ShowsClose came tells clock says far counts scene present trace P close
  shows_wider was came up present trace P (Broken cause) (inl memory) = inl memory
  shows_wider was came up present trace P (Broken cause) (inr (inl none)) = absurd none
  shows_wider was came up present trace P (Broken cause) (inr (inr shown)) = inr (inr shown)
  shows_wider was came up present trace P (Done total digest) shown = (up shown.0, shown.1, shown.2)

  fell_wider : (was came : Bool) → (IsTrue was → IsTrue came) → (present : View D O) (trace : Trace) (P : Cause → Type 0) → DeskFell was tells clock says far counts scene present trace NoCause → DeskFell came tells clock says far counts scene present trace P
  fell_wider was came up present trace P fell = record {
    after = fell.after;
    led_is = fell.led_is;
    lost_is = fell.lost_is;
    rounds_are = fell.rounds_are;
    told_is = fell.told_is;
    close = fell.close;
    seen = fell.seen;
    shows = shows_wider was came up present (with_saves trace fell.seen) P fell.close fell.shows;
    recorded = fell.recorded;
    failed = fell.failed;
    rest = fell.rest;
    unpublished = fell.unpublished;
    is = fell.is;
    goes = fell.goes;
    planned = fell.planned;
  }

  pub fault_ends : (was came : Bool) → (IsTrue was → IsTrue came) → (present : View D O) (trace : Trace) (P : Cause → Type 0) (fault : DeskFault) → FaultLeaves was tells clock says far counts scene present trace fault → FaultEnds came tells clock says far counts scene present trace P fault
  fault_ends was came up present trace P faults.Broken leaves = leaves
  fault_ends was came up present trace P (faults.NoItem id) leaves = leaves
  fault_ends was came up present trace P (faults.Stale attempt round) leaves = leaves
  fault_ends was came up present trace P (faults.WrongState phase) leaves = leaves
  fault_ends was came up present trace P (faults.NotNext place) leaves = leaves
  fault_ends was came up present trace P (faults.PastEnd end) leaves = leaves
  fault_ends was came up present trace P (faults.CheckpointDue bytes) leaves = leaves
  fault_ends was came up present trace P (faults.ItemsFull count) leaves = leaves
  fault_ends was came up present trace P (faults.WordTaken id) leaves = leaves
  fault_ends was came up present trace P (faults.File kind) leaves = leaves
  fault_ends was came up present trace P (faults.Journal kind) leaves = (leaves.0, fell_wider was came up present trace P leaves.1)
  fault_ends was came up present trace P faults.NoMemory leaves = absurd leaves
  fault_ends was came up present trace P (faults.Damaged place) leaves = leaves

  fell_later : (came : Bool) (present : View D O) (trace : Trace) (saves : List (List Slice)) (P : Cause → Type 0) → DeskFell came tells clock says far counts scene present (with_saves trace saves) P → DeskFell came tells clock says far counts scene present trace P
  fell_later came present trace saves P fell = record {
    after = fell.after;
    led_is = fell.led_is;
    lost_is = fell.lost_is;
    rounds_are = fell.rounds_are;
    told_is = fell.told_is;
    close = fell.close;
    seen = fell.seen;
    shows = fell.shows;
    recorded = fell.recorded;
    failed = fell.failed;
    rest = fell.rest;
    unpublished = fell.unpublished;
    is = fell.is;
    goes = fell.goes;
    planned = fell.planned;
  }

  fault_later : (came : Bool) (present : View D O) (trace : Trace) (saves : List (List Slice)) (P : Cause → Type 0) (fault : DeskFault) → FaultEnds came tells clock says far counts scene present (with_saves trace saves) P fault → FaultEnds came tells clock says far counts scene present trace P fault
  fault_later came present trace saves P faults.Broken ends = ends
  fault_later came present trace saves P (faults.NoItem id) ends = ends
  fault_later came present trace saves P (faults.Stale attempt round) ends = ends
  fault_later came present trace saves P (faults.WrongState phase) ends = ends
  fault_later came present trace saves P (faults.NotNext place) ends = ends
  fault_later came present trace saves P (faults.PastEnd end) ends = ends
  fault_later came present trace saves P (faults.CheckpointDue bytes) ends = ends
  fault_later came present trace saves P (faults.ItemsFull count) ends = ends
  fault_later came present trace saves P (faults.WordTaken id) ends = ends
  fault_later came present trace saves P (faults.File kind) ends = ends
  fault_later came present trace saves P (faults.Journal kind) ends = (ends.0, fell_later came present trace saves P ends.1)
  fault_later came present trace saves P faults.NoMemory ends = ends
  fault_later came present trace saves P (faults.Damaged place) ends = ends

  fault_wider : (came : Bool) (present : View D O) (trace : Trace) (P : Cause → Type 0) (fault : DeskFault) → FaultEnds came tells clock says far counts scene present trace NoCause fault → FaultEnds came tells clock says far counts scene present trace P fault
  fault_wider came present trace P faults.Broken ends = ends
  fault_wider came present trace P (faults.NoItem id) ends = ends
  fault_wider came present trace P (faults.Stale attempt round) ends = ends
  fault_wider came present trace P (faults.WrongState phase) ends = ends
  fault_wider came present trace P (faults.NotNext place) ends = ends
  fault_wider came present trace P (faults.PastEnd end) ends = ends
  fault_wider came present trace P (faults.CheckpointDue bytes) ends = ends
  fault_wider came present trace P (faults.ItemsFull count) ends = ends
  fault_wider came present trace P (faults.WordTaken id) ends = ends
  fault_wider came present trace P (faults.File kind) ends = ends
  fault_wider came present trace P (faults.Journal kind) ends = (ends.0, fell_wider came came (λ t. t) present trace P ends.1)
  fault_wider came present trace P faults.NoMemory ends = ends
  fault_wider came present trace P (faults.Damaged place) ends = ends

  -- what was saved before the end counts too
  pub ends_later : (came : Bool) (present : View D O) (trace : Trace) (saves : List (List Slice)) (cause : Cause) (end : Ended) → EndsBy came tells clock says far counts scene pass present (with_saves trace saves) (stops.Broke cause) end
      → EndsBy came tells clock says far counts scene pass present trace (stops.Broke cause) end
  ends_later came present trace saves cause ended.Complete ends = ends
  ends_later came present trace saves cause (ended.Stopped reason) ends = record { cause = ends.cause; reason_is = ends.reason_is; of = ends.of; saves = ends.saves; saved = ends.saved; over = ends.over }
  ends_later came present trace saves cause (ended.Fault fault) ends = fault_later came present trace saves (λ c. c ≡ cause) fault ends

  -- a save that was refused ends it in place of the cause
  pub ends_refused : (came : Bool) (before present : View D O) (trace : Trace) (cause : Cause) (stop : Stop) (end : Ended) → Refused tells clock says far counts scene pass before trace stop
      → EndsBy came tells clock says far counts scene pass present trace stop end → EndsBy came tells clock says far counts scene pass present trace (stops.Broke cause) end
  ends_refused came before present trace cause (stops.Broke met) end refused ends = absurd refused
  ends_refused came before present trace cause (stops.Recorded reason) end refused ends = absurd refused
  ends_refused came before present trace cause stops.NoMemory ended.Complete refused ends = ends
  ends_refused came before present trace cause stops.NoMemory (ended.Stopped reason) refused ends = absurd ends.of
  ends_refused came before present trace cause stops.NoMemory (ended.Fault fault) refused ends = fault_wider came present trace (λ c. c ≡ cause) fault ends
  ends_refused came before present trace cause (stops.Fault met) ended.Complete refused ends = ends
  ends_refused came before present trace cause (stops.Fault met) (ended.Stopped reason) refused ends = absurd ends.of
  ends_refused came before present trace cause (stops.Fault met) (ended.Fault fault) refused ends = fault_wider came present trace (λ c. c ≡ cause) fault ends

  pub recorded_ends : (came : Bool) (present : View D O) (trace : Trace) (reason : Reason) → RecordedBy came tells clock says far counts scene pass present trace reason → EndsBy came tells clock says far counts scene pass present trace (stops.Recorded reason) (ended.Stopped reason)
  recorded_ends came present trace reason by = record { cause = by.cause; reason_is = by.reason_is; of = (by.met, by.asked); saves = by.saves; saved = tt; over = by.over }

  module _ (old new : View D O) (call : CallGoes tells clock says far counts IsPart old new) (trace : Trace) (live : LiveDesk tells clock says far counts scene pass old trace) (cause : Cause) where
    pub broke_over : BrokeAnswers old new pass cause (Ok tt) → DeskOver tells clock says far counts scene new trace (Broken cause)
    broke_over answer = over_by tells clock says far counts scene pass old new call trace cause live answer.1

    module _ (came : Bool) (P : Cause → Type 0) (shows : ShowsClose came tells clock says far counts scene new trace P (Broken cause)) where
      fell_broke : Fell old new (broke_by pass cause ∷ []) → DeskFell came tells clock says far counts scene new trace P
      fell_broke fell =
          let entry = entries.Broke scene.item.id (reason_of_cause cause) in
          fell_at tells clock says far counts scene pass old new call came P trace trace (Broken cause) (entry ∷ []) [] refl refl refl (inr refl) live live.planned
          (subst (λ (i : ItemId). Fell old new (entries.Broke i (reason_of_cause cause) ∷ [])) (own_id tells clock says far counts scene pass old trace live) fell)
          (append-nil (so_far scene.item.id trace ++ entry ∷ []) ∙ so_closed scene.item.id scene.at trace (Broken cause)) shows

      pub broke_fault : (fault : DeskFault) → BrokeAnswers old new pass cause (Err fault) → IfSome (desk_kind fault) (λ kind. Rose (counts old.disk kind) (counts new.disk kind)) → FaultEnds came tells clock says far counts scene new trace P fault
      broke_fault fault answer rose =
          by_journal (λ (f : DeskFault). BrokeAnswers old new pass cause (Err f) → IfSome (desk_kind f) (λ kind. Rose (counts old.disk kind) (counts new.disk kind)) → FaultEnds came tells clock says far counts scene new trace P f)
          (λ kind found up. (rose_later (counts scene.start.disk kind) (counts old.disk kind) (counts new.disk kind) (live.goes.later kind) up, fell_broke found.1))
          fault (hard_broke old new pass cause fault live.goes.went.broken_is (weaker old pass.id pass.attempt (IsTraced scene trace) IsUnderWay (λ item life is. tt) live.runs) answer) answer rose

    -- where nothing is unsaved, what is saved is what was landed
    pub all_saved : IsDesk tells clock old → NothingUnsaved old pass → SamePlaces (cover_by scene trace) (item_by scene trace).slices
    all_saved desk none =
        let is = life_is tells clock old pass (IsTraced scene trace) desk live.goes.went.broken_is live.runs in
        let same : live.runs.life.unsaved ≡ 0 = ap (λ (l : Life). l.unsaved) (one_life old pass.id pass.attempt (IsTraced scene trace) (λ item life. life.unsaved ≡ 0) live.runs none) ∙ none.is in
        subst (λ (i : Item). SamePlaces (cover_by scene trace) i.slices) live.runs.is.item_is
        (subst (λ (c : List Slice). SamePlaces c live.runs.item.slices) live.runs.is.cover_is (is.same same))
