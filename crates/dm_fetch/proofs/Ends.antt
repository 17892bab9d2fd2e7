-- How an attempt ends, by why it stopped.
use Rattle.std.proofs.Common.{◌≡◌, ◌⊎◌, inl, inr, ℕ, List, [], refl, sym, ◌∙◌, subst, Bool, false}
use Rattle.std.proofs.lemmas.Bool.{false≢true}
use Rattle.std.proofs.lemmas.List.{append-nil}
use Rattle.dm_types.specs.declared.item.ItemId.{ItemId}
use Rattle.dm_types.specs.declared.kinds.By.{By}
use Rattle.dm_types.specs.declared.kinds.DiskKind.{DiskKind}
use Rattle.dm_types.specs.declared.reason.Reason.TheVariants as reasons
use Rattle.dm_types.specs.declared.slices.Slice.{Slice}
use Rattle.dm_disk_model.specs.Disk.{History as Clock}
use Rattle.dm_policy.specs.declared.cause.Cause.{Cause}
use Rattle.dm_policy.specs.declared.cause.Cause.TheVariants as causes
use Rattle.dm_edge.specs.Wire.{Closed}
use Rattle.dm_edge.specs.declared.fault.NetFault.{NetFault}
use Rattle.dm_kept.specs.Files.{Says}
use Rattle.dm_store.specs.View.{View}
use Rattle.dm_store.specs.declared.pass.Pass.{Pass}
use Rattle.dm_answers.specs.Begin.{pass_of}
use Rattle.dm_answers.specs.Running.{ItemWith}
use Rattle.dm_answers.specs.declared.fault.DeskFault.{DeskFault}
use Rattle.dm_answers.specs.declared.fault.DeskFault.TheVariants as faults
use Rattle.dm_attempt.specs.declared.ended.Ended.{Ended}
use Rattle.dm_attempt.specs.declared.ended.Ended.TheVariants as ended
use Rattle.dm_attempt.specs.declared.stop.Stop.{Stop}
use Rattle.dm_attempt.specs.declared.stop.Stop.TheVariants as stops
use Rattle.dm_attempt.specs.Ending.{EndsBy, FaultEnds, IfBroke, IsCauseOf, IsDeskCause, IsSavedFor}
use Rattle.dm_attempt.specs.Scene.{Scene}
use Rattle.dm_attempt.specs.Shows.{DeskFell, NoCause, ShowsClose}
use Rattle.dm_attempt.specs.Stops.{FaultLeaves}
use Rattle.dm_attempt.specs.Trace.{Broken, Close, Done, Trace, untold}
use Rattle.dm_fetch.specs.Attempts.{Attempts, EndedBy, IsMetBy, MetAtNet, TriedBy, at_desk, at_net, nothing, refused, tried}
use Rattle.dm_fetch.specs.Drive.{DriveStops}
use Rattle.dm_fetch.specs.Starts.{StartEnds, StartsFailing, StartsShort, failed, not_begun, scene_of, short}

module _ {D O : Type 0} (tells : Type 0) (clock : D → Clock) (says : O → Says) (far : D → ℕ) (counts : D → DiskKind → ℕ) where
  module _ (came : Bool) (scene : Scene D O) (new : View D O) (trace : Trace) (P Q : Cause → Type 0) (f : (cause : Cause) → P cause → Q cause) where
    shows_map : (close : Close) → ShowsClose came tells clock says far counts scene new trace P close → ShowsClose came tells clock says far counts scene new trace Q close
    shows_map (Broken cause) (inl memory) = inl memory
    shows_map (Broken cause) (inr (inl met)) = inr (inl (f cause met))
    shows_map (Broken cause) (inr (inr other)) = inr (inr other)
    shows_map (Done total digest) shows = shows

  module _ (came : Bool) (scene : Scene D O) (new : View D O) (trace : Trace) (P Q : Cause → Type 0) (f : (cause : Cause) → P cause → Q cause) where
    fell_map : DeskFell came tells clock says far counts scene new trace P → DeskFell came tells clock says far counts scene new trace Q
    fell_map fell = record {
      after = fell.after;
      led_is = fell.led_is;
      lost_is = fell.lost_is;
      rounds_are = fell.rounds_are;
      told_is = fell.told_is;
      close = fell.close;
      seen = fell.seen;
      shows = shows_map came scene new (record trace { saves = fell.seen }) P Q f fell.close fell.shows;
      recorded = fell.recorded;
      failed = fell.failed;
      rest = fell.rest;
      unpublished = fell.unpublished;
      is = fell.is;
      goes = fell.goes;
      planned = fell.planned;
    }

    fault_map : (fault : DeskFault) → FaultEnds came tells clock says far counts scene new trace P fault → FaultEnds came tells clock says far counts scene new trace Q fault
    fault_map (faults.Journal kind) ends = (ends.0, fell_map ends.1)
    fault_map (faults.File kind) ends = ends
    fault_map faults.NoMemory ends = ends
    fault_map faults.Broken ends = ends
    fault_map (faults.NoItem id) ends = ends
    fault_map (faults.WrongState phase) ends = ends
    fault_map (faults.Stale attempt round) ends = ends
    fault_map (faults.NotNext place) ends = ends
    fault_map (faults.PastEnd end) ends = ends
    fault_map (faults.CheckpointDue bytes) ends = ends
    fault_map (faults.ItemsFull count) ends = ends
    fault_map (faults.WordTaken id) ends = ends
    fault_map (faults.Damaged place) ends = ends

  module _ (scene : Scene D O) (new : View D O) (trace : Trace) (P : Cause → Type 0) where
    none_map : (cause : Cause) → NoCause cause → P cause
    none_map cause none = absurd none

    leaves_ends : (fault : DeskFault) → FaultLeaves false tells clock says far counts scene new trace fault → FaultEnds false tells clock says far counts scene new trace P fault
    leaves_ends (faults.Journal kind) leaves = (leaves.0, fell_map false scene new trace NoCause P none_map leaves.1)
    leaves_ends (faults.File kind) leaves = leaves
    leaves_ends faults.NoMemory leaves = absurd leaves
    leaves_ends faults.Broken leaves = leaves
    leaves_ends (faults.NoItem id) leaves = leaves
    leaves_ends (faults.WrongState phase) leaves = leaves
    leaves_ends (faults.Stale attempt round) leaves = leaves
    leaves_ends (faults.NotNext place) leaves = leaves
    leaves_ends (faults.PastEnd end) leaves = leaves
    leaves_ends (faults.CheckpointDue bytes) leaves = leaves
    leaves_ends (faults.ItemsFull count) leaves = leaves
    leaves_ends (faults.WordTaken id) leaves = leaves
    leaves_ends (faults.Damaged place) leaves = leaves

  module _ (net : Type 0) (scene : Scene D O) (pass : Pass) (new : View D O) (before after : NetFault → ℕ) (trace : Trace) where
    abbrev Met : Cause → Type 0
    Met cause = IsDeskCause tells clock says far counts scene pass trace cause ⊎ MetAtNet net before after scene trace cause

    cause_of : (came : Bool) (stop : Stop) → IfBroke stop (MetAtNet net before after scene trace) → (cause : Cause) → IsCauseOf came tells clock says far counts scene pass trace stop cause → Met cause
    cause_of came (stops.Broke met) shown cause of = inr (subst (MetAtNet net before after scene trace) (sym of) shown)
    cause_of came stops.NoMemory shown cause of = absurd of
    cause_of came (stops.Fault fault) shown cause of = absurd of
    cause_of came (stops.Recorded reason) shown cause of = inl of.0

    met_by : (came : Bool) (stop : Stop) → IfBroke stop (MetAtNet net before after scene trace) → (saves : List (List Slice)) (cause : Cause) → IsCauseOf came tells clock says far counts scene pass trace stop cause → IsSavedFor scene trace saves stop
        → IsMetBy came tells clock says far counts net scene pass before after trace saves cause
    met_by came (stops.Broke met) shown saves cause of saved = at_net (subst (MetAtNet net before after scene trace) (sym of) shown) saved
    met_by came stops.NoMemory shown saves cause of saved = absurd of
    met_by came (stops.Fault fault) shown saves cause of saved = absurd of
    met_by came (stops.Recorded reason) shown saves cause of saved = at_desk of.0 of.1

    pub ends_by : (came : Bool) (stop : Stop) (end : Ended) → IfBroke stop (MetAtNet net before after scene trace) → EndsBy came tells clock says far counts scene pass new trace stop end → EndedBy came tells clock says far counts net scene pass new before after trace end
    ends_by came stop ended.Complete shown ends = absurd ends
    ends_by came stop (ended.Stopped reason) shown ends = record { cause = ends.cause; reason_is = ends.reason_is; saves = ends.saves; met = met_by came stop shown ends.saves ends.cause ends.of ends.saved; over = ends.over }
    ends_by came stop (ended.Fault fault) shown ends = fault_map came scene new trace (IsCauseOf came tells clock says far counts scene pass trace stop) Met (cause_of came stop shown) fault ends

  module _ (net : Type 0) (scene : Scene D O) (pass : Pass) (old new : View D O) (closed : List Closed) (before after : NetFault → ℕ) (slices : ℕ) (stop : Stop) (left : DriveStops tells clock says far counts net scene pass old closed before after slices stop) where
    -- an attempt that stopped was ended
    pub tried_by : (end : Ended) → EndsBy left.came tells clock says far counts scene pass new left.trace stop end → TriedBy tells clock says far counts net scene pass new closed before after slices end
    tried_by ended.Complete ends = absurd ends
    tried_by (ended.Stopped reason) ends = record { trace = left.trace; asks = left.asks; closed_is = left.closed_is; came = left.came; some = left.some; all = left.all; ends = ends_by net scene pass new before after left.trace left.came stop (ended.Stopped reason) left.shown ends }
    tried_by (ended.Fault fault) ends = record { trace = left.trace; asks = left.asks; closed_is = left.closed_is; came = left.came; some = left.some; all = left.all; ends = ends_by net scene pass new before after left.trace left.came stop (ended.Fault fault) left.shown ends }

  module _ (net : Type 0) (old new : View D O) (was closed : List Closed) (before after : NetFault → ℕ) (id : ItemId) (by : By) (slices at : ℕ) (still : net → closed ≡ was) where
    short_tried : (have wanted : ℕ) → (found : ItemWith old id (StartsShort tells clock says far counts old new by at have wanted))
        → TriedBy tells clock says far counts net (scene_of old found.item by at was before) (pass_of found.item) new closed before after slices (ended.Stopped reasons.FileTooShort)
    short_tried have wanted found = record {
      trace = untold [] [] 0;
      asks = nothing (record { led = refl; lost = refl; wish = refl; told = refl; rounds = refl });
      closed_is = λ t. still t ∙ sym (append-nil was);
      came = false;
      some = λ never. absurd (false≢true never);
      all = λ never. absurd (false≢true never);
      ends = record { cause = causes.PartShort have wanted; reason_is = refl; saves = []; met = at_desk (inr (record { have = have; wanted = wanted; is = refl; short = found.is.short; untold = refl; none = refl })) tt; over = found.is.over was before };
    }

    failed_tried : (fault : DeskFault) → (found : ItemWith old id (StartsFailing tells clock says far counts old new by at fault))
        → TriedBy tells clock says far counts net (scene_of old found.item by at was before) (pass_of found.item) new closed before after slices (ended.Fault fault)
    failed_tried fault found = record {
      trace = untold [] [] 0;
      asks = nothing (record { led = refl; lost = refl; wish = refl; told = refl; rounds = refl });
      closed_is = λ t. still t ∙ sym (append-nil was);
      came = false;
      some = λ never. absurd (false≢true never);
      all = λ never. absurd (false≢true never);
      ends = leaves_ends (scene_of old found.item by at was before) new (untold [] [] 0) (Met net (scene_of old found.item by at was before) (pass_of found.item) new before after (untold [] [] 0)) fault (found.is.ends was before);
    }

    -- no attempt runs
    pub unstarted : (end : Ended) → StartEnds tells clock says far counts old new id by at end → Attempts tells clock says far counts net old new was closed before after id by slices at end
    unstarted end (not_begun fault is why) = refused fault is why still
    unstarted end (short have wanted is found) =
        subst (λ (e : Ended). Attempts tells clock says far counts net old new was closed before after id by slices at e) (sym is)
        (tried (record { item = found.item; there = found.there; is = short_tried have wanted found }))
    unstarted end (failed fault is found) =
        subst (λ (e : Ended). Attempts tells clock says far counts net old new was closed before after id by slices at e) (sym is)
        (tried (record { item = found.item; there = found.there; is = failed_tried fault found }))
