-- What an attempt does at a desk, and what several do.
use Rattle.std.proofs.Common.{◌≡◌, ◌⊎◌, inl, inr, ℕ, Bool, true, false, List, [], ◌++◌, Some, refl, sym, ◌∙◌, ap, subst, append_assoc, arith}
use Rattle.std.proofs.lemmas.Bool.{false≢true}
use Rattle.std.proofs.lemmas.List.{append-nil}
use Rattle.std.specs.List.{AllByRecursion}
use Rattle.dm_types.specs.Faults.{NoneFell, Rose}
use Rattle.dm_types.specs.declared.item.Item.{Item}
use Rattle.dm_types.specs.declared.item.ItemId.{ItemId}
use Rattle.dm_types.specs.declared.kinds.By.{By}
use Rattle.dm_types.specs.declared.kinds.DiskKind.{DiskKind}
use Rattle.dm_types.specs.declared.reason.Reason.{Reason}
use Rattle.dm_types.specs.declared.slices.Slice.{Slice}
use Rattle.dm_disk_model.specs.Disk.{History as Clock}
use Rattle.dm_edge.specs.Wire.{Closed}
use Rattle.dm_edge.specs.declared.fault.NetFault.{NetFault}
use Rattle.dm_item.specs.Lawful.{History}
use Rattle.dm_item.specs.Listing.{item_in}
use Rattle.dm_item.proofs.Undoing.{found-id}
use Rattle.dm_kept.specs.Files.{Says}
use Rattle.dm_policy.specs.Cause.{reason_of_cause}
use Rattle.dm_policy.specs.declared.cause.Cause.{Cause}
use Rattle.dm_policy.specs.declared.cause.Cause.TheVariants as causes
use Rattle.dm_store.specs.View.{View}
use Rattle.dm_store.proofs.Composing.{lawful_none}
use Rattle.dm_answers.specs.Frame.{Went}
use Rattle.dm_answers.specs.declared.fault.DeskFault.{DeskFault}
use Rattle.dm_answers.specs.declared.fault.DeskFault.TheVariants as faults
use Rattle.dm_answers.proofs.Steps.{went_then}
use Rattle.dm_attempt.specs.Ending.{IsDeskCause}
use Rattle.dm_attempt.specs.Goes.{DeskGoes}
use Rattle.dm_attempt.specs.Live.{all_entries}
use Rattle.dm_attempt.specs.Scene.{Scene}
use Rattle.dm_attempt.specs.Shows.{total_by}
use Rattle.dm_attempt.specs.Trace.{Broken, Close, Done, Trace, with_saves}
use Rattle.dm_attempt.specs.declared.ended.Ended.{Ended}
use Rattle.dm_attempt.specs.declared.ended.Ended.TheVariants as ended
use Rattle.dm_answers.specs.Begin.{pass_of}
use Rattle.dm_fetch.specs.Attempts.{Attempts, EndedBy, IsMetBy, MetAtNet, at_desk, at_net, refused, tried, wanting}
use Rattle.dm_fetch.specs.Fetches.{Fetches, again, once}
use Rattle.dm_fetch.specs.Starts.{BeginRefuses, scene_of}
use Rattle.dm_does.specs.Answering.{IsCounted, IsOfAttempt}
use Rattle.dm_does.specs.World.{World}
use Rattle.dm_does.proofs.Counted.{attempt_wider}
use Rattle.dm_does.proofs.Sweeping.{rose_wider}
use Rattle.dm_brings.specs.Bringing.{world_of}
use Rattle.dm_brings.proofs.Shown.{shown_counted}
use Rattle.dm_brings.proofs.Counts.{ClosesCounted, all_append, all_front, all_wider, close_counted, desk_counted, entries_of, file_counted}

-- nothing was recorded where nothing changed
went_none : {D O : Type 0} (desk : View D O) → desk.broken ≡ false → desk.failed ≡ [] → Went desk desk [] [] false
went_none desk whole none = record {
  whole = whole;
  items_are = refl;
  list_is = sym (append-nil desk.list);
  lawful = lawful_none desk.items;
  gate_is = omega arith;
  failed_is = none;
  may = tt;
  broken_is = whole;
  origin = refl;
  limits = refl;
}

-- the same id
same_id : (a b : ItemId) → a.0 ≡ b.0 → a ≡ b
same_id a b same = ap (λ (n : ℕ). (let id : ItemId = record { 0 = n } in id)) same

-- The desk is broken just where an answer says that the journal failed, of a kind that was counted.
abbrev pub BrokeBy : (DiskKind → ℕ) → (DiskKind → ℕ) → Ended → History → Bool → Type 0
BrokeBy before after (ended.Fault (faults.Journal kind)) failed broken = (broken ≡ true) × Rose (before kind) (after kind)
BrokeBy before after end failed broken = (failed ≡ []) × (broken ≡ false)

module _ {D O : Type 0} (tells : Type 0) (clock : D → Clock) (says : O → Says) (far : D → ℕ) (counts : D → DiskKind → ℕ) (net : Type 0) (id : ItemId) (slices at : ℕ) where
  -- What one attempt or several did between two desks and two states of the net: entries of attempts on the item were recorded, and one more failed where the journal did.
  pub record Stepped (old new : View D O) (was closed : List Closed) (before after : NetFault → ℕ) (end : Ended) : Type 0 where
    pub recorded : History
    pub failed : History
    pub broken : Bool
    pub went : Went old new recorded failed broken
    pub disk_later : NoneFell (counts old.disk) (counts new.disk)
    pub net_later : NoneFell before after
    pub only : AllByRecursion (IsOfAttempt (world_of clock counts old was before) (world_of clock counts new closed after) id at) (recorded ++ failed)
    pub by : BrokeBy (counts old.disk) (counts new.disk) end failed broken

  -- by a value of what it answered
  ends_none : (old : View D O) (was closed : List Closed) (before after : NetFault → ℕ) (fault : DeskFault) → old.broken ≡ false → old.failed ≡ [] → NoneFell before after → (failed : BrokeBy (counts old.disk) (counts old.disk) (ended.Fault fault) [] false)
      → Stepped old old was closed before after (ended.Fault fault)
  ends_none old was closed before after fault whole none later by = record {
    recorded = [];
    failed = [];
    broken = false;
    went = went_none old whole none;
    disk_later = λ kind. omega arith;
    net_later = later;
    only = tt;
    by = by;
  }

  -- where nothing changed
  at_rest : (old new : View D O) (was closed : List Closed) (before after : NetFault → ℕ) (end : Ended) (fault : DeskFault) → end ≡ ended.Fault fault → new ≡ old → old.broken ≡ false → old.failed ≡ [] → NoneFell before after
      → BrokeBy (counts old.disk) (counts old.disk) (ended.Fault fault) [] false → Stepped old new was closed before after end
  at_rest old new was closed before after end fault end_is same whole none later by =
      subst (λ (e : Ended). Stepped old new was closed before after e) (sym end_is)
      (subst (λ (v : View D O). Stepped old v was closed before after (ended.Fault fault)) (sym same) (ends_none old was closed before after fault whole none later by))

  at_refusal : (old new : View D O) (was closed : List Closed) (before after : NetFault → ℕ) (by : By) (end : Ended) (fault : DeskFault) → end ≡ ended.Fault fault → BeginRefuses tells clock counts old new id by at fault → old.broken ≡ false → old.failed ≡ []
      → NoneFell before after → Stepped old new was closed before after end
  at_refusal old new was closed before after by end faults.Broken end_is refuses whole none later = absurd (false≢true (sym whole ∙ refuses.broken))
  at_refusal old new was closed before after by end (faults.NoItem other) end_is refuses whole none later = at_rest old new was closed before after end (faults.NoItem other) end_is refuses.same whole none later (refl, refl)
  at_refusal old new was closed before after by end (faults.WrongState phase) end_is refuses whole none later = at_rest old new was closed before after end (faults.WrongState phase) end_is refuses.same whole none later (refl, refl)
  at_refusal old new was closed before after by end faults.NoMemory end_is refuses whole none later = at_rest old new was closed before after end faults.NoMemory end_is refuses.same whole none later (refl, refl)
  at_refusal old new was closed before after by end fault end_is refuses whole none later = absurd refuses

  module _ (old new : View D O) (was closed : List Closed) (before after : NetFault → ℕ) (by : By) (item : Item) (there : item_in id.0 old.items.items ≡ Some item) (later : NoneFell before after) where
    abbrev scene : Scene D O
    scene = scene_of old item by at was before

    abbrev from : World
    from = world_of clock counts old was before

    abbrev to : World
    to = world_of clock counts new closed after

    its_id : item.id ≡ id
    its_id = same_id item.id id (found-id id.0 old.items.items item there)

    of_attempt : (trace : Trace) (close : Close) → ClosesCounted from to close → AllByRecursion (IsOfAttempt from to id at) (all_entries scene trace close)
    of_attempt trace close counted = entries_of from to id at scene trace close its_id refl counted

    over : (spared : List ℕ → Type 0) (trace : Trace) (close : Close) (end : Ended) → ClosesCounted from to close → DeskGoes tells clock says far counts spared old new (all_entries scene trace close) [] false
        → BrokeBy (counts old.disk) (counts new.disk) end [] false → Stepped old new was closed before after end
    over spared trace close end counted goes ends = record {
      recorded = all_entries scene trace close;
      failed = [];
      broken = false;
      went = goes.went;
      disk_later = goes.later;
      net_later = later;
      only = subst (AllByRecursion (IsOfAttempt from to id at)) (sym (append-nil (all_entries scene trace close))) (of_attempt trace close counted);
      by = ends;
    }

    fell : (spared : List ℕ → Type 0) (trace : Trace) (close : Close) (recorded failed rest : History) (kind : DiskKind) → ClosesCounted from to close → all_entries scene trace close ≡ (recorded ++ failed) ++ rest
        → DeskGoes tells clock says far counts spared old new recorded failed true → Rose (counts old.disk kind) (counts new.disk kind) → Stepped old new was closed before after (ended.Fault (faults.Journal kind))
    fell spared trace close recorded failed rest kind counted is goes rose = record {
      recorded = recorded;
      failed = failed;
      broken = true;
      went = goes.went;
      disk_later = goes.later;
      net_later = later;
      only = all_front (IsOfAttempt from to id at) (recorded ++ failed) rest (subst (AllByRecursion (IsOfAttempt from to id at)) is (of_attempt trace close counted));
      by = (refl, rose);
    }

    module _ (shown : (trace : Trace) (cause : Cause) → MetAtNet net before after scene trace cause → IsCounted from to (reason_of_cause cause)) where
      met_counted : (came : Bool) (trace : Trace) (saves : List (List Slice)) (cause : Cause) → IsMetBy came tells clock says far counts net scene (pass_of item) before after trace saves cause → IsCounted from to (reason_of_cause cause)
      met_counted came trace saves cause (at_desk met asked) = desk_counted from to tells clock says far counts scene (pass_of item) trace cause met
      met_counted came trace saves cause (at_net met saved) = shown trace cause met

      abbrev Known : Trace → Cause → Type 0
      Known trace cause = IsDeskCause tells clock says far counts scene (pass_of item) trace cause ⊎ MetAtNet net before after scene trace cause

      known_counted : (trace : Trace) (cause : Cause) → Known trace cause → IsCounted from to (reason_of_cause cause)
      known_counted trace cause (inl met) = desk_counted from to tells clock says far counts scene (pass_of item) trace cause met
      known_counted trace cause (inr met) = shown trace cause met

      by_end : (came : Bool) (trace : Trace) (end : Ended) → EndedBy came tells clock says far counts net scene (pass_of item) new before after trace end → Stepped old new was closed before after end
      by_end came trace ended.Complete ends = over _ (with_saves trace ends.saves) (Done (total_by scene trace) ends.digest) ended.Complete tt ends.over.goes (refl, refl)
      by_end came trace (ended.Stopped reason) ends = over _ (with_saves trace ends.saves) (Broken ends.cause) (ended.Stopped reason) (met_counted came trace ends.saves ends.cause ends.met) ends.over.goes (refl, refl)
      by_end came trace (ended.Fault faults.NoMemory) ends = over _ (with_saves trace ends.0) (Broken causes.Memory) (ended.Fault faults.NoMemory) tt ends.1.goes (refl, refl)
      by_end came trace (ended.Fault (faults.File kind)) ends = over _ (with_saves trace ends.1.0) (Broken (causes.File kind)) (ended.Fault (faults.File kind)) (file_counted from to kind ends.0) ends.1.1.goes (refl, refl)
      by_end came trace (ended.Fault (faults.Journal kind)) ends =
          fell _ ends.1.after ends.1.close ends.1.recorded ends.1.failed ends.1.rest kind
          (close_counted from to came tells clock says far counts scene new (with_saves trace ends.1.seen) (Known trace) ends.1.close refl refl (known_counted trace) ends.1.shows)
          ends.1.is ends.1.goes ends.0
      by_end came trace (ended.Fault fault) ends = absurd ends

  pub attempt_step : (old new : View D O) (was closed : List Closed) (before after : NetFault → ℕ) (by : By) (end : Ended) → old.broken ≡ false → old.failed ≡ [] → NoneFell before after
      → Attempts tells clock says far counts net old new was closed before after id by slices at end → Stepped old new was closed before after end
  attempt_step old new was closed before after by end whole none later (wanting end_is same closed_is) = at_rest old new was closed before after end faults.NoMemory end_is same whole none later (refl, refl)
  attempt_step old new was closed before after by end whole none later (refused fault end_is refuses closed_is) = at_refusal old new was closed before after by end fault end_is refuses whole none later
  attempt_step old new was closed before after by end whole none later (tried with_item) =
      by_end old new was closed before after by with_item.item with_item.there later
      (shown_counted (world_of clock counts old was before) (world_of clock counts new closed after) net (scene_of old with_item.item by at was before)) with_item.is.came with_item.is.trace end with_item.is.ends

  module _ (old mid new : View D O) (was between closed : List Closed) (before amid after : NetFault → ℕ) where
    abbrev start : World
    start = world_of clock counts old was before

    abbrev middle : World
    middle = world_of clock counts mid between amid

    abbrev last : World
    last = world_of clock counts new closed after

    rose_before : (e : Ended) (failed : History) (broken : Bool) → NoneFell (counts old.disk) (counts mid.disk) → BrokeBy (counts mid.disk) (counts new.disk) e failed broken → BrokeBy (counts old.disk) (counts new.disk) e failed broken
    rose_before (ended.Fault (faults.Journal kind)) failed broken later is =
        (is.0, rose_wider (counts old.disk kind) (counts mid.disk kind) (counts new.disk kind) (counts new.disk kind) (later kind) is.1 (omega arith))
    rose_before e failed broken later is = is

    -- one step, and then others
    then_step : (reason : Reason) (end : Ended) → Stepped old mid was between before amid (ended.Stopped reason) → Stepped mid new between closed amid after end → Stepped old new was closed before after end
    then_step reason end one two = record {
      recorded = one.recorded ++ two.recorded;
      failed = two.failed;
      broken = two.broken;
      went = went_then old mid new one.recorded two.recorded two.failed two.broken
          (subst (λ (b : Bool). Went old mid one.recorded [] b) one.by.1 (subst (λ (h : History). Went old mid one.recorded h one.broken) one.by.0 one.went)) two.went;
      disk_later = λ kind. let a = one.disk_later kind in let b = two.disk_later kind in omega (arith, a, b);
      net_later = λ kind. let a = one.net_later kind in let b = two.net_later kind in omega (arith, a, b);
      only =
          subst (AllByRecursion (IsOfAttempt start last id at)) (sym (append_assoc one.recorded two.recorded two.failed))
          (all_append (IsOfAttempt start last id at) one.recorded (two.recorded ++ two.failed)
          (all_wider (IsOfAttempt start middle id at) (IsOfAttempt start last id at) one.recorded (attempt_wider start start middle last (λ kind. omega arith) (λ kind. omega arith) two.disk_later two.net_later id at)
          (all_front (IsOfAttempt start middle id at) one.recorded one.failed one.only))
          (all_wider (IsOfAttempt middle last id at) (IsOfAttempt start last id at) (two.recorded ++ two.failed) (attempt_wider start middle last last one.disk_later one.net_later (λ kind. omega arith) (λ kind. omega arith) id at) two.only));
      by = rose_before end two.failed two.broken one.disk_later two.by;
    }

  -- all attempts of a fetch
  pub fetch_step : (new : View D O) (now : List Closed) (after : NetFault → ℕ) (end : Ended) (old : View D O) (was : List Closed) (before : NetFault → ℕ) (by : By) (more : ℕ) → old.broken ≡ false → old.failed ≡ []
      → Fetches tells clock says far counts net id slices at new now after end old was before by more → Stepped old new was now before after end
  fetch_step new now after end old was before by more whole none (once _ _ _ _ did later no_more) = attempt_step old new was now before after by end whole none later did
  fetch_step new now after end old was before by _ whole none (again _ _ _ _ mid between amid reason more did later goes rest) =
      let one = attempt_step old mid was between before amid by (ended.Stopped reason) whole none later did in
      then_step old mid new was between now before amid after reason end one
      (fetch_step new now after end mid between amid _ more (one.went.broken_is ∙ one.by.1) (one.went.failed_is ∙ one.by.0) rest)
