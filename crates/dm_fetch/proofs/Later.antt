-- No count of the disk falls over an attempt, or over all that an item makes; and the connections of the first are among those of all.
use Rattle.std.proofs.Common.{◌≡◌, ◌⊎◌, inl, inr, ◌≤◌, ℕ, List, [], ◌∷◌, ◌++◌, Option, Some, None, refl, sym, ◌∙◌, ap, subst, arith, append_assoc, Bool}
use Rattle.std.specs.Prelude.{IfSome}
use Rattle.std.specs.List.{Contains}
use Rattle.std.proofs.lemmas.List.{append-nil}
use Rattle.std.proofs.lemmas.List.Elements.{Contains-append_left}
use Rattle.dm_types.specs.Faults.{NoneFell, NoneRose}
use Rattle.dm_types.specs.declared.entry.Entry.TheVariants as entries
use Rattle.dm_types.specs.declared.item.Item.{Item}
use Rattle.dm_types.specs.declared.item.ItemId.{ItemId}
use Rattle.dm_types.specs.declared.item.Key.{Key}
use Rattle.dm_types.specs.declared.item.Key.TheVariants.{Strong}
use Rattle.dm_types.specs.declared.kinds.By.{By}
use Rattle.dm_types.specs.declared.kinds.By.TheVariants.{Itself}
use Rattle.dm_types.specs.declared.kinds.DiskKind.{DiskKind}
use Rattle.dm_types.specs.declared.reason.Reason.{Reason}
use Rattle.dm_disk_model.specs.Disk.{History as Clock, IsSoundDisk}
use Rattle.dm_policy.specs.declared.cause.Cause.{Cause}
use Rattle.dm_edge.specs.Wire.{Closed}
use Rattle.dm_edge.specs.declared.fault.NetFault.{NetFault}
use Rattle.dm_edge.specs.declared.wanted.Wanted.{Wanted}
use Rattle.dm_edge.specs.declared.wanted.Wanted.TheVariants as wants
use Rattle.dm_item.specs.Lawful.{History}
use Rattle.dm_kept.specs.Files.{Says}
use Rattle.dm_store.specs.View.{View}
use Rattle.dm_store.specs.declared.pass.Pass.{Pass}
use Rattle.dm_answers.specs.Begin.{pass_of}
use Rattle.dm_answers.specs.declared.fault.DeskFault.{DeskFault}
use Rattle.dm_answers.specs.declared.fault.DeskFault.TheVariants as faults
use Rattle.dm_attempt.specs.declared.ended.Ended.{Ended}
use Rattle.dm_attempt.specs.declared.ended.Ended.TheVariants as ended
use Rattle.dm_attempt.specs.Ending.{FaultEnds, IsDeskCause}
use Rattle.dm_attempt.specs.Scene.{Scene}
use Rattle.dm_attempt.specs.Trace.{Trace, connections_of}
use Rattle.dm_fetch.specs.Attempts.{Attempts, EndedBy, MetAtNet, refused, tried, wanting}
use Rattle.dm_fetch.specs.Completes.{CompletesAtOnce, CompletesOr, IsOneContent, IsSmooth}
use Rattle.dm_fetch.specs.Known.{IsKnownOf, OfKnown, kept, told}
use Rattle.dm_fetch.specs.Fetches.{Fetches, again, once}
use Rattle.dm_fetch.specs.Serves.{IsRowOf, ServesWhole}
use Rattle.dm_fetch.specs.Starts.{BeginRefuses, scene_of}
use Rattle.dm_fetch.proofs.Smooth.{completes_or}

-- no count of the disk fell, and the list has perhaps more entries
abbrev pub GoesBehind : {D O : Type 0} → (D → DiskKind → ℕ) → View D O → View D O → Type 0
GoesBehind counts old new = NoneFell (counts old.disk) (counts new.disk) × ((more : History) × (new.list ≡ old.list ++ more))

same_counts : {D O : Type 0} (counts : D → DiskKind → ℕ) (old new : View D O) → new ≡ old → GoesBehind counts old new
same_counts {D} {O} counts old new same = (
  λ kind. let e = ap (λ (v : View D O). counts v.disk kind) same in omega (arith, e),
  ([], ap (λ (v : View D O). v.list) same ∙ sym (append-nil old.list)),
)

module _ {D O : Type 0} (tells : Type 0) (clock : D → Clock) (says : O → Says) (far : D → ℕ) (counts : D → DiskKind → ℕ) (net : Type 0) (old new : View D O) (was closed : List Closed) (before after : NetFault → ℕ) (id : ItemId) (by : By) (slices at : ℕ) where
  abbrev Later : Type 0
  Later = GoesBehind counts old new

  fault_later : (came : Bool) (scene : Scene D O) (trace : Trace) (P : Cause → Type 0) (fault : DeskFault) → scene.start ≡ old → FaultEnds came tells clock says far counts scene new trace P fault → Later
  fault_later came scene trace P (faults.File kind) same ends = subst (λ (v : View D O). GoesBehind counts v new) same (ends.1.1.goes.later, (_, ends.1.1.goes.went.list_is))
  fault_later came scene trace P (faults.Journal kind) same ends = subst (λ (v : View D O). GoesBehind counts v new) same (ends.1.goes.later, (_, ends.1.goes.went.list_is))
  fault_later came scene trace P faults.NoMemory same ends = subst (λ (v : View D O). GoesBehind counts v new) same (ends.1.goes.later, (_, ends.1.goes.went.list_is))
  fault_later came scene trace P faults.Broken same ends = absurd ends
  fault_later came scene trace P (faults.NoItem other) same ends = absurd ends
  fault_later came scene trace P (faults.WrongState phase) same ends = absurd ends
  fault_later came scene trace P (faults.Stale attempt round) same ends = absurd ends
  fault_later came scene trace P (faults.NotNext place) same ends = absurd ends
  fault_later came scene trace P (faults.PastEnd end) same ends = absurd ends
  fault_later came scene trace P (faults.CheckpointDue bytes) same ends = absurd ends
  fault_later came scene trace P (faults.ItemsFull count) same ends = absurd ends
  fault_later came scene trace P (faults.WordTaken other) same ends = absurd ends
  fault_later came scene trace P (faults.Damaged place) same ends = absurd ends

  refused_later : (fault : DeskFault) → BeginRefuses tells clock counts old new id by at fault → Later
  refused_later faults.Broken why = same_counts counts old new why.same
  refused_later (faults.NoItem other) why = same_counts counts old new why.same
  refused_later (faults.WrongState phase) why = same_counts counts old new why.same
  refused_later faults.NoMemory why = same_counts counts old new why.same
  refused_later (faults.File kind) why = absurd why
  refused_later (faults.Journal kind) why = absurd why
  refused_later (faults.Stale attempt round) why = absurd why
  refused_later (faults.NotNext place) why = absurd why
  refused_later (faults.PastEnd end) why = absurd why
  refused_later (faults.CheckpointDue bytes) why = absurd why
  refused_later (faults.ItemsFull count) why = absurd why
  refused_later (faults.WordTaken other) why = absurd why
  refused_later (faults.Damaged place) why = absurd why

  ended_later : (came : Bool) (scene : Scene D O) (pass : Pass) (trace : Trace) (end : Ended) → scene.start ≡ old → EndedBy came tells clock says far counts net scene pass new before after trace end → Later
  ended_later came scene pass trace ended.Complete same ends = subst (λ (v : View D O). GoesBehind counts v new) same (ends.over.goes.later, (_, ends.over.goes.went.list_is))
  ended_later came scene pass trace (ended.Stopped reason) same ends = subst (λ (v : View D O). GoesBehind counts v new) same (ends.over.goes.later, (_, ends.over.goes.went.list_is))
  ended_later came scene pass trace (ended.Fault fault) same ends = fault_later came scene trace (λ cause. IsDeskCause tells clock says far counts scene pass trace cause ⊎ MetAtNet net before after scene trace cause) fault same ends

  -- over one attempt
  pub attempt_later : (end : Ended) → Attempts tells clock says far counts net old new was closed before after id by slices at end → Later
  attempt_later end (wanting is same still) = same_counts counts old new same
  attempt_later end (refused fault is why still) = refused_later fault why
  attempt_later end (tried found) = ended_later found.is.came (scene_of old found.item by at was before) (pass_of found.item) found.is.trace end refl found.is.ends

  -- what an attempt had of connections comes behind those before
  pub attempt_closed : (end : Ended) → Attempts tells clock says far counts net old new was closed before after id by slices at end → net → (more : List Closed) × (closed ≡ was ++ more)
  attempt_closed end (wanting is same still) t = ([], still t ∙ sym (append-nil was))
  attempt_closed end (refused fault is why still) t = ([], still t ∙ sym (append-nil was))
  attempt_closed end (tried found) t = (connections_of found.is.trace, found.is.closed_is t)

-- what is known by a list is known by a longer one
known_more : (item : Item) (list longer more : History) → longer ≡ list ++ more → (validator : Key) (address : List ℕ) (total : ℕ) → IsKnownOf item list validator address total → IsKnownOf item longer validator address total
known_more item list longer more is validator address total (kept key_is address_is total_is) = kept key_is address_is total_is
known_more item list longer more is validator address total (told name modified among) =
    let e = entries.Described item.id validator address (Some total) name modified in
    told name modified (subst (λ (l : History). Contains l e) (sym is) (Contains-append_left list more e among))

of_more : (item : Item) (list longer more : History) → longer ≡ list ++ more → (address : List ℕ) (wanted : Wanted) → OfKnown item list address wanted → OfKnown item longer address wanted
of_more item list longer more is address wants.Whole known = tt
of_more item list longer more is address (wants.Part first last tag total) known = known_more item list longer more is (Strong tag) address total known

-- The first connections of those that serve a content whole do so too.

row_front : (row front rest : List Closed) → IsRowOf row front → IsRowOf row (front ++ rest)
row_front [] front rest is = tt
row_front (c ∷ row) [] rest is = absurd is
row_front (c ∷ row) (other ∷ front) rest (inl here) = inl (here.0, row_front row front rest here.1)
row_front (c ∷ row) (other ∷ front) rest (inr later) = inr (row_front (c ∷ row) front rest later)

serves_front : (item : Item) (list longer more : History) (front rest : List Closed) → longer ≡ list ++ more → ServesWhole item longer (front ++ rest) → ServesWhole item list front
serves_front item list longer more front rest is serves = record {
  first = serves.first;
  last = serves.last;
  each = λ c wanted among known sent. serves.each c wanted (Contains-append_left front rest c among) (of_more item list longer more is c.purpose.address.text wanted known) sent;
  few = λ row own all. serves.few row (row_front row front rest own) all;
}

-- what they bring is of one content, where what all bring is
one_front : {D : Type 0} (clock : D → Clock) (disk : D) (item : Item) (list longer more : History) (front rest : List Closed) → longer ≡ list ++ more → (digest : List ℕ) → IsOneContent clock disk item longer (front ++ rest) digest → IsOneContent clock disk item list front digest
one_front clock disk item list longer more front rest is digest one = record {
  content = one.content;
  sum = one.sum;
  each = λ c wanted among known sent. one.each c wanted (Contains-append_left front rest c among) (of_more item list longer more is c.purpose.address.text wanted known) sent;
  saved = one.saved;
  total = one.total;
}

one_if : {D : Type 0} (clock : D → Clock) (disk : D) (item : Item) (list longer more : History) (front rest : List Closed) → longer ≡ list ++ more → (stated : Option (List ℕ)) → IfSome stated (IsOneContent clock disk item longer (front ++ rest)) → IfSome stated (IsOneContent clock disk item list front)
one_if clock disk item list longer more front rest is None one = tt
one_if clock disk item list longer more front rest is (Some digest) one = one_front clock disk item list longer more front rest is digest one

module _ {D O : Type 0} (tells : Type 0) (clock : D → Clock) (says : O → Says) (far : D → ℕ) (counts : D → DiskKind → ℕ) (net : Type 0) (id : ItemId) (slices at : ℕ) (new : View D O) (now : List Closed) (after : NetFault → ℕ) (end : Ended) where
  abbrev All : View D O → List Closed → (NetFault → ℕ) → By → ℕ → Type 0
  All old was before by more = Fetches tells clock says far counts net id slices at new now after end old was before by more

  -- What holds over all that an item makes: no count falls, and the connections come behind those before.
  record Behind (old : View D O) (was : List Closed) (before : NetFault → ℕ) : Type 0 where
    disk : GoesBehind counts old new
    faults : NoneFell before after
    closed : net → (more : List Closed) × (now ≡ was ++ more)

  behind : (old : View D O) (was : List Closed) (before : NetFault → ℕ) (by : By) (more : ℕ) → All old was before by more → Behind old was before
  behind old was before by more (once _ _ _ _ did later stays) = record {
    disk = attempt_later tells clock says far counts net old new was now before after id by slices at end did;
    faults = later;
    closed = attempt_closed tells clock says far counts net old new was now before after id by slices at end did;
  }
  behind old was before by _ (again _ _ _ _ mid between amid reason others did later goes all) =
      let rest = behind mid between amid Itself others all in
      let first = attempt_later tells clock says far counts net old mid was between before amid id by slices at (ended.Stopped reason) did in
      record {
        disk = (
          λ kind. let a = first.0 kind in let b = rest.disk.0 kind in omega (arith, a, b),
          (first.1.0 ++ rest.disk.1.0, rest.disk.1.1 ∙ ap (λ (l : History). l ++ rest.disk.1.0) first.1.1 ∙ append_assoc old.list first.1.0 rest.disk.1.0),
        );
        faults = λ kind. let a = later kind in let b = rest.faults kind in omega (arith, a, b);
        closed = λ t.
            let front = attempt_closed tells clock says far counts net old mid was between before amid id by slices at (ended.Stopped reason) did t in
            let last = rest.closed t in
            (front.0 ++ last.0, last.1 ∙ ap (λ (l : List Closed). l ++ last.0) front.1 ∙ append_assoc was front.0 last.0);
      }

  never_rose : {K : Type 0} (first middle last : K → ℕ) → NoneFell middle last → NoneRose first last → NoneRose first middle
  never_rose first middle last later none kind rose = none kind (let a = later kind in omega (arith, a, rose))

  -- nothing stands in the way of the first attempt, where nothing does of all
  smooth_first : (old mid : View D O) (was between : List Closed) (before amid : NetFault → ℕ) (by : By) → Behind mid between amid → IsSmooth tells clock says counts net old new was now before after id by at
      → IsSmooth tells clock says counts net old mid was between before amid id by at
  smooth_first old mid was between before amid by rest smooth = record {
    disk_told = smooth.disk_told;
    desk = smooth.desk;
    whole = smooth.whole;
    history = smooth.history;
    holds = smooth.holds;
    item = smooth.item;
    there = smooth.there;
    may = smooth.may;
    disk = never_rose (counts old.disk) (counts mid.disk) (counts new.disk) rest.disk.0 smooth.disk;
    quiet = never_rose before amid after rest.faults smooth.quiet;
    told = smooth.told;
    serves = λ connections is.
        let last = rest.closed smooth.told in
        serves_front _ mid.list new.list rest.disk.1.0 connections last.0 rest.disk.1.1 (smooth.serves (connections ++ last.0) (last.1 ∙ ap (λ (l : List Closed). l ++ last.0) is ∙ append_assoc was connections last.0));
    free = smooth.free;
    stated = λ connections is.
        let last = rest.closed smooth.told in
        one_if clock old.disk _ mid.list new.list rest.disk.1.0 connections last.0 rest.disk.1.1 smooth.item.digest
        (smooth.stated (connections ++ last.0) (last.1 ∙ ap (λ (l : List Closed). l ++ last.0) is ∙ append_assoc was connections last.0));
  }

  module _ (each : tells → (disk : D) (t : ℕ) → IsSoundDisk ((clock disk).at t)) (some : 1 ≤ slices) where
    -- no attempt is stopped
    stopped_none : (reason : Reason) → CompletesOr (ended.Stopped reason) → ⊥
    stopped_none reason (inl is) = absurd cc
    stopped_none reason (inr is) = absurd cc

    -- Where nothing stands in the way, an item is complete after one attempt, or memory was wanting.
    pub fetch_completes : (old : View D O) (was : List Closed) (before : NetFault → ℕ) (by : By) (more : ℕ) → All old was before by more → IsSmooth tells clock says counts net old new was now before after id by at
        → CompletesAtOnce tells clock says far counts net old new was now before after id by slices at end
    fetch_completes old was before by more (once _ _ _ _ did later stays) smooth = (completes_or tells clock says far counts net old new was now before after id by slices at each some smooth end did, did)
    fetch_completes old was before by _ (again _ _ _ _ mid between amid reason others did later goes all) smooth =
        absurd (stopped_none reason
        (completes_or tells clock says far counts net old mid was between before amid id by slices at each some (smooth_first old mid was between before amid by (behind mid between amid Itself others all) smooth) (ended.Stopped reason) did))
