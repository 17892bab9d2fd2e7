-- What an attempt makes of the count of those that an item made by itself, and of the desk's origin.
use Rattle.std.proofs.Common.{◌≡◌, ◌⊎◌, ℕ, Bool, true, false, cond, List, [], ◌∷◌, ◌++◌, map, Option, Some, None, refl, sym, ◌∙◌, ap, subst}
use Rattle.std.specs.List.{AllByRecursion}
use Rattle.dm_types.specs.declared.entry.Entry.{Entry}
use Rattle.dm_types.specs.declared.entry.Entry.TheVariants as entries
use Rattle.dm_types.specs.declared.item.Item.{Item}
use Rattle.dm_types.specs.declared.item.ItemId.{ItemId}
use Rattle.dm_types.specs.declared.kinds.By.{By}
use Rattle.dm_types.specs.declared.kinds.DiskKind.{DiskKind}
use Rattle.dm_types.specs.declared.reason.Reason.{Reason}
use Rattle.dm_types.specs.declared.slices.Slice.{Slice}
use Rattle.dm_disk_model.specs.Disk.{History as Clock}
use Rattle.dm_policy.specs.Cause.{reason_of_cause}
use Rattle.dm_policy.specs.declared.cause.Cause.{Cause}
use Rattle.dm_edge.specs.Wire.{Closed}
use Rattle.dm_edge.specs.declared.fault.NetFault.{NetFault}
use Rattle.dm_item.specs.Lawful.{History}
use Rattle.dm_item.specs.Listing.{Listing, applied, changed_at, item_in}
use Rattle.dm_item.specs.Row.{autos_after, changed}
use Rattle.dm_kept.specs.Files.{Says}
use Rattle.dm_store.specs.Becomes.{run_of}
use Rattle.dm_store.specs.View.{View}
use Rattle.dm_store.specs.declared.pass.Pass.{Pass}
use Rattle.dm_answers.specs.Begin.{beginning, begins_anew, pass_of}
use Rattle.dm_answers.specs.declared.fault.DeskFault.{DeskFault}
use Rattle.dm_answers.specs.declared.fault.DeskFault.TheVariants as faults
use Rattle.dm_attempt.specs.declared.ended.Ended.{Ended}
use Rattle.dm_attempt.specs.declared.ended.Ended.TheVariants as ended
use Rattle.dm_attempt.specs.Ending.{FaultEnds, IsDeskCause}
use Rattle.dm_attempt.specs.Live.{all_entries}
use Rattle.dm_attempt.specs.Scene.{Scene, changed_all}
use Rattle.dm_attempt.specs.Trace.{Broken, Tale, Trace, entries_behind, told_entries, with_saves}
use Rattle.dm_attempt.proofs.Items.{all_then, found_id, item_then}
use Rattle.dm_fetch.specs.Attempts.{Attempts, EndedBy, MetAtNet, refused, tried, wanting}
use Rattle.dm_fetch.specs.Fetches.{autos_of}
use Rattle.dm_fetch.specs.Starts.{BeginRefuses, scene_of}
use Rattle.dm_fetch.proofs.Begun.{renewal, start}

-- the entry changes the item with this number, and nothing else of the list's items
abbrev pub Own : ℕ → Entry → Type 0
Own k e = (v : Listing) → (applied e v).items ≡ changed_at e k v.items

pub run_item : (k : ℕ) (es : History) (v : Listing) (item : Item) → AllByRecursion (Own k) es → item_in k v.items ≡ Some item → item_in k (run_of es v).items ≡ Some (changed_all es item)
run_item k [] v item own there = there
run_item k (e ∷ es) v item own there = run_item k es (applied e v) (changed e item) own.1 (ap (item_in k) (own.0 v) ∙ item_then e k v.items item there)

pub own_both : (k : ℕ) (xs ys : History) → AllByRecursion (Own k) xs → AllByRecursion (Own k) ys → AllByRecursion (Own k) (xs ++ ys)
own_both k [] ys own more = more
own_both k (x ∷ xs) ys own more = (own.0, own_both k xs ys own.1 more)

pub own_test : (item : Item) (by : By) (at : ℕ) (test : Bool) → AllByRecursion (Own item.id.0) (cond test (renewal item by at ∷ []) [] ++ start item by at ∷ [])
own_test item by at true = (λ v. refl, (λ v. refl, tt))
own_test item by at false = (λ v. refl, tt)

pub own_told : (id : ItemId) (told : Option Tale) → AllByRecursion (Own id.0) (told_entries id told)
own_told id None = tt
own_told id (Some tale) = (λ v. refl, tt)

pub own_saves : (id : ItemId) (saves : List (List Slice)) → AllByRecursion (Own id.0) (map (entries.Progress id) saves)
own_saves id [] = tt
own_saves id (slices ∷ more) = (λ v. refl, own_saves id more)

autos_test : (item : Item) (by : By) (at : ℕ) (test : Bool) → (changed_all (cond test (renewal item by at ∷ []) [] ++ start item by at ∷ []) item).autos ≡ autos_after by item.autos
autos_test item by at true = refl
autos_test item by at false = refl

autos_told : (id : ItemId) (told : Option Tale) (item : Item) → (changed_all (told_entries id told) item).autos ≡ item.autos
autos_told id None item = refl
autos_told id (Some tale) item = refl

autos_saves : (id : ItemId) (saves : List (List Slice)) (item : Item) → (changed_all (map (entries.Progress id) saves) item).autos ≡ item.autos
autos_saves id [] item = refl
autos_saves id (slices ∷ more) item = autos_saves id more (record item { slices = slices })

module _ {D O : Type 0} (scene : Scene D O) (trace : Trace) (cause : Cause) where
  abbrev id : ItemId
  id = scene.item.id

  abbrev head : History
  head = beginning scene.item scene.by scene.at

  own_all : AllByRecursion (Own id.0) (all_entries scene trace (Broken cause))
  own_all =
      own_both id.0 head (entries_behind id scene.at trace (Broken cause)) (own_test scene.item scene.by scene.at (begins_anew scene.item))
      (own_both id.0 (told_entries id trace.told) (map (entries.Progress id) trace.saves ++ entries.Broke id (reason_of_cause cause) ∷ []) (own_told id trace.told)
      (own_both id.0 (map (entries.Progress id) trace.saves) (entries.Broke id (reason_of_cause cause) ∷ []) (own_saves id trace.saves) (λ v. refl, tt)))

  autos_all : (changed_all (all_entries scene trace (Broken cause)) scene.item).autos ≡ autos_after scene.by scene.item.autos
  autos_all =
      let told = told_entries id trace.told in
      let saved = map (entries.Progress id) trace.saves in
      let last = entries.Broke id (reason_of_cause cause) ∷ [] in
      let begun = changed_all head scene.item in
      let named = changed_all told begun in
      ap (λ (i : Item). i.autos) (all_then head (told ++ (saved ++ last)) scene.item ∙ all_then told (saved ++ last) begun ∙ all_then saved last named)
      ∙ autos_saves id trace.saves named ∙ autos_told id trace.told begun ∙ autos_test scene.item scene.by scene.at (begins_anew scene.item)

module _ {D O : Type 0} (tells : Type 0) (clock : D → Clock) (says : O → Says) (far : D → ℕ) (counts : D → DiskKind → ℕ) (net : Type 0) (old new : View D O) (was closed : List Closed) (before after : NetFault → ℕ) (id : ItemId) (by : By) (slices at : ℕ) where
  -- an attempt that was stopped counts
  pub autos_rise : (reason : Reason) → Attempts tells clock says far counts net old new was closed before after id by slices at (ended.Stopped reason) → autos_of (item_in id.0 new.items.items) ≡ autos_after by (autos_of (item_in id.0 old.items.items))
  autos_rise reason (wanting is same still) = absurd cc
  autos_rise reason (refused fault is why still) = absurd cc
  autos_rise reason (tried found) =
      let item = found.item in
      let scene = scene_of old item by at was before in
      let stopped = found.is.ends in
      let trace = with_saves found.is.trace stopped.saves in
      let es = all_entries scene trace (Broken stopped.cause) in
      let own : item.id.0 ≡ id.0 = found_id id.0 old.items.items item found.there in
      let there : item_in id.0 new.items.items ≡ Some (changed_all es item) =
      ap (λ (v : Listing). item_in id.0 v.items) stopped.over.goes.went.items_are
      ∙ subst (λ (k : ℕ). item_in k (run_of es old.items).items ≡ Some (changed_all es item)) own
      (run_item item.id.0 es old.items item (own_all scene trace stopped.cause) (subst (λ (k : ℕ). item_in k old.items.items ≡ Some item) (sym own) found.there)) in
      ap autos_of there ∙ autos_all scene trace stopped.cause ∙ ap (λ (i : Option Item). autos_after by (autos_of i)) (sym found.there)

  fault_origin : (came : Bool) (scene : Scene D O) (trace : Trace) (P : Cause → Type 0) (fault : DeskFault) → scene.start ≡ old → FaultEnds came tells clock says far counts scene new trace P fault → new.origin ≡ old.origin
  fault_origin came scene trace P (faults.File kind) same ends = ends.1.1.goes.went.origin ∙ ap (λ (v : View D O). v.origin) same
  fault_origin came scene trace P (faults.Journal kind) same ends = ends.1.goes.went.origin ∙ ap (λ (v : View D O). v.origin) same
  fault_origin came scene trace P faults.NoMemory same ends = ends.1.goes.went.origin ∙ ap (λ (v : View D O). v.origin) same
  fault_origin came scene trace P faults.Broken same ends = absurd ends
  fault_origin came scene trace P (faults.NoItem other) same ends = absurd ends
  fault_origin came scene trace P (faults.WrongState phase) same ends = absurd ends
  fault_origin came scene trace P (faults.Stale attempt round) same ends = absurd ends
  fault_origin came scene trace P (faults.NotNext place) same ends = absurd ends
  fault_origin came scene trace P (faults.PastEnd end) same ends = absurd ends
  fault_origin came scene trace P (faults.CheckpointDue bytes) same ends = absurd ends
  fault_origin came scene trace P (faults.ItemsFull count) same ends = absurd ends
  fault_origin came scene trace P (faults.WordTaken other) same ends = absurd ends
  fault_origin came scene trace P (faults.Damaged place) same ends = absurd ends

  refused_origin : (fault : DeskFault) → BeginRefuses tells clock counts old new id by at fault → new.origin ≡ old.origin
  refused_origin faults.Broken why = ap (λ (v : View D O). v.origin) why.same
  refused_origin (faults.NoItem other) why = ap (λ (v : View D O). v.origin) why.same
  refused_origin (faults.WrongState phase) why = ap (λ (v : View D O). v.origin) why.same
  refused_origin faults.NoMemory why = ap (λ (v : View D O). v.origin) why.same
  refused_origin (faults.File kind) why = absurd why
  refused_origin (faults.Journal kind) why = absurd why
  refused_origin (faults.Stale attempt round) why = absurd why
  refused_origin (faults.NotNext place) why = absurd why
  refused_origin (faults.PastEnd end) why = absurd why
  refused_origin (faults.CheckpointDue bytes) why = absurd why
  refused_origin (faults.ItemsFull count) why = absurd why
  refused_origin (faults.WordTaken other) why = absurd why
  refused_origin (faults.Damaged place) why = absurd why

  ended_origin : (came : Bool) (scene : Scene D O) (pass : Pass) (trace : Trace) (end : Ended) → scene.start ≡ old → EndedBy came tells clock says far counts net scene pass new before after trace end → new.origin ≡ old.origin
  ended_origin came scene pass trace ended.Complete same ends = ends.over.goes.went.origin ∙ ap (λ (v : View D O). v.origin) same
  ended_origin came scene pass trace (ended.Stopped reason) same ends = ends.over.goes.went.origin ∙ ap (λ (v : View D O). v.origin) same
  ended_origin came scene pass trace (ended.Fault fault) same ends = fault_origin came scene trace (λ cause. IsDeskCause tells clock says far counts scene pass trace cause ⊎ MetAtNet net before after scene trace cause) fault same ends

  -- an attempt leaves the desk's origin
  pub origin_stays : (end : Ended) → Attempts tells clock says far counts net old new was closed before after id by slices at end → new.origin ≡ old.origin
  origin_stays end (wanting is same still) = ap (λ (v : View D O). v.origin) same
  origin_stays end (refused fault is why still) = refused_origin fault why
  origin_stays end (tried found) = ended_origin found.is.came (scene_of old found.item by at was before) (pass_of found.item) found.is.trace end refl found.is.ends
