-- What is left of an item that one attempt completed, and of one for which memory was wanting.
use Rattle.std.proofs.Common.{◌≡◌, ◌⊎◌, inl, inr, ◌≤◌, ℕ, ◌+◌, cond, Bool, true, false, List, [], ◌∷◌, ◌++◌, map, Option, Some, None, refl, sym, ◌∙◌, ap, subst, arith}
use Rattle.std.specs.List.{AllByRecursion}
use Rattle.dm_types.specs.declared.entry.Entry.{Entry}
use Rattle.dm_types.specs.declared.entry.Entry.TheVariants as entries
use Rattle.dm_types.specs.declared.item.Item.{Item}
use Rattle.dm_types.specs.declared.item.ItemId.{ItemId}
use Rattle.dm_types.specs.declared.item.Phase.{Phase}
use Rattle.dm_types.specs.declared.item.Phase.TheVariants as phases
use Rattle.dm_types.specs.declared.kinds.By.{By}
use Rattle.dm_types.specs.declared.kinds.DiskKind.{DiskKind}
use Rattle.dm_types.specs.declared.reason.Reason.TheVariants as reasons
use Rattle.dm_types.specs.declared.slices.Slice.{Slice}
use Rattle.dm_disk_model.specs.Disk.{History as Clock}
use Rattle.dm_policy.specs.Cause.{reason_of_cause}
use Rattle.dm_policy.specs.declared.cause.Cause.TheVariants as causes
use Rattle.dm_edge.specs.Wire.{Closed}
use Rattle.dm_edge.specs.declared.fault.NetFault.{NetFault}
use Rattle.dm_item.specs.Fields.{is_began}
use Rattle.dm_item.specs.History.{count_of}
use Rattle.dm_item.specs.Lawful.{History}
use Rattle.dm_item.specs.Listing.{Listing, item_in}
use Rattle.dm_kept.specs.Files.{Says}
use Rattle.dm_store.specs.Becomes.{run_of}
use Rattle.dm_store.specs.View.{View}
use Rattle.dm_answers.specs.Begin.{beginning, begins_anew}
use Rattle.dm_answers.specs.declared.fault.DeskFault.{DeskFault}
use Rattle.dm_answers.specs.declared.fault.DeskFault.TheVariants as faults
use Rattle.dm_attempt.specs.declared.ended.Ended.TheVariants as ended
use Rattle.dm_attempt.specs.Live.{all_entries}
use Rattle.dm_attempt.specs.Scene.{Scene, changed_all}
use Rattle.dm_attempt.specs.Shows.{total_by}
use Rattle.dm_attempt.specs.Trace.{Broken, Close, Done, Tale, Trace, close_entries, told_entries, with_saves}
use Rattle.dm_attempt.proofs.Items.{all_then, found_id}
use Rattle.dm_fetch.specs.Attempts.{Attempts, refused, tried, wanting}
use Rattle.dm_fetch.specs.Completes.{IsLeftIn}
use Rattle.dm_fetch.specs.Starts.{BeginRefuses, scene_of}
use Rattle.dm_fetch.proofs.Begun.{renewal, start}
use Rattle.dm_fetch.proofs.Rises.{Own, own_both, own_saves, own_test, own_told, run_item}

-- the phase in which an attempt leaves its item
abbrev closed_phase : Close → Phase
closed_phase (Broken cause) = phases.Interrupted (reason_of_cause cause)
closed_phase (Done total digest) = phases.Complete

own_close : (id : ItemId) (at : ℕ) (close : Close) → AllByRecursion (Own id.0) (close_entries id at close)
own_close id at (Broken cause) = (λ v. refl, tt)
own_close id at (Done total digest) = (λ v. refl, (λ v. refl, tt))

close_phase : (id : ItemId) (at : ℕ) (close : Close) (item : Item) → (changed_all (close_entries id at close) item).phase ≡ closed_phase close
close_phase id at (Broken cause) item = refl
close_phase id at (Done total digest) item = refl

-- how often an attempt began

none_told : (id : ItemId) (told : Option Tale) → count_of is_began (told_entries id told) ≡ 0
none_told id None = refl
none_told id (Some tale) = refl

none_saved : (id : ItemId) (saves : List (List Slice)) → count_of is_began (map (entries.Progress id) saves) ≡ 0
none_saved id [] = refl
none_saved id (slices ∷ more) = none_saved id more

none_closed : (id : ItemId) (at : ℕ) (close : Close) → count_of is_began (close_entries id at close) ≡ 0
none_closed id at (Broken cause) = refl
none_closed id at (Done total digest) = refl

count_test : (test : Bool) (n : ℕ) → cond test (n + 1) n ≡ cond test 1 0 + n
count_test true n = omega arith
count_test false n = omega arith

count_both : (xs ys : List Entry) → count_of is_began (xs ++ ys) ≡ count_of is_began xs + count_of is_began ys
count_both [] ys = omega arith
count_both (x ∷ xs) ys =
    let later = count_both xs ys in
    let left = count_test (is_began x) (count_of is_began (xs ++ ys)) in
    let right = count_test (is_began x) (count_of is_began xs) in
    omega (arith, later, left, right)

one_test : (item : Item) (by : By) (at : ℕ) (test : Bool) → count_of is_began (cond test (renewal item by at ∷ []) [] ++ start item by at ∷ []) ≡ 1
one_test item by at true = refl
one_test item by at false = refl

module _ {D O : Type 0} (scene : Scene D O) (trace : Trace) (close : Close) where
  abbrev id : ItemId
  id = scene.item.id

  abbrev head : History
  head = beginning scene.item scene.by scene.at

  abbrev told : History
  told = told_entries id trace.told

  abbrev saved : History
  saved = map (entries.Progress id) trace.saves

  abbrev last : History
  last = close_entries id scene.at close

  own_entries : AllByRecursion (Own id.0) (all_entries scene trace close)
  own_entries =
      own_both id.0 head (told ++ (saved ++ last)) (own_test scene.item scene.by scene.at (begins_anew scene.item))
      (own_both id.0 told (saved ++ last) (own_told id trace.told) (own_both id.0 saved last (own_saves id trace.saves) (own_close id scene.at close)))

  entries_phase : (changed_all (all_entries scene trace close) scene.item).phase ≡ closed_phase close
  entries_phase =
      let begun = changed_all head scene.item in
      let named = changed_all told begun in
      ap (λ (i : Item). i.phase) (all_then head (told ++ (saved ++ last)) scene.item ∙ all_then told (saved ++ last) begun ∙ all_then saved last named) ∙ close_phase id scene.at close (changed_all saved named)

  -- an attempt is begun once
  pub one_began : count_of is_began (all_entries scene trace close) ≡ 1
  one_began =
      let first = one_test scene.item scene.by scene.at (begins_anew scene.item) in
      let a = count_both head (told ++ (saved ++ last)) in
      let b = count_both told (saved ++ last) in
      let c = count_both saved last in
      let x = none_told id trace.told in
      let y = none_saved id trace.saves in
      let z = none_closed id scene.at close in
      omega (arith, first, a, b, c, x, y, z)

  -- and leaves the item in its phase
  pub phase_left : (k : ℕ) (old new : Listing) → scene.item.id.0 ≡ k → item_in k old.items ≡ Some scene.item → new ≡ run_of (all_entries scene trace close) old
      → (item : Item) × (item_in k new.items ≡ Some item) × (item.phase ≡ closed_phase close)
  phase_left k old new own there is = (
    changed_all (all_entries scene trace close) scene.item,
    ap (λ (v : Listing). item_in k v.items) is
        ∙ subst (λ (n : ℕ). item_in n (run_of (all_entries scene trace close) old).items ≡ Some (changed_all (all_entries scene trace close) scene.item)) own
        (run_item id.0 (all_entries scene trace close) old scene.item own_entries (subst (λ (n : ℕ). item_in n old.items ≡ Some scene.item) (sym own) there)),
    entries_phase,
  )

module _ {D O : Type 0} (tells : Type 0) (clock : D → Clock) (says : O → Says) (far : D → ℕ) (counts : D → DiskKind → ℕ) (net : Type 0) (old new : View D O) (was closed : List Closed) (before after : NetFault → ℕ) (id : ItemId) (by : By) (slices at : ℕ) where
  -- after an attempt that completed it the item is complete
  pub complete_left : Attempts tells clock says far counts net old new was closed before after id by slices at ended.Complete → IsLeftIn old new id phases.Complete
  complete_left (wanting is same still) = absurd cc
  complete_left (refused fault is why still) = absurd cc
  complete_left (tried found) =
      let scene = scene_of old found.item by at was before in
      let done = found.is.ends in
      let trace = with_saves found.is.trace done.saves in
      let left = phase_left scene trace (Done (total_by scene found.is.trace) done.digest) id.0 old.items new.items (found_id id.0 old.items.items found.item found.there) found.there done.over.goes.went.items_are in
      record {
        item = left.0;
        there = left.1;
        phase_is = left.2;
        recorded = all_entries scene trace (Done (total_by scene found.is.trace) done.digest);
        list_is = done.over.goes.went.list_is;
        one = one_began scene trace (Done (total_by scene found.is.trace) done.digest);
      }

  -- where memory was wanting nothing changed, or that is the item's reason
  pub wanting_left : Attempts tells clock says far counts net old new was closed before after id by slices at (ended.Fault faults.NoMemory) → (new ≡ old) ⊎ IsLeftIn old new id (phases.Interrupted reasons.NoMemory)
  wanting_left (wanting is same still) = inl same
  wanting_left (refused fault is why still) = inl (same_by fault is why)
    where
      same_by : (f : DeskFault) → ended.Fault faults.NoMemory ≡ ended.Fault f → BeginRefuses tells clock counts old new id by at f → new ≡ old
      same_by faults.NoMemory is why = why.same
      same_by faults.Broken is why = why.same
      same_by (faults.NoItem other) is why = why.same
      same_by (faults.WrongState phase) is why = why.same
      same_by (faults.File kind) is why = absurd why
      same_by (faults.Journal kind) is why = absurd why
      same_by (faults.Stale attempt round) is why = absurd why
      same_by (faults.NotNext place) is why = absurd why
      same_by (faults.PastEnd end) is why = absurd why
      same_by (faults.CheckpointDue bytes) is why = absurd why
      same_by (faults.ItemsFull count) is why = absurd why
      same_by (faults.WordTaken other) is why = absurd why
      same_by (faults.Damaged place) is why = absurd why
  wanting_left (tried found) =
      let scene = scene_of old found.item by at was before in
      let ends = found.is.ends in
      let trace = with_saves found.is.trace ends.0 in
      let left = phase_left scene trace (Broken causes.Memory) id.0 old.items new.items (found_id id.0 old.items.items found.item found.there) found.there ends.1.goes.went.items_are in
      inr (record {
        item = left.0;
        there = left.1;
        phase_is = left.2;
        recorded = all_entries scene trace (Broken causes.Memory);
        list_is = ends.1.goes.went.list_is;
        one = one_began scene trace (Broken causes.Memory);
      })
