-- An item that was brought rests: no further attempt by itself is due, or memory was wanting for one, or the journal failed.
use Rattle.std.proofs.Common.{◌≡◌, ℕ, ◌&&◌, Bool, true, false, cond, IsTrue, List, [], ◌∷◌, ◌++◌, map, Option, Some, refl, sym, ◌∙◌, ap, subst}
use Rattle.std.specs.Prelude.{not}
use Rattle.std.specs.List.{AllByRecursion}
use Rattle.std.proofs.lemmas.Bool.{false≢true}
use Rattle.std.proofs.lemmas.Option.{same_Some}
use Rattle.dm_types.specs.declared.entry.Entry.TheVariants as entries
use Rattle.dm_types.specs.declared.item.Item.{Item}
use Rattle.dm_types.specs.declared.item.ItemId.{ItemId}
use Rattle.dm_types.specs.declared.item.Phase.{Phase}
use Rattle.dm_types.specs.declared.item.Phase.TheVariants as phases
use Rattle.dm_types.specs.declared.kinds.By.{By}
use Rattle.dm_types.specs.declared.kinds.By.TheVariants.{Itself, User}
use Rattle.dm_types.specs.declared.kinds.DiskKind.{DiskKind}
use Rattle.dm_types.specs.declared.kinds.DiskKind.TheVariants as kinds
use Rattle.dm_types.specs.declared.kinds.Mode.{Mode}
use Rattle.dm_types.specs.declared.kinds.Mode.TheVariants as modes
use Rattle.dm_types.specs.declared.reason.Reason.{Reason}
use Rattle.dm_disk_model.specs.Disk.{History as Clock}
use Rattle.dm_policy.specs.Cause.{reason_of_cause, reason_of_file}
use Rattle.dm_policy.specs.Mode.{asks_user, by_user, can_continue, from_start, is_immediate, is_invalid, is_last_attempt, mode_by, row_mode}
use Rattle.dm_policy.specs.declared.cause.Cause.TheVariants as causes
use Rattle.dm_policy.specs.declared.mode.ModeFacts.{ModeFacts}
use Rattle.dm_edge.specs.Wire.{Closed}
use Rattle.dm_edge.specs.declared.fault.NetFault.{NetFault}
use Rattle.dm_item.specs.Lawful.{History}
use Rattle.dm_item.specs.Listing.{Listing, item_in}
use Rattle.dm_item.specs.Row.{changed, facts_of, is_interrupted, is_waiting, mode_in, mode_of_item}
use Rattle.dm_item.proofs.Basics.{none_some}
use Rattle.dm_kept.specs.Files.{Says}
use Rattle.dm_store.specs.Becomes.{run_of}
use Rattle.dm_store.specs.View.{View}
use Rattle.dm_answers.specs.Begin.{beginning, begins_anew, may_begin, pass_of}
use Rattle.dm_answers.specs.Running.{ItemWith}
use Rattle.dm_answers.specs.declared.fault.DeskFault.{DeskFault}
use Rattle.dm_answers.specs.declared.fault.DeskFault.TheVariants as faults
use Rattle.dm_attempt.specs.Live.{all_entries}
use Rattle.dm_attempt.specs.Scene.{Scene, changed_all}
use Rattle.dm_attempt.specs.Shows.{total_by}
use Rattle.dm_attempt.specs.Trace.{Broken, Close, Done, Trace, close_entries, told_entries, with_saves}
use Rattle.dm_attempt.specs.declared.ended.Ended.{Ended}
use Rattle.dm_attempt.specs.declared.ended.Ended.TheVariants as ended
use Rattle.dm_attempt.proofs.Items.{all_then, found_id}
use Rattle.dm_fetch.specs.Attempts.{Attempts, EndedBy, refused, tried, wanting}
use Rattle.dm_fetch.specs.Fetches.{Fetches, GoesOn, MayGoOn, again, once}
use Rattle.dm_fetch.specs.Starts.{BeginRefuses, scene_of}
use Rattle.dm_fetch.proofs.Rises.{Own, own_both, own_saves, own_test, own_told, run_item}
use Rattle.dm_does.specs.Answering.{Rests}
use Rattle.dm_does.specs.Laws.{Waits}
use Rattle.dm_does.specs.declared.course.Course.TheVariants.{Brings}
use Rattle.dm_brings.specs.Bringing.{course_behind}
use Rattle.dm_brings.proofs.Steps.{attempt_step}

-- Modes.

-- an item that is complete makes no attempt
complete_rests : (item : Item) → item.phase ≡ phases.Complete → IsTrue (is_immediate (mode_of_item item)) → ⊥
complete_rests item is immediate = false≢true (sym (ap (λ (p : Phase). is_immediate (mode_in p (mode_by item.reason (facts_of item)))) is) ∙ immediate)

immediate_in : (phase : Phase) (mode : Mode) → IsTrue (is_immediate (mode_in phase mode)) → IsTrue (is_immediate mode)
immediate_in phases.Waiting mode is = is
immediate_in phases.Running mode is = is
immediate_in phases.Paused mode is = is
immediate_in (phases.Interrupted reason) mode is = is
immediate_in phases.Finishing mode is = absurd (false≢true is)
immediate_in phases.Complete mode is = absurd (false≢true is)
immediate_in phases.Cancelled mode is = absurd (false≢true is)

-- a call on the part or on the names that failed asks for the user
file_mode : (kind : DiskKind) → row_mode (reason_of_file kind) ≡ modes.UserRestart
file_mode kinds.Failed = refl
file_mode kinds.Denied = refl
file_mode kinds.NoSpace = refl
file_mode kinds.NameTooLong = refl

abbrev placed_row : Bool → Mode → Mode
placed_row continues row = cond continues row (from_start row)

restart_not : (last asks continues : Bool) → is_immediate (cond last modes.Invalid (cond asks (by_user (placed_row continues modes.UserRestart)) (placed_row continues modes.UserRestart))) ≡ false
restart_not true asks continues = refl
restart_not false true true = refl
restart_not false true false = refl
restart_not false false true = refl
restart_not false false false = refl

file_not : (kind : DiskKind) (facts : ModeFacts) → is_immediate (mode_by (Some (reason_of_file kind)) facts) ≡ false
file_not kind facts =
    ap (λ (row : Mode). is_immediate (cond (is_last_attempt facts) modes.Invalid (cond (asks_user facts) (by_user (placed_row (can_continue facts) row)) (placed_row (can_continue facts) row)))) (file_mode kind)
    ∙ restart_not (is_last_attempt facts) (asks_user facts) (can_continue facts)

file_rests : (kind : DiskKind) (item : Item) → item.reason ≡ Some (reason_of_file kind) → IsTrue (is_immediate (mode_of_item item)) → ⊥
file_rests kind item is immediate =
    false≢true (sym (ap (λ (r : Option Reason). is_immediate (mode_by r (facts_of item))) is ∙ file_not kind (facts_of item)) ∙ immediate_in item.phase (mode_by item.reason (facts_of item)) immediate)

-- one that waits, and that the user may not begin, makes none
invalid_not : (mode : Mode) → not (is_invalid mode) ≡ false → IsTrue (is_immediate mode) → ⊥
invalid_not modes.Invalid none is = false≢true is
invalid_not modes.ImmediateContinue none is = false≢true (sym none)
invalid_not modes.ImmediateRestart none is = false≢true (sym none)
invalid_not modes.UserContinue none is = false≢true (sym none)
invalid_not modes.UserRestart none is = false≢true (sym none)

waiting_rests : (item : Item) → item.phase ≡ phases.Waiting → may_begin User item ≡ false → IsTrue (is_immediate (mode_of_item item)) → ⊥
waiting_rests item is none immediate = invalid_not (mode_of_item item) (sym (ap (λ (p : Phase). is_waiting p && not (is_invalid (mode_of_item item))) is) ∙ none) immediate

both_true : (a b : Bool) → IsTrue a → IsTrue b → IsTrue (a && b)
both_true true b first second = second
both_true false b first second = absurd (false≢true first)

-- What an attempt leaves of its item.

own_close : (id : ItemId) (at : ℕ) (close : Close) → AllByRecursion (Own id.0) (close_entries id at close)
own_close id at (Broken cause) = (λ v. refl, tt)
own_close id at (Done total digest) = (λ v. refl, (λ v. refl, tt))

module _ {D O : Type 0} (scene : Scene D O) (trace : Trace) (close : Close) where
  abbrev id : ItemId
  id = scene.item.id

  abbrev head : History
  head = beginning scene.item scene.by scene.at

  abbrev told : History
  told = told_entries id trace.told

  abbrev saved : History
  saved = map (entries.Progress id) trace.saves

  abbrev last : History
  last = close_entries id scene.at close

  -- the item before its attempt was closed
  abbrev unclosed : Item
  unclosed = changed_all saved (changed_all told (changed_all head scene.item))

  abbrev left : Item
  left = changed_all (all_entries scene trace close) scene.item

  left_is : left ≡ changed_all last unclosed
  left_is = all_then head (told ++ (saved ++ last)) scene.item ∙ all_then told (saved ++ last) (changed_all head scene.item) ∙ all_then saved last (changed_all told (changed_all head scene.item))

  own_entries : AllByRecursion (Own id.0) (all_entries scene trace close)
  own_entries =
      own_both id.0 head (told ++ (saved ++ last)) (own_test scene.item scene.by scene.at (begins_anew scene.item))
      (own_both id.0 told (saved ++ last) (own_told id trace.told) (own_both id.0 saved last (own_saves id trace.saves) (own_close id scene.at close)))

  left_there : (k : ℕ) (old new : Listing) → item_in k old.items ≡ Some scene.item → new ≡ run_of (all_entries scene trace close) old → item_in k new.items ≡ Some left
  left_there k old new there is =
      let own : scene.item.id.0 ≡ k = found_id k old.items scene.item there in
      ap (λ (v : Listing). item_in k v.items) is
      ∙ subst (λ (n : ℕ). item_in n (run_of (all_entries scene trace close) old).items ≡ Some left) own
      (run_item id.0 (all_entries scene trace close) old scene.item own_entries (subst (λ (n : ℕ). item_in n old.items ≡ Some scene.item) (sym own) there))

module _ {D O : Type 0} (tells : Type 0) (clock : D → Clock) (says : O → Says) (far : D → ℕ) (counts : D → DiskKind → ℕ) (net : Type 0) (id : ItemId) (slices at : ℕ) where
  abbrev RestsBy : View D O → Ended → Type 0
  RestsBy new end = Rests new.items.items (course_behind end (Brings id slices))

  -- the item may be begun so
  abbrev Starts : View D O → By → Type 0
  Starts desk User = Waits id desk.items.items
  Starts desk Itself = ItemWith desk id (λ item. IsTrue (may_begin Itself item))

  same_item : (desk : View D O) (one other : Item) → item_in id.0 desk.items.items ≡ Some one → item_in id.0 desk.items.items ≡ Some other → one ≡ other
  same_item desk one other first second = same_Some one other (sym first ∙ second)

  -- An item that isn't begun.

  state_rests : (old : View D O) (by : By) → Starts old by → ItemWith old id (λ item. may_begin by item ≡ false) → (item : Item) → item_in id.0 old.items.items ≡ Some item → IsTrue (is_immediate (mode_of_item item)) → ⊥
  state_rests old User starts none item there immediate =
      let waits : item.phase ≡ phases.Waiting = ap (λ (i : Item). i.phase) (same_item old item starts.item there starts.there) ∙ starts.waits in
      waiting_rests item waits (subst (λ (i : Item). may_begin User i ≡ false) (same_item old none.item item none.there there) none.is) immediate
  state_rests old Itself starts none item there immediate =
      false≢true (sym (subst (λ (i : Item). may_begin Itself i ≡ false) (same_item old none.item starts.item none.there starts.there) none.is) ∙ starts.is)

  starts_there : (old : View D O) (by : By) → Starts old by → ItemWith old id (λ item. Unit {0})
  starts_there old User starts = record { item = starts.item; there = starts.there; is = tt }
  starts_there old Itself starts = record { item = starts.item; there = starts.there; is = tt }

  refused_rests : (old new : View D O) (by : By) (fault : DeskFault) → old.broken ≡ false → Starts old by → BeginRefuses tells clock counts old new id by at fault → RestsBy new (ended.Fault fault)
  refused_rests old new by faults.Broken whole starts why = absurd (false≢true (sym whole ∙ why.broken))
  refused_rests old new by (faults.NoItem other) whole starts why = absurd (none_some (sym why.cause.none ∙ (starts_there old by starts).there))
  refused_rests old new by (faults.WrongState phase) whole starts why =
      subst (λ (v : View D O). RestsBy v (ended.Fault (faults.WrongState phase))) (sym why.same)
      (state_rests old by starts (record { item = why.cause.item; there = why.cause.there; is = why.cause.is.1 }))
  refused_rests old new by faults.NoMemory whole starts why = tt
  refused_rests old new by fault whole starts why = absurd why

  module _ (old new : View D O) (was : List Closed) (before after : NetFault → ℕ) (by : By) (item : Item) (there : item_in id.0 old.items.items ≡ Some item) where
    abbrev scene : Scene D O
    scene = scene_of old item by at was before

    -- by a property that what is left of the item has
    by_left : (trace : Trace) (close : Close) → new.items ≡ run_of (all_entries scene trace close) old.items → (IsTrue (is_immediate (mode_of_item (left scene trace close))) → ⊥)
        → (found : Item) → item_in id.0 new.items.items ≡ Some found → IsTrue (is_immediate (mode_of_item found)) → ⊥
    by_left trace close is none found here immediate =
        none (subst (λ (i : Item). IsTrue (is_immediate (mode_of_item i))) (same_item new found (left scene trace close) here (left_there scene trace close id.0 old.items new.items there is)) immediate)

    ended_rests : (came : Bool) (trace : Trace) (end : Ended) → (GoesOn new id end → ⊥) → EndedBy came tells clock says far counts net scene (pass_of item) new before after trace end → RestsBy new end
    ended_rests came trace ended.Complete stays ends =
        let all : Trace = with_saves trace ends.saves in
        let close : Close = Done (total_by scene trace) ends.digest in
        by_left all close ends.over.goes.went.items_are (complete_rests (left scene all close) (ap (λ (i : Item). i.phase) (left_is scene all close)))
    ended_rests came trace (ended.Stopped reason) stays ends = λ found here immediate. stays (record { item = found; there = here; is = immediate })
    ended_rests came trace (ended.Fault faults.NoMemory) stays ends = tt
    ended_rests came trace (ended.Fault (faults.Journal kind)) stays ends = tt
    ended_rests came trace (ended.Fault (faults.File kind)) stays ends =
        let all : Trace = with_saves trace ends.1.0 in
        let close : Close = Broken (causes.File kind) in
        by_left all close ends.1.1.goes.went.items_are (file_rests kind (left scene all close) (ap (λ (i : Item). i.reason) (left_is scene all close)))
    ended_rests came trace (ended.Fault fault) stays ends = absurd ends

  attempt_rests : (old new : View D O) (was closed : List Closed) (before after : NetFault → ℕ) (by : By) (end : Ended) → old.broken ≡ false → Starts old by → (GoesOn new id end → ⊥)
      → Attempts tells clock says far counts net old new was closed before after id by slices at end → RestsBy new end
  attempt_rests old new was closed before after by end whole starts stays (wanting end_is same still) = subst (RestsBy new) (sym end_is) tt
  attempt_rests old new was closed before after by end whole starts stays (refused fault end_is why still) = subst (RestsBy new) (sym end_is) (refused_rests old new by fault whole starts why)
  attempt_rests old new was closed before after by end whole starts stays (tried found) = ended_rests old new was before after by found.item found.there found.is.came found.is.trace end stays found.is.ends

  -- an item that goes on was interrupted, and may be begun by itself
  starts_itself : (old mid : View D O) (was between : List Closed) (before amid : NetFault → ℕ) (by : By) (reason : Reason) → MayGoOn mid id
      → Attempts tells clock says far counts net old mid was between before amid id by slices at (ended.Stopped reason) → Starts mid Itself
  starts_itself old mid was between before amid by reason goes (wanting end_is same still) = absurd cc
  starts_itself old mid was between before amid by reason goes (refused fault end_is why still) = absurd cc
  starts_itself old mid was between before amid by reason goes (tried found) =
      let scene = scene_of old found.item by at was before in
      let stopped = found.is.ends in
      let all : Trace = with_saves found.is.trace stopped.saves in
      let close : Close = Broken stopped.cause in
      let here = left_there scene all close id.0 old.items mid.items found.there stopped.over.goes.went.items_are in
      let phase : goes.item.phase ≡ phases.Interrupted (reason_of_cause stopped.cause) =
      ap (λ (i : Item). i.phase) (same_item mid goes.item (left scene all close) goes.there here ∙ left_is scene all close) in
      record {
        item = goes.item;
        there = goes.there;
        is = both_true (is_interrupted goes.item.phase) (is_immediate (mode_of_item goes.item)) (ap is_interrupted phase) goes.is;
      }

  -- all attempts of a fetch
  fetch_by : (new : View D O) (now : List Closed) (after : NetFault → ℕ) (end : Ended) (old : View D O) (was : List Closed) (before : NetFault → ℕ) (by : By) (more : ℕ) → old.broken ≡ false → old.failed ≡ [] → Starts old by
      → Fetches tells clock says far counts net id slices at new now after end old was before by more → RestsBy new end
  fetch_by new now after end old was before by more whole none starts (once _ _ _ _ did later no_more) = attempt_rests old new was now before after by end whole starts no_more did
  fetch_by new now after end old was before by _ whole none starts (again _ _ _ _ mid between amid reason more did later goes rest) =
      let step = attempt_step tells clock says far counts net id slices at old mid was between before amid by (ended.Stopped reason) whole none later did in
      fetch_by new now after end mid between amid Itself more (step.went.broken_is ∙ step.by.1) (step.went.failed_is ∙ step.by.0) (starts_itself old mid was between before amid by reason goes did) rest

  -- an item that waited
  pub fetch_rests : (new : View D O) (now : List Closed) (after : NetFault → ℕ) (end : Ended) (old : View D O) (was : List Closed) (before : NetFault → ℕ) (more : ℕ) → old.broken ≡ false → old.failed ≡ [] → Waits id old.items.items
      → Fetches tells clock says far counts net id slices at new now after end old was before User more → RestsBy new end
  fetch_rests new now after end old was before more whole none waits all = fetch_by new now after end old was before User more whole none waits all
