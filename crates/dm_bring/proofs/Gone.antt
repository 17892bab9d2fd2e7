-- What attempts keep of a desk, one behind another.
use Rattle.std.proofs.Common.{◌≡◌, ◌⊎◌, inl, inr, ℕ, ◌+◌, ◌||◌, Bool, true, false, List, [], ◌∷◌, ◌++◌, length, drop, Option, Some, None, refl, sym, ◌∙◌, ap, subst, append_assoc, arith}
use Rattle.std.proofs.lemmas.Bool.{false≢true}
use Rattle.std.proofs.lemmas.List.{append-nil}
use Rattle.std.proofs.lemmas.Option.{same_Some}
use Rattle.std.proofs.Math.Seq.{drop-append_seam}
use Rattle.dm_types.specs.Faults.{NoneFell}
use Rattle.dm_types.specs.Name.{IsPart}
use Rattle.dm_types.specs.declared.item.Item.{Item}
use Rattle.dm_types.specs.declared.item.ItemId.{ItemId}
use Rattle.dm_types.specs.declared.item.Phase.{Phase}
use Rattle.dm_types.specs.declared.item.Phase.TheVariants as phases
use Rattle.dm_types.specs.declared.kinds.By.{By}
use Rattle.dm_types.specs.declared.kinds.By.TheVariants.{Itself, User}
use Rattle.dm_types.specs.declared.kinds.DiskKind.{DiskKind}
use Rattle.dm_types.specs.declared.reason.Reason.{Reason}
use Rattle.dm_types.specs.declared.slices.Slice.{Slice}
use Rattle.dm_disk_model.specs.Beside.{Besides}
use Rattle.dm_disk_model.specs.Disk.{History as Clock, IsSoundDisk}
use Rattle.dm_disk_model.proofs.Beside.{besides_more, besides_stay, besides_then}
use Rattle.dm_policy.specs.Mode.{mode_by}
use Rattle.dm_policy.specs.declared.cause.Cause.TheVariants as causes
use Rattle.dm_edge.specs.Wire.{Closed}
use Rattle.dm_edge.specs.declared.fault.NetFault.{NetFault}
use Rattle.dm_item.specs.Lawful.{History, IsLawful, IsOf}
use Rattle.dm_item.specs.Listing.{Listing, item_in}
use Rattle.dm_item.specs.Row.{facts_of, is_complete, is_finishing}
use Rattle.dm_item.proofs.Undoing.{found-id}
use Rattle.dm_kept.specs.Files.{Says}
use Rattle.dm_store.specs.Becomes.{MayTry, run_of}
use Rattle.dm_store.specs.Keeps.{Keeps, StaysNear, added}
use Rattle.dm_store.specs.View.{View, spelled}
use Rattle.dm_store.proofs.Composing.{lawful_none, spelled_then}
use Rattle.dm_store.proofs.Keeping.{keeps_same, keeps_then}
use Rattle.dm_answers.proofs.Steps.{went_then}
use Rattle.dm_answers.specs.Begin.{pass_of}
use Rattle.dm_answers.specs.Frame.{Went}
use Rattle.dm_answers.specs.declared.fault.DeskFault.{DeskFault}
use Rattle.dm_answers.specs.declared.fault.DeskFault.TheVariants as faults
use Rattle.dm_attempt.specs.Goes.{DeskGoes}
use Rattle.dm_attempt.specs.Live.{IsGivenBy, IsSpared, all_entries}
use Rattle.dm_attempt.specs.Scene.{Scene, changed_all}
use Rattle.dm_attempt.specs.Shows.{total_by}
use Rattle.dm_attempt.specs.Trace.{Broken, Close, Done, Trace, with_saves}
use Rattle.dm_attempt.specs.declared.ended.Ended.{Ended}
use Rattle.dm_attempt.specs.declared.ended.Ended.TheVariants as ended
use Rattle.dm_fetch.specs.Attempts.{Asks, Attempts, EndedBy, RoundsOf, refused, tried, wanting}
use Rattle.dm_fetch.specs.Fetches.{Fetched, Fetches, MayGoOn, again, once}
use Rattle.dm_fetch.specs.Starts.{BeginRefuses, scene_of}
use Rattle.dm_fetch.proofs.Rises.{run_item}
use Rattle.dm_does.specs.Laws.{Waits}
use Rattle.dm_brings.proofs.Steps.{attempt_step}
use Rattle.dm_brings.specs.Bringing.{Brought}
use Rattle.dm_bring.proofs.Freed.{attempt_free}
use Rattle.dm_bring.proofs.Names.{AreFree, finished_back, finished_by, finished_front, free_both, given_by, is_given, none_given, own_items, recorded_own}
use Rattle.dm_bring.specs.Bringing.{BringGoes, MayName}

-- what was added to a list
added_is : {D O : Type 0} (old new : View D O) (more : History) → new.list ≡ old.list ++ more → added old new ≡ more
added_is old new more is = ap (λ (h : History). drop (length old.list) h) is ∙ drop-append_seam old.list more

-- the count of far writes stays over both of two steps
near_both : {D O : Type 0} (far : D → ℕ) (old mid new : View D O) (first second : History) → new.list ≡ mid.list ++ second → Went old mid first [] false
    → StaysNear (far old.disk) (far mid.disk) old mid → StaysNear (far mid.disk) (far new.disk) mid new → StaysNear (far old.disk) (far new.disk) old new
near_both far old mid new first second list one near later short =
    let longer : new.list ≡ old.list ++ (first ++ second) = list ∙ ap (λ (h : History). h ++ second) one.list_is ∙ append_assoc old.list first second in
    let whole : spelled (added old new ++ new.failed) ≡ spelled first + spelled (second ++ new.failed) =
    ap (λ (h : History). spelled (h ++ new.failed)) (added_is old new (first ++ second) longer) ∙ ap spelled (append_assoc first second new.failed) ∙ spelled_then first (second ++ new.failed) in
    let front : spelled (added old mid ++ mid.failed) ≡ spelled first =
    ap (λ (h : History). spelled (h ++ mid.failed)) (added_is old mid first one.list_is) ∙ ap (λ (h : History). spelled (first ++ h)) one.failed_is ∙ ap spelled (append-nil first) in
    let back : spelled (added mid new ++ new.failed) ≡ spelled (second ++ new.failed) = ap (λ (h : History). spelled (h ++ new.failed)) (added_is mid new second list) in
    let gate = one.gate_is in
    later (omega (arith, short, whole, back, gate)) ∙ near (omega (arith, short, whole, front))

-- the item of the id has no file, and gets none
abbrev pub IsOpen : {D O : Type 0} → View D O → ItemId → Type 0
IsOpen desk id = (item : Item) → item_in id.0 desk.items.items ≡ Some item → is_given item ≡ false

waiting_open : {D O : Type 0} (desk : View D O) (id : ItemId) → Waits id desk.items.items → IsOpen desk id
waiting_open desk id waits item there =
    let same : waits.item ≡ item = same_Some waits.item item (sym waits.there ∙ there) in
    ap (λ (i : Item). is_given i) (sym same) ∙ ap (λ (p : Phase). is_finishing p || is_complete p) waits.waits

going_open : {D O : Type 0} (desk : View D O) (id : ItemId) → MayGoOn desk id → IsOpen desk id
going_open desk id goes item there =
    let same : goes.item ≡ item = same_Some goes.item item (sym goes.there ∙ there) in
    subst (λ (i : Item). is_given i ≡ false) same (none_given goes.item.phase (mode_by goes.item.reason (facts_of goes.item)) goes.is)

module _ {D O : Type 0} (tells : Type 0) (clock : D → Clock) (says : O → Says) (far : D → ℕ) (counts : D → DiskKind → ℕ) (net : Type 0) (id : ItemId) (slices at : ℕ) (sound : tells → (disk : D) (t : ℕ) → IsSoundDisk ((clock disk).at t)) where
  -- under each name but those a crash leaves what one at the start might have left
  abbrev NamesKept : View D O → View D O → History → Type 0
  NamesKept old new fetched = tells → (history : History) → IsOf history old.items → Besides (MayName (clock old.disk) history (fetched ++ new.failed) new.broken) (clock old.disk) (clock new.disk)

  -- these entries were recorded, and all was kept
  record Gone (old new : View D O) : Type 0 where
    fetched : History
    went : Went old new fetched new.failed new.broken
    keeps : Keeps tells clock says old new
    near : StaysNear (far old.disk) (far new.disk) old new
    later : NoneFell (counts old.disk) (counts new.disk)
    beside : IsOpen old id → NamesKept old new fetched
    -- the names that were given were free, and where the item has no file yet none was touched but parts
    named : tells → new.broken ≡ false → AreFree (clock old.disk) fetched
    parts : IsOpen new id → tells → Besides IsPart (clock old.disk) (clock new.disk)

  stayed : (old new : View D O) → new ≡ old → old.broken ≡ false → old.failed ≡ [] → Gone old new
  stayed old new same whole none = subst (Gone old) (sym same) (record {
    fetched = [];
    went = record {
      whole = whole;
      items_are = refl;
      list_is = sym (append-nil old.list);
      lawful = lawful_none old.items;
      gate_is = omega arith;
      failed_is = refl;
      may = subst (MayTry old.items) (sym none) tt;
      broken_is = refl;
      origin = refl;
      limits = refl;
    };
    keeps = keeps_same tells clock says old old refl;
    near = λ short. refl;
    later = λ kind. omega arith;
    beside = λ none told history held. besides_stay (MayName (clock old.disk) history ([] ++ old.failed) old.broken) (clock old.disk) (clock old.disk) refl;
    named = λ told unbroken other name by. let low = by.is.1 in absurd (omega (arith, low));
    parts = λ none told. besides_stay IsPart (clock old.disk) (clock old.disk) refl;
  })

  not_begun : (old new : View D O) (by : By) (fault : DeskFault) → BeginRefuses tells clock counts old new id by at fault → old.broken ≡ false → old.failed ≡ [] → Gone old new
  not_begun old new by faults.Broken refuses whole none = absurd (false≢true (sym whole ∙ refuses.broken))
  not_begun old new by (faults.NoItem other) refuses whole none = stayed old new refuses.same whole none
  not_begun old new by (faults.WrongState phase) refuses whole none = stayed old new refuses.same whole none
  not_begun old new by faults.NoMemory refuses whole none = stayed old new refuses.same whole none
  not_begun old new by fault refuses whole none = absurd refuses

  module _ (old new : View D O) (was : List Closed) (before after : NetFault → ℕ) (by : By) (item : Item) (there : item_in id.0 old.items.items ≡ Some item) where
    abbrev scene : Scene D O
    scene = scene_of old item by at was before

    own_there : item_in item.id.0 old.items.items ≡ Some item
    own_there = subst (λ (k : ℕ). item_in k old.items.items ≡ Some item) (sym (found-id id.0 old.items.items item there)) there

    module _ (trace : Trace) (close : Close) (recorded failed rest : History) (broken : Bool) (is : all_entries scene trace close ≡ (recorded ++ failed) ++ rest)
        (goes : DeskGoes tells clock says far counts (IsSpared scene recorded) old new recorded failed broken) (freed : tells → new.broken ≡ false → AreFree (clock old.disk) recorded) where
      split : all_entries scene trace close ≡ recorded ++ (failed ++ rest)
      split = is ∙ append_assoc recorded failed rest

      given_name : IsOpen old id → tells → (history : History) → IsOf history old.items → (name : List ℕ) → IsSpared scene recorded name → MayName (clock old.disk) history (recorded ++ new.failed) new.broken name
      given_name none told history held name (inl part) = inl part
      given_name none told history held name (inr given) = inr (finished_by (clock old.disk) new.broken item.id item history recorded new.failed old.items name held (goes.went.lawful history held).lawful
          (recorded_own scene trace close recorded (failed ++ rest) split) own_there (freed told) (given_by scene trace close recorded (failed ++ rest) split (none item there) name given))

      -- the item as the entries leave it
      there_now : item_in id.0 new.items.items ≡ Some (changed_all recorded item)
      there_now =
          ap (λ (v : Listing). item_in id.0 v.items) goes.went.items_are
          ∙ subst (λ (k : ℕ). item_in k (run_of recorded old.items).items ≡ Some (changed_all recorded item)) (found-id id.0 old.items.items item there)
          (run_item item.id.0 recorded old.items item (own_items item.id.0 recorded (recorded_own scene trace close recorded (failed ++ rest) split)) own_there)

      only_parts : IsOpen new id → (name : List ℕ) → IsSpared scene recorded name → IsPart name
      only_parts none name (inl part) = part
      only_parts none name (inr given) = absurd (false≢true (sym (none (changed_all recorded item) there_now) ∙ given.0))

      by_goes : Gone old new
      by_goes = record {
        fetched = recorded;
        went = subst (λ (b : Bool). Went old new recorded new.failed b) (sym goes.went.broken_is) (subst (λ (h : History). Went old new recorded h broken) (sym goes.went.failed_is) goes.went);
        keeps = goes.keeps;
        near = goes.near;
        later = goes.later;
        beside = λ none told history held.
            besides_more (IsSpared scene recorded) (MayName (clock old.disk) history (recorded ++ new.failed) new.broken) (clock old.disk) (clock new.disk) (given_name none told history held) (goes.beside told);
        named = freed;
        parts = λ none told. besides_more (IsSpared scene recorded) IsPart (clock old.disk) (clock new.disk) (only_parts none) (goes.beside told);
      }

    module _ (asked : Trace) (end : Ended) (asks : Asks tells clock says far counts net scene (pass_of item) slices (RoundsOf net end) asked) where
      over : (saves : List (List Slice)) (close : Close)
          → DeskGoes tells clock says far counts (IsSpared scene (all_entries scene (with_saves asked saves) close)) old new (all_entries scene (with_saves asked saves) close) [] false → Gone old new
      over saves close goes =
          let all : History = all_entries scene (with_saves asked saves) close in
          by_goes (with_saves asked saves) close all [] [] false (sym (append-nil (all ++ []) ∙ append-nil all)) goes
          (λ told unbroken. attempt_free tells clock says far counts net sound scene (pass_of item) slices (RoundsOf net end) (with_saves asked saves) asked close refl asks told)

    ended_gone : (came : Bool) (trace : Trace) (end : Ended) → Asks tells clock says far counts net scene (pass_of item) slices (RoundsOf net end) trace → EndedBy came tells clock says far counts net scene (pass_of item) new before after trace end → Gone old new
    ended_gone came trace ended.Complete asks ends = over trace ended.Complete asks ends.saves (Done (total_by scene trace) ends.digest) ends.over.goes
    ended_gone came trace (ended.Stopped reason) asks ends = over trace (ended.Stopped reason) asks ends.saves (Broken ends.cause) ends.over.goes
    ended_gone came trace (ended.Fault faults.NoMemory) asks ends = over trace (ended.Fault faults.NoMemory) asks ends.0 (Broken causes.Memory) ends.1.goes
    ended_gone came trace (ended.Fault (faults.File kind)) asks ends = over trace (ended.Fault (faults.File kind)) asks ends.1.0 (Broken (causes.File kind)) ends.1.1.goes
    ended_gone came trace (ended.Fault (faults.Journal kind)) asks ends =
        by_goes ends.1.after ends.1.close ends.1.recorded ends.1.failed ends.1.rest true ends.1.is ends.1.goes
        (λ told unbroken. absurd (false≢true (sym unbroken ∙ ends.1.goes.went.broken_is)))
    ended_gone came trace (ended.Fault fault) asks ends = absurd ends

  attempt_gone : (old new : View D O) (was closed : List Closed) (before after : NetFault → ℕ) (by : By) (end : Ended) → old.broken ≡ false → old.failed ≡ []
      → Attempts tells clock says far counts net old new was closed before after id by slices at end → Gone old new
  attempt_gone old new was closed before after by end whole none (wanting end_is same still) = stayed old new same whole none
  attempt_gone old new was closed before after by end whole none (refused fault end_is refuses still) = not_begun old new by fault refuses whole none
  attempt_gone old new was closed before after by end whole none (tried found) = ended_gone old new was before after by found.item found.there found.is.came found.is.trace end found.is.asks found.is.ends

  -- one behind another, that stopped
  module _ (old mid new : View D O) (one : Gone old mid) (two : Gone mid new) (whole : mid.broken ≡ false) (none : mid.failed ≡ []) (goes : MayGoOn mid id) where
    first : Went old mid one.fetched [] false
    first = subst (λ (b : Bool). Went old mid one.fetched [] b) whole (subst (λ (h : History). Went old mid one.fetched h mid.broken) none one.went)

    front_name : (history : History) (name : List ℕ) → MayName (clock old.disk) history (one.fetched ++ mid.failed) mid.broken name → MayName (clock old.disk) history ((one.fetched ++ two.fetched) ++ new.failed) new.broken name
    front_name history name (inl part) = inl part
    front_name history name (inr is) =
        let alone = subst (λ (h : History). MayName (clock old.disk) history h mid.broken name) (ap (λ (h : History). one.fetched ++ h) none ∙ append-nil one.fetched) (inr is) in
        subst (λ (h : History). MayName (clock old.disk) history h new.broken name) (sym (append_assoc one.fetched two.fetched new.failed)) (wider history name alone)
      where
        wider : (before : History) (under : List ℕ) → MayName (clock old.disk) before one.fetched mid.broken under → MayName (clock old.disk) before (one.fetched ++ (two.fetched ++ new.failed)) new.broken under
        wider before under (inl part) = inl part
        wider before under (inr finished) = inr (finished_front (clock old.disk) mid.broken new.broken before one.fetched (two.fetched ++ new.failed) under whole finished)

    back_name : tells → (history : History) (name : List ℕ) → MayName (clock mid.disk) (history ++ one.fetched) (two.fetched ++ new.failed) new.broken name → MayName (clock old.disk) history ((one.fetched ++ two.fetched) ++ new.failed) new.broken name
    back_name told history name (inl part) = inl part
    back_name told history name (inr is) =
        subst (λ (h : History). MayName (clock old.disk) history h new.broken name) (sym (append_assoc one.fetched two.fetched new.failed))
        (inr (finished_back (clock old.disk) (clock mid.disk) new.broken history one.fetched (two.fetched ++ new.failed) name (one.named told whole) (one.parts (going_open mid id goes) told) is))

    named_both : tells → new.broken ≡ false → AreFree (clock old.disk) (one.fetched ++ two.fetched)
    named_both told unbroken = free_both (clock old.disk) (clock mid.disk) one.fetched two.fetched (one.parts (going_open mid id goes) told) (one.named told whole) (two.named told unbroken)

    both_gone : Gone old new
    both_gone = record {
      fetched = one.fetched ++ two.fetched;
      went = went_then old mid new one.fetched two.fetched new.failed new.broken first two.went;
      keeps = keeps_then tells clock says old mid new one.keeps one.went.origin none two.keeps;
      near = near_both far old mid new one.fetched two.fetched two.went.list_is first one.near two.near;
      later = λ kind. let a = one.later kind in let b = two.later kind in omega (arith, a, b);
      beside = λ is_open told history held.
          let all : List ℕ → Type 0 = MayName (clock old.disk) history ((one.fetched ++ two.fetched) ++ new.failed) new.broken in
          besides_then all (clock old.disk) (clock mid.disk) (clock new.disk)
          (besides_more (MayName (clock old.disk) history (one.fetched ++ mid.failed) mid.broken) all (clock old.disk) (clock mid.disk) (front_name history) (one.beside is_open told history held))
          (besides_more (MayName (clock mid.disk) (history ++ one.fetched) (two.fetched ++ new.failed) new.broken) all (clock mid.disk) (clock new.disk) (back_name told history)
          (two.beside (going_open mid id goes) told (history ++ one.fetched) (one.went.lawful history held)));
      named = named_both;
      parts = λ is_open told. besides_then IsPart (clock old.disk) (clock mid.disk) (clock new.disk) (one.parts (going_open mid id goes) told) (two.parts is_open told);
    }

  fetch_gone : (new : View D O) (now : List Closed) (after : NetFault → ℕ) (end : Ended) (old : View D O) (was : List Closed) (before : NetFault → ℕ) (by : By) (more : ℕ) → old.broken ≡ false → old.failed ≡ []
      → Fetches tells clock says far counts net id slices at new now after end old was before by more → Gone old new
  fetch_gone new now after end old was before by more whole none (once _ _ _ _ did later no_more) = attempt_gone old new was now before after by end whole none did
  fetch_gone new now after end old was before by _ whole none (again _ _ _ _ mid between amid reason more did later goes rest) =
      let step = attempt_step tells clock says far counts net id slices at old mid was between before amid by (ended.Stopped reason) whole none later did in
      let mid_whole : mid.broken ≡ false = step.went.broken_is ∙ step.by.1 in
      let mid_none : mid.failed ≡ [] = step.went.failed_is ∙ step.by.0 in
      both_gone old mid new (attempt_gone old mid was between before amid by (ended.Stopped reason) whole none did) (fetch_gone new now after end mid between amid Itself more mid_whole mid_none rest) mid_whole mid_none goes

  -- what a fetch keeps, with the entries that are said of it
  pub fetch_goes : (old new : View D O) (was now : List Closed) (before after : NetFault → ℕ) (end : Ended) → old.broken ≡ false → old.failed ≡ [] → Fetched tells clock says far counts net old new was now before after id slices at end
      → (brought : Brought tells clock says far counts net old new was now before after id slices at end) → BringGoes tells clock counts far says old new id brought.fetched
  fetch_goes old new was now before after end whole none did brought =
      let gone = fetch_gone new now after end old was before User did.more whole none did.all in
      let same : gone.fetched ≡ brought.fetched = sym (added_is old new gone.fetched gone.went.list_is) ∙ added_is old new brought.fetched brought.list in
      subst (BringGoes tells clock counts far says old new id) same (record {
        went = gone.went;
        keeps = gone.keeps;
        near = gone.near;
        later = gone.later;
        beside = λ waits. gone.beside (waiting_open old id waits);
      })
