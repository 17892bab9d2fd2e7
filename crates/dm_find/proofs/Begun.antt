-- What is kept where a list is begun.
use Rattle.std.proofs.Common.{◌≡◌, ◌⊎◌, inl, inr, ℕ, ◌+◌, ◌*◌, ◌≤◌, ◌^◌, Bool, true, false, ◌&&◌, IsTrue, List, [], ◌∷◌, ◌++◌, length, map, Option, Some, None, Result, Ok, Err, refl, sym, ◌∙◌, ap, subst, arith, length-append}
use Rattle.std.specs.Prelude.{IsSome, is_some}
use Rattle.std.proofs.lemmas.Bool.{false≢true}
use Rattle.std.proofs.lemmas.List.{append-nil}
use Rattle.dm_types.specs.Limits.{IsLimits, most_items}
use Rattle.dm_types.specs.Name.{IsPart}
use Rattle.dm_types.specs.declared.entry.Entry.{Entry}
use Rattle.dm_types.specs.declared.item.Limits.{Limits}
use Rattle.dm_types.specs.declared.kinds.DiskKind.{DiskKind}
use Rattle.dm_types.specs.declared.entry.Entry.TheVariants.{Reopened}
use Rattle.dm_types.specs.declared.item.Item.{Item}
use Rattle.dm_types.specs.declared.item.Phase.{Phase}
use Rattle.dm_types.specs.declared.item.Phase.TheVariants as phases
use Rattle.dm_disk_model.specs.declared.place.Area.TheVariants.{Files}
use Rattle.dm_disk_model.specs.declared.place.DiskFault.{DiskFault}
use Rattle.dm_disk_model.specs.Disk.{DiskState, History as Clock, Next, Stands, SyncNamesStep, now}
use Rattle.dm_disk_model.specs.File.{settled_file}
use Rattle.dm_disk_model.specs.Folder.{Folder}
use Rattle.dm_disk_model.specs.Moments.{KeepsFiles, LeavesOnly, Throughout}
use Rattle.dm_disk_model.proofs.FirmNames.{has_now}
use Rattle.dm_disk_model.proofs.Firmness.{all_firm}
use Rattle.dm_disk_model.proofs.Places.{stands_from}
use Rattle.dm_disk_model.proofs.Reaching.{at_end, at_start, joined, over_call, weaker}
use Rattle.dm_record.specs.Limits.{IsEntry}
use Rattle.dm_record.specs.Spelling.{spelling_of}
use Rattle.dm_item.specs.Fields.{is_running, stopped}
use Rattle.dm_item.specs.Lawful.{History, IsOf, items_of}
use Rattle.dm_item.specs.Listing.{Admits, Listing, Takes, applied, item_in}
use Rattle.dm_item.specs.Row.{stopped_item}
use Rattle.dm_item.proofs.Histories.{keeps_step, limit_applied}
use Rattle.dm_journal.specs.AtRest.{AtRest, WithOrWithout, journal_name, journal_place}
use Rattle.dm_kept.specs.Files.{EachItem, EndsLive, Facts, IfGood, PartsStand, Says, brings, no_covers, says_all}
use Rattle.dm_kept.specs.Kept.{Kept, Rests, Sits}
use Rattle.dm_kept.specs.Recovery.{Through}
use Rattle.dm_kept.specs.Room.{IsTaken, MayFollow}
use Rattle.dm_kept.specs.Spelled.{AllEntries, bodies_of}
use Rattle.dm_kept.proofs.Entered.{entered_is, facts_reopened, items_are}
use Rattle.dm_kept.proofs.Flags.{if_is, if_map}
use Rattle.dm_kept.proofs.Frame.{names_stay}
use Rattle.dm_kept.proofs.Histories.{entries_push, follows_more, taken_more, taken_push}
use Rattle.dm_kept.proofs.Listings.{follows_of}
use Rattle.dm_kept.proofs.Lists.{each_stopped}
use Rattle.dm_kept.proofs.Resting as resting
use Rattle.dm_store.specs.declared.life.Life.{Life}
use Rattle.dm_store.specs.Becomes.{run_of}
use Rattle.dm_store.specs.Keeps.{HoldsOf, IsDesk, RestsBy}
use Rattle.dm_store.specs.Lives.{AreBounded, AreLives, LifeOf, covers_of, life_in}
use Rattle.dm_store.specs.View.{View, spelled}
use Rattle.dm_store.proofs.Keeping.{holds_any, near_one}
use Rattle.dm_find.specs.Reopening.{BeginGoes, BeginMakes, IsBare, IsHere, ListBegins, RecordedOr, ReopenGoes, WhereOk, reopened_by}
use Rattle.dm_find.specs.declared.hindered.Hindered.{Hindered}
use Rattle.dm_find.specs.declared.hindered.Hindered.TheVariants as hindrances

-- the list takes the entry of its opening
pub reopened_admits : (v : Listing) (at : ℕ) → Admits v (reopened_by v at)
reopened_admits v at = record { room = tt; meets = inl refl }

pub reopened_takes : (v : Listing) (at : ℕ) → Takes (reopened_by v at) v (applied (reopened_by v at) v)
reopened_takes v at = record { room = tt; meets = inl refl; value = refl }

-- the journal stands where a history rests in it
pub rest_stands : (disk : DiskState) (gate : ℕ) (bodies : List (List ℕ)) → AtRest disk gate bodies → Stands disk journal_place
rest_stands disk gate bodies rest = stands_from disk journal_place rest.bytes (has_now disk.state journal_name (settled_file rest.bytes) rest.file)

-- behind it no item runs

stopped_idle : (phase : Phase) → is_running (stopped phase) ≡ false
stopped_idle phases.Waiting = refl
stopped_idle phases.Running = refl
stopped_idle phases.Paused = refl
stopped_idle phases.Finishing = refl
stopped_idle phases.Complete = refl
stopped_idle phases.Cancelled = refl
stopped_idle (phases.Interrupted reason) = refl

-- no item runs
abbrev pub AreIdle : List Item → Type 0
AreIdle items = EachItem (λ item. is_running item.phase ≡ false) items

pub idle_behind : (v : Listing) (at : ℕ) → AreIdle (applied (reopened_by v at) v).items
idle_behind v at = each_stopped (λ item. Unit {0}) (λ item. is_running item.phase ≡ false) v.items (λ item is. stopped_idle item.phase) (λ id item there. tt)

pub idle_lives : (items : List Item) → AreIdle items → AreLives items []
idle_lives items idle id = by (item_in id items) (idle id)
  where
    by : (found : Option Item) → ((item : Item) → found ≡ Some item → is_running item.phase ≡ false) → LifeOf found None
    by None each = tt
    by (Some item) each = each item refl

idle_brings : (runs described : Bool) → runs ≡ false → IsTrue (runs && described) → ⊥
idle_brings true described idle brought = absurd cc
idle_brings false described idle brought = false≢true brought

idle_stand : (items : List Item) (folder : Folder) → AreIdle items → PartsStand items folder
idle_stand items folder idle id item there brought = absurd (idle_brings (is_running item.phase) (is_some item.key) (idle id item there) brought)

-- The entry was appended, or the journal failed.
module _ {D O : Type 0} (tells : Type 0) (clock : D → Clock) (says : O → Says) (old new : View D O) (at : ℕ) (is : IsEntry (reopened_by old.items at)) (few : old.items.limit ≤ most_items)
    (keeps : tells → KeepsFiles (clock old.disk) (clock new.disk))
    (only : tells → (bodies : List (List ℕ)) → AtRest (now (clock old.disk)) old.gate bodies → LeavesOnly (clock old.disk) (clock new.disk) (WithOrWithout bodies (spelling_of (reopened_by old.items at)))) where
  abbrev entry : Entry
  entry = reopened_by old.items at

  follows : (found : History) → IsOf found old.items → MayFollow most_items found entry
  follows found is_of = follows_more old.items.limit most_items found entry few (follows_of old.items entry found is_of tt (inl refl))

  facts_behind : (good : Bool) (found : History) → IsOf found old.items → Rests good (says old.origin) found old.gate no_covers (now (clock old.disk))
      → IfGood good (Facts (says old.origin) no_covers (items_of (found ++ entry ∷ [])) (now (clock old.disk)).files)
  facts_behind good found is_of rests =
      let folder : Folder = (now (clock old.disk)).files in
      subst (λ (items : List Item). IfGood good (Facts (says old.origin) no_covers items folder)) (entered_is found entry old.items is_of (reopened_admits old.items at))
      (if_map good (Facts (says old.origin) no_covers (items_of found) folder) (Facts (says old.origin) no_covers (applied entry old.items).items folder)
      (λ facts. facts_reopened (says old.origin) no_covers folder old.items.next at old.items
      (subst (λ (items : List Item). Facts (says old.origin) no_covers items folder) (sym (items_are found old.items is_of)) facts)) rests.facts)

  appended_moments : tells → (good : Bool) (found : History) → IsOf found old.items → Rests good (says old.origin) found old.gate no_covers (now (clock old.disk))
      → Throughout (clock old.disk) (clock new.disk) (Kept good (says old.origin) (Through found (entry ∷ [])))
  appended_moments told good found is_of rests =
      resting.moments good (says old.origin) found old.gate no_covers no_covers (clock old.disk) (clock new.disk) entry is (follows found is_of) rests (keeps told) (facts_behind good found is_of rests)
      (only told (bodies_of found) rests.journal)

  pub reopen_failed : (fault : Hindered) → ReopenGoes tells clock says old new entry (Err fault)
  reopen_failed fault told good found is_of rests = (appended_moments told good found is_of rests, tt)

  pub reopen_done : (tells → (bodies : List (List ℕ)) → AtRest (now (clock old.disk)) old.gate bodies → AtRest (now (clock new.disk)) new.gate (bodies ++ spelling_of entry ∷ [])) → ReopenGoes tells clock says old new entry (Ok tt)
  reopen_done rest told good found is_of rests = (
    appended_moments told good found is_of rests,
    resting.rests_more good (says old.origin) found old.gate no_covers no_covers (clock old.disk) (clock new.disk) entry is (follows found is_of) rests (keeps told) (facts_behind good found is_of rests) new.gate
        (rest told (bodies_of found) rests.journal) (at_end (clock old.disk) (clock new.disk) (λ disk. disk.files ≡ (now (clock old.disk)).files) (keeps told)),
  )

-- nothing was done
pub reopen_untried : {D O : Type 0} (tells : Type 0) (clock : D → Clock) (says : O → Says) (old new : View D O) (entry : Entry) (fault : Hindered) → clock new.disk ≡ clock old.disk → ReopenGoes tells clock says old new entry (Err fault)
reopen_untried tells clock says old new entry fault same told good found is_of rests = (
  subst (λ (c : Clock). Throughout (clock old.disk) c (Kept good (says old.origin) (Through found (entry ∷ [])))) (sym same)
      (at_start (clock old.disk) (Kept good (says old.origin) (Through found (entry ∷ []))) (resting.rests_kept good (says old.origin) found (entry ∷ []) old.gate no_covers (now (clock old.disk)) rests)),
  tt,
)

-- A broken desk of what was found, whatever was tried since.
module _ {D O : Type 0} (tells : Type 0) (clock : D → Clock) (desk : View D O) (found : History) where
  pub desk_of : (broken : Bool) → desk.broken ≡ broken → IsLimits desk.limits → desk.items.limit ≡ desk.limits.items → AllEntries (found ++ desk.list) → IsOf (found ++ desk.list) desk.items → desk.lives ≡ []
      → (broken ≡ false → (desk.failed ≡ []) × AreIdle desk.items.items) → (tells → HoldsOf false says_all clock desk (found ++ desk.list)) → IsDesk tells clock desk
  desk_of broken is limits limit entries items lives whole holds = record {
    limits_are = limits;
    limit = limit;
    founded = record { before = found; entries = entries; items = items; holds = holds };
    failed = λ unbroken. (whole (sym is ∙ unbroken)).0;
    lives = λ unbroken. subst (AreLives desk.items.items) (sym lives) (idle_lives desk.items.items (whole (sym is ∙ unbroken)).1);
    bounded = subst (AreBounded (desk.limits.checkpoint + desk.limits.piece)) (sym lives) (λ id. tt);
  }

-- A sync of the files' names behind the entry.
module _ (good : Bool) (says : Says) (history : History) (gate : ℕ) (old new : Clock) (result : Result (Unit {0}) DiskFault) (run : Next old new (SyncNamesStep Files result)) (rests : Rests good says history gate no_covers (now old)) where
  synced_rests : Rests good says history gate no_covers (now new)
  synced_rests =
      let stays = names_stay says result (now old) (now new) run.stepped in
      resting.rests_with good says history gate no_covers no_covers (now old) (now new) stays.state (stays.facts no_covers (items_of history)) rests

  synced_moments : (more : History) → Throughout old new (Kept good says (Through history more))
  synced_moments more =
      over_call old new (Kept good says (Through history more)) (SyncNamesStep Files result) run (resting.rests_kept good says history more gate no_covers (now old) rests)
      (resting.rests_kept good says history more gate no_covers (now new) synced_rests)

synced_sits : (good : Bool) (says : Says) (history : History) (gate : ℕ) (old new : Clock) → Next old new (SyncNamesStep Files (Ok tt)) → Rests good says history gate no_covers (now old) → AreIdle (items_of history)
    → Sits good says history gate no_covers (now new)
synced_sits good says history gate old new run rests idle = record {
  rests = synced_rests good says history gate old new (Ok tt) run rests;
  quiet = λ name not. all_firm (now old) (now new) run.stepped name;
  stand = idle_stand (items_of history) (now new).files idle;
  ends = if_is good (EndsLive no_covers (items_of history) (now new).files)
      (λ id item there brought. absurd (idle_brings (is_running item.phase) (is_some item.key) (idle id item there) brought));
}

-- What is held behind each way in which a beginning ends.
module _ {D O : Type 0} (tells : Type 0) (clock : D → Clock) (says : O → Says) (old : View D O) (at : ℕ) (bare : IsBare old) where
  abbrev tried : Entry
  tried = reopened_by old.items at

  held_broken : (good : Bool) (said : Says) (new : View D O) (history : History) → new.broken ≡ true → IsOf history new.items → Kept good said (Through history new.failed) (now (clock new.disk)) → HoldsOf good said clock new history
  held_broken good said new history broken is_of kept =
      record { items = is_of; rests = subst (λ (b : Bool). RestsBy b good said history new.failed new.gate (covers_of new.lives) (now (clock new.disk))) (sym broken) kept }

  -- nothing is listed
  as_found : (new : View D O) (found : History) → new.list ≡ [] → found ++ new.list ≡ found
  as_found new found none = ap (λ (h : History). found ++ h) none ∙ append-nil found

  module _ (new : View D O) where
    pub begun_untried : new ≡ old → BeginGoes tells clock says old new tried
    begun_untried same told good found is_of rests =
        let said = says old.origin in
        let here : Kept good said (Through found []) (now (clock old.disk)) = resting.rests_kept good said found [] old.gate no_covers (now (clock old.disk)) rests in
        let list = as_found new found (ap (λ (v : View D O). v.list) same ∙ bare.list) in (
          subst (λ (v : View D O). Throughout (clock old.disk) (clock v.disk) (Kept good said (Through found (tried ∷ [])))) (sym same)
              (at_start (clock old.disk) (Kept good said (Through found (tried ∷ []))) (resting.rests_kept good said found (tried ∷ []) old.gate no_covers (now (clock old.disk)) rests)),
          held_broken good said new (found ++ new.list) (ap (λ (v : View D O). v.broken) same ∙ bare.broken)
              (subst (λ (h : History). IsOf h new.items) (sym list) (subst (IsOf found) (sym (ap (λ (v : View D O). v.items) same)) is_of))
              (subst (λ (h : History). Kept good said (Through h new.failed) (now (clock new.disk))) (sym list)
              (subst (λ (h : History). Kept good said (Through found h) (now (clock new.disk))) (sym (ap (λ (v : View D O). v.failed) same ∙ bare.failed))
              (subst (λ (v : View D O). Kept good said (Through found []) (now (clock v.disk))) (sym same) here))),
        )

    pub begun_fell : (kind : DiskKind) → new ≡ record old { disk = new.disk; failed = tried ∷ [] } → ReopenGoes tells clock says old new tried (Err (hindrances.Disk kind)) → BeginGoes tells clock says old new tried
    begun_fell kind same goes told good found is_of rests =
        let said = says old.origin in
        let moments = (goes told good found is_of rests).0 in
        let list = as_found new found (ap (λ (v : View D O). v.list) same ∙ bare.list) in (
          moments,
          held_broken good said new (found ++ new.list) (ap (λ (v : View D O). v.broken) same ∙ bare.broken)
              (subst (λ (h : History). IsOf h new.items) (sym list) (subst (IsOf found) (sym (ap (λ (v : View D O). v.items) same)) is_of))
              (subst (λ (h : History). Kept good said (Through h new.failed) (now (clock new.disk))) (sym list)
              (subst (λ (h : History). Kept good said (Through found h) (now (clock new.disk))) (sym (ap (λ (v : View D O). v.failed) same))
              (at_end (clock old.disk) (clock new.disk) (Kept good said (Through found (tried ∷ []))) moments))),
        )

    -- The entry was recorded, and then the names were synced or not.
    module _ (mid : View D O) (result : Result (Unit {0}) DiskFault) (recorded : RecordedOr old mid tried (Ok tt)) (goes : ReopenGoes tells clock says old mid tried (Ok tt))
        (run : tells → Next (clock mid.disk) (clock new.disk) (SyncNamesStep Files result)) where
      mid_list : mid.list ≡ tried ∷ []
      mid_list = ap (λ (v : View D O). v.list) recorded ∙ ap (λ (h : History). h ++ tried ∷ []) bare.list

      mid_failed : mid.failed ≡ []
      mid_failed = ap (λ (v : View D O). v.failed) recorded ∙ bare.failed

      mid_items : mid.items ≡ applied tried old.items
      mid_items = ap (λ (v : View D O). v.items) recorded

      items_behind : (found : History) → IsOf found old.items → IsOf (found ++ tried ∷ []) mid.items
      items_behind found is_of = subst (IsOf (found ++ tried ∷ [])) (sym mid_items) (keeps_step found tried old.items (applied tried old.items) is_of (reopened_takes old.items at))

      both_moments : tells → (good : Bool) (found : History) → IsOf found old.items → Rests good (says old.origin) found old.gate no_covers (now (clock old.disk))
          → Throughout (clock old.disk) (clock new.disk) (Kept good (says old.origin) (Through found (tried ∷ [])))
      both_moments told good found is_of rests =
          let said = says old.origin in
          let went = goes told good found is_of rests in
          joined (clock old.disk) (clock mid.disk) (clock new.disk) (Kept good said (Through found (tried ∷ []))) went.0
          (weaker (clock mid.disk) (clock new.disk) (Kept good said (Through (found ++ tried ∷ []) [])) (Kept good said (Through found (tried ∷ [])))
          (λ disk. resting.kept_weaker good said (Through (found ++ tried ∷ []) []) (Through found (tried ∷ [])) disk (resting.through_back found (tried ∷ []) []))
          (synced_moments good said (found ++ tried ∷ []) mid.gate (clock mid.disk) (clock new.disk) result (run told) went.1 []))

      pub begun_unsynced : new ≡ record mid { disk = new.disk } → BeginGoes tells clock says old new tried
      begun_unsynced same told good found is_of rests =
          let said = says old.origin in
          let went = goes told good found is_of rests in
          let list : new.list ≡ tried ∷ [] = ap (λ (v : View D O). v.list) same ∙ mid_list in
          let failed : new.failed ≡ [] = ap (λ (v : View D O). v.failed) same ∙ mid_failed in (
            both_moments told good found is_of rests,
            subst (λ (h : History). HoldsOf good said clock new (found ++ h)) (sym list)
                (held_broken good said new (found ++ tried ∷ []) (ap (λ (v : View D O). v.broken) same ∙ ap (λ (v : View D O). v.broken) recorded ∙ bare.broken)
                (subst (IsOf (found ++ tried ∷ [])) (sym (ap (λ (v : View D O). v.items) same)) (items_behind found is_of))
                (resting.rests_kept good said (found ++ tried ∷ []) new.failed mid.gate no_covers (now (clock new.disk))
                (synced_rests good said (found ++ tried ∷ []) mid.gate (clock mid.disk) (clock new.disk) result (run told) went.1))),
          )

      idle_of : (found : History) → IsOf found old.items → AreIdle (items_of (found ++ tried ∷ []))
      idle_of found is_of = subst AreIdle (entered_is found tried old.items is_of (reopened_admits old.items at)) (idle_behind old.items at)

    module _ (mid : View D O) (recorded : RecordedOr old mid tried (Ok tt)) (goes : ReopenGoes tells clock says old mid tried (Ok tt)) (run : tells → Next (clock mid.disk) (clock new.disk) (SyncNamesStep Files (Ok tt)))
        (same : new ≡ record mid { disk = new.disk; broken = false }) where
      new_lives : new.lives ≡ []
      new_lives = ap (λ (v : View D O). v.lives) same ∙ ap (λ (v : View D O). v.lives) recorded ∙ bare.lives

      pub begun_done : BeginGoes tells clock says old new tried
      begun_done told good found is_of rests =
          let said = says old.origin in
          let went = goes told good found is_of rests in
          let history : History = found ++ tried ∷ [] in
          let list : new.list ≡ tried ∷ [] = ap (λ (v : View D O). v.list) same ∙ mid_list mid (Ok tt) recorded goes run in
          let sits = synced_sits good said history mid.gate (clock mid.disk) (clock new.disk) (run told) went.1 (idle_of mid (Ok tt) recorded goes run found is_of) in (
            both_moments mid (Ok tt) recorded goes run told good found is_of rests,
            subst (λ (h : History). HoldsOf good said clock new (found ++ h)) (sym list) (record {
              items = subst (IsOf history) (sym (ap (λ (v : View D O). v.items) same)) (items_behind mid (Ok tt) recorded goes run found is_of);
              rests = subst (λ (b : Bool). RestsBy b good said history new.failed new.gate (covers_of new.lives) (now (clock new.disk))) (sym (ap (λ (v : View D O). v.broken) same))
                  (subst (λ (l : List Life). Sits good said history new.gate (covers_of l) (now (clock new.disk))) (sym new_lives)
                  (subst (λ (n : ℕ). Sits good said history n no_covers (now (clock new.disk))) (sym (ap (λ (v : View D O). v.gate) same)) sits));
            }),
          )

-- The store of a list that was begun, or hindered.
module _ {D O : Type 0} (tells : Type 0) (clock : D → Clock) (says : O → Says) (old new : View D O) (at : ℕ) (here : IsHere tells clock old) (limits : IsLimits old.limits) (limit : old.items.limit ≡ old.limits.items)
    (goes : BeginGoes tells clock says old new (reopened_by old.items at)) where
  here_rests : tells → Rests false (says old.origin) here.found old.gate no_covers (now (clock old.disk))
  here_rests told =
      record { journal = here.rest told; entries = here.entries; taken = taken_more old.limits.items most_items here.found limits.items.1 here.taken; facts = tt }

  pub begun_desk : (broken : Bool) → ListBegins old new (reopened_by old.items at) broken → AllEntries (here.found ++ new.list) → IsOf (here.found ++ new.list) new.items → (broken ≡ false → (new.failed ≡ []) × AreIdle new.items.items)
      → new.items.limit ≡ old.items.limit → IsDesk tells clock new
  begun_desk broken begins entries items whole same_limit =
      desk_of tells clock new here.found broken begins.broken_is (subst IsLimits (sym begins.limits) limits) (same_limit ∙ limit ∙ sym (ap (λ (l : Limits). l.items) begins.limits)) entries items begins.lives whole
      (λ told. holds_any (says old.origin) says_all clock new (here.found ++ new.list) (goes told false here.found here.list (here_rests told)).1)

-- What each ending makes of the desk.
module _ {D O : Type 0} (old : View D O) (at : ℕ) (bare : IsBare old) (new : View D O) where
  begins_with : (list : History) (broken : Bool) → new.list ≡ list → new.items ≡ run_of list old.items → new.gate ≡ old.gate + spelled list → new.lives ≡ old.lives → new.broken ≡ broken → new.origin ≡ old.origin → new.limits ≡ old.limits
      → (list ++ new.failed ≡ reopened_by old.items at ∷ []) ⊎ (list ++ new.failed ≡ []) → ListBegins old new (reopened_by old.items at) broken
  begins_with list broken is items gate lives broken_is origin limits tries = record {
    items_are = items ∙ ap (λ (h : History). run_of h old.items) (sym is);
    gate_is = gate ∙ ap (λ (h : History). old.gate + spelled h) (sym is);
    lives = lives ∙ bare.lives;
    broken_is = broken_is;
    origin = origin;
    limits = limits;
    tried = subst (λ (h : History). (h ++ new.failed ≡ reopened_by old.items at ∷ []) ⊎ (h ++ new.failed ≡ [])) (sym is) tries;
  }

  pub makes_untried : new ≡ old → ListBegins old new (reopened_by old.items at) true
  makes_untried same =
      begins_with [] true (ap (λ (v : View D O). v.list) same ∙ bare.list) (ap (λ (v : View D O). v.items) same) (let gate = ap (λ (v : View D O). v.gate) same in omega (arith, gate)) (ap (λ (v : View D O). v.lives) same)
      (ap (λ (v : View D O). v.broken) same ∙ bare.broken) (ap (λ (v : View D O). v.origin) same) (ap (λ (v : View D O). v.limits) same) (inr (ap (λ (v : View D O). v.failed) same ∙ bare.failed))

  pub makes_fell : new ≡ record old { disk = new.disk; failed = reopened_by old.items at ∷ [] } → ListBegins old new (reopened_by old.items at) true
  makes_fell same =
      begins_with [] true (ap (λ (v : View D O). v.list) same ∙ bare.list) (ap (λ (v : View D O). v.items) same) (let gate = ap (λ (v : View D O). v.gate) same in omega (arith, gate)) (ap (λ (v : View D O). v.lives) same)
      (ap (λ (v : View D O). v.broken) same ∙ bare.broken) (ap (λ (v : View D O). v.origin) same) (ap (λ (v : View D O). v.limits) same) (inl (ap (λ (v : View D O). v.failed) same))

  pub recorded_list : (mid : View D O) (broken : Bool) → RecordedOr old mid (reopened_by old.items at) (Ok tt) → new ≡ record mid { disk = new.disk; broken = broken } → new.list ≡ reopened_by old.items at ∷ []
  recorded_list mid broken recorded same = ap (λ (v : View D O). v.list) same ∙ ap (λ (v : View D O). v.list) recorded ∙ ap (λ (h : History). h ++ reopened_by old.items at ∷ []) bare.list

  pub recorded_failed : (mid : View D O) (broken : Bool) → RecordedOr old mid (reopened_by old.items at) (Ok tt) → new ≡ record mid { disk = new.disk; broken = broken } → new.failed ≡ []
  recorded_failed mid broken recorded same = ap (λ (v : View D O). v.failed) same ∙ ap (λ (v : View D O). v.failed) recorded ∙ bare.failed

  -- it was recorded, and then only the disk and the mark changed
  pub makes_recorded : (mid : View D O) (broken : Bool) → RecordedOr old mid (reopened_by old.items at) (Ok tt) → new ≡ record mid { disk = new.disk; broken = broken } → ListBegins old new (reopened_by old.items at) broken
  makes_recorded mid broken recorded same =
      begins_with (reopened_by old.items at ∷ []) broken (recorded_list mid broken recorded same) (ap (λ (v : View D O). v.items) same ∙ ap (λ (v : View D O). v.items) recorded)
      (let gate = ap (λ (v : View D O). v.gate) same ∙ ap (λ (v : View D O). v.gate) recorded in omega (arith, gate)) (ap (λ (v : View D O). v.lives) same ∙ ap (λ (v : View D O). v.lives) recorded)
      (ap (λ (v : View D O). v.broken) same) (ap (λ (v : View D O). v.origin) same ∙ ap (λ (v : View D O). v.origin) recorded) (ap (λ (v : View D O). v.limits) same ∙ ap (λ (v : View D O). v.limits) recorded)
      (inl (ap (λ (h : History). reopened_by old.items at ∷ h) (recorded_failed mid broken recorded same)))

-- The entry wasn't recorded.
pub hindered_goes : {D O : Type 0} (tells : Type 0) (clock : D → Clock) (says : O → Says) (old : View D O) (at : ℕ) (bare : IsBare old) (new : View D O) (fault : Hindered) → RecordedOr old new (reopened_by old.items at) (Err fault)
    → ReopenGoes tells clock says old new (reopened_by old.items at) (Err fault) → BeginGoes tells clock says old new (reopened_by old.items at)
hindered_goes tells clock says old at bare new (hindrances.Disk kind) makes goes = begun_fell tells clock says old at bare new kind makes goes
hindered_goes tells clock says old at bare new hindrances.NoMemory makes goes = begun_untried tells clock says old at bare new makes

pub hindered_begins : {D O : Type 0} (old : View D O) (at : ℕ) (bare : IsBare old) (new : View D O) (fault : Hindered) → RecordedOr old new (reopened_by old.items at) (Err fault) → ListBegins old new (reopened_by old.items at) true
hindered_begins old at bare new (hindrances.Disk kind) makes = makes_fell old at bare new makes
hindered_begins old at bare new hindrances.NoMemory makes = makes_untried old at bare new makes

pub hindered_makes : {D O : Type 0} (old : View D O) (at : ℕ) (bare : IsBare old) (new : View D O) (fault : Hindered) → RecordedOr old new (reopened_by old.items at) (Err fault) → BeginMakes old new (reopened_by old.items at) (Err fault)
hindered_makes old at bare new (hindrances.Disk kind) makes = makes_fell old at bare new makes
hindered_makes old at bare new hindrances.NoMemory makes = (makes_untried old at bare new makes, ap (λ (v : View _ _). v.failed) makes ∙ bare.failed)

hindered_list : {D O : Type 0} (old new : View D O) (entry : Entry) (fault : Hindered) → RecordedOr old new entry (Err fault) → (new.list ≡ old.list) × (new.items ≡ old.items)
hindered_list old new e (hindrances.Disk kind) makes = (ap (λ (v : View _ _). v.list) makes, ap (λ (v : View _ _). v.items) makes)
hindered_list old new e hindrances.NoMemory makes = (ap (λ (v : View _ _). v.list) makes, ap (λ (v : View _ _). v.items) makes)

-- so the store keeps what every store does
pub hindered_desk : {D O : Type 0} (tells : Type 0) (clock : D → Clock) (says : O → Says) (old new : View D O) (at : ℕ) → IsBare old → (here : IsHere tells clock old) → IsLimits old.limits → old.items.limit ≡ old.limits.items
    → BeginGoes tells clock says old new (reopened_by old.items at) → (fault : Hindered) → RecordedOr old new (reopened_by old.items at) (Err fault) → IsDesk tells clock new
hindered_desk tells clock says old new at bare here limits limit goes fault makes =
    let both = hindered_list old new (reopened_by old.items at) fault makes in
    let same : here.found ++ new.list ≡ here.found = ap (λ (h : History). here.found ++ h) (both.0 ∙ bare.list) ∙ append-nil here.found in
    begun_desk tells clock says old new at here limits limit goes true (hindered_begins old at bare new fault makes) (subst AllEntries (sym same) here.entries)
    (subst (λ (h : History). IsOf h new.items) (sym same) (subst (IsOf here.found) (sym both.1) here.list)) (λ unbroken. absurd (false≢true (sym unbroken))) (ap (λ (v : Listing). v.limit) both.1)

pub recorded_store : {D O : Type 0} (tells : Type 0) (clock : D → Clock) (says : O → Says) (old mid new : View D O) (at : ℕ) → (bare : IsBare old) → (here : IsHere tells clock old) → IsLimits old.limits → old.items.limit ≡ old.limits.items
    → BeginGoes tells clock says old new (reopened_by old.items at) → IsEntry (reopened_by old.items at) → (broken : Bool) → RecordedOr old mid (reopened_by old.items at) (Ok tt) → new ≡ record mid { disk = new.disk; broken = broken } → IsDesk tells clock new
recorded_store tells clock says old mid new at bare here limits limit goes is broken recorded same =
    let entry : Entry = reopened_by old.items at in
    let items : new.items ≡ applied entry old.items = ap (λ (v : View _ _). v.items) same ∙ ap (λ (v : View _ _). v.items) recorded in
    let list : here.found ++ new.list ≡ here.found ++ entry ∷ [] = ap (λ (h : History). here.found ++ h) (recorded_list old at bare new mid broken recorded same) in
    begun_desk tells clock says old new at here limits limit goes broken (makes_recorded old at bare new mid broken recorded same) (subst AllEntries (sym list) (entries_push here.found entry here.entries is))
    (subst (λ (h : History). IsOf h new.items) (sym list) (subst (IsOf (here.found ++ entry ∷ [])) (sym items) (keeps_step here.found entry old.items (applied entry old.items) here.list (reopened_takes old.items at))))
    (λ unbroken. (recorded_failed old at bare new mid broken recorded same, subst (λ (v : Listing). AreIdle v.items) (sym items) (idle_behind old.items at))) (ap (λ (v : Listing). v.limit) items ∙ limit_applied entry old.items)

-- where only the disk changed behind the entry, it is broken still
pub still_broken : {D O : Type 0} (old : View D O) (at : ℕ) (bare : IsBare old) (mid new : View D O) → RecordedOr old mid (reopened_by old.items at) (Ok tt) → new ≡ record mid { disk = new.disk } → new ≡ record mid { disk = new.disk; broken = true }
still_broken {D = D} {O = O} old at bare mid new recorded same =
    let broken : mid.broken ≡ true = ap (λ (v : View D O). v.broken) recorded ∙ bare.broken in
    same ∙ ap (λ (b : Bool). record mid { disk = new.disk; broken = b }) broken

-- there is room for it
pub begun_room : {D O : Type 0} (old new : View D O) (at : ℕ) (broken : Bool) (capacity after : ℕ) → after ≡ capacity → length old.list + 1 + 3 * length old.lives ≤ capacity → ListBegins old new (reopened_by old.items at) broken
    → length new.list + 0 + 3 * length new.lives ≤ after
begun_room old new at broken capacity after same room begins =
    let lives : length new.lives ≡ 0 = ap (length {A = Life}) begins.lives in
    let most : length new.list ≤ 1 = by begins.tried in
    omega (arith, same, room, lives, most)
  where
    by : (new.list ++ new.failed ≡ reopened_by old.items at ∷ []) ⊎ (new.list ++ new.failed ≡ []) → length new.list ≤ 1
    by (inl one) = let size = ap (length {A = Entry}) one in let both = length-append new.list new.failed in omega (arith, size, both)
    by (inr none) = let size = ap (length {A = Entry}) none in let both = length-append new.list new.failed in omega (arith, size, both)
