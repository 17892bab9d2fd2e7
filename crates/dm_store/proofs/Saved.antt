-- What is kept where what is live of an attempt is saved.
use Rattle.std.proofs.Common.{◌≡◌, ◌≢◌, ◌⊎◌, inl, inr, ℕ, ◌+◌, ◌-◌, ◌*◌, ◌≤◌, ◌^◌, ◌==◌, Bool, true, false, ◌&&◌, IsTrue, List, [], ◌∷◌, ◌++◌, length, Option, Some, None, Result, Ok, Err, refl, sym, ◌∙◌, ap, subst, arith}
use Rattle.std.specs.Prelude.{IsSome, cond, is_some, min}
use Rattle.std.specs.Option.{option_map}
use Rattle.std.proofs.lemmas.Bool.{false≢true}
use Rattle.dm_types.specs.Faults.{NoneFell, Rose}
use Rattle.dm_types.specs.Name.{IsPart, part_name}
use Rattle.dm_types.specs.declared.entry.Entry.{Entry}
use Rattle.dm_types.specs.declared.entry.Entry.TheVariants as entries
use Rattle.dm_types.specs.declared.item.Item.{Item}
use Rattle.dm_types.specs.declared.item.ItemId.{ItemId}
use Rattle.dm_types.specs.declared.item.Key.{Key}
use Rattle.dm_types.specs.declared.item.Phase.{Phase}
use Rattle.dm_types.specs.declared.item.Phase.TheVariants as phases
use Rattle.dm_types.specs.declared.kinds.DiskKind.{DiskKind}
use Rattle.dm_types.specs.declared.kinds.DiskKind.TheVariants as kinds
use Rattle.dm_types.specs.declared.reason.Reason.TheVariants as reasons
use Rattle.dm_types.specs.declared.slices.Slice.{Slice}
use Rattle.dm_policy.specs.Cause.{reason_of_file}
use Rattle.dm_slice.specs.Cover.{IsCover, IsRising, IsWithinTotal, normal_of}
use Rattle.dm_slice.specs.Words.{Holds, IsWithin, cover_end, end_of}
use Rattle.dm_slice.proofs.Joins.{normal_of-meaning}
use Rattle.dm_slice.proofs.Opened.{within-normal_of}
use Rattle.dm_slice.proofs.Sums.{covered-normal_of}
use Rattle.dm_disk_model.specs.declared.place.DiskFault.{DiskFault}
use Rattle.dm_disk_model.specs.declared.place.Place.{Place}
use Rattle.dm_disk_model.specs.Beside.{Besides}
use Rattle.dm_disk_model.specs.Disk.{DiskState, History as Clock, IsSoundDisk, Next, Stands, SyncStep, now}
use Rattle.dm_disk_model.specs.File.{IsSynced}
use Rattle.dm_disk_model.specs.Folder.{Folder, Names, after_changes, contents_of, names_of}
use Rattle.dm_disk_model.specs.Moments.{KeepsFiles, Throughout}
use Rattle.dm_disk_model.proofs.Beside.{besides_same, besides_sync, besides_then}
use Rattle.dm_disk_model.proofs.Firmness.{quiet_sync}
use Rattle.dm_disk_model.proofs.PendingNames.{with_name_cases}
use Rattle.dm_disk_model.proofs.Places.{sync_reads}
use Rattle.dm_disk_model.proofs.Reaching.{at_end, over_call}
use Rattle.dm_disk_model.proofs.Reading.{apart_now, stepped_others}
use Rattle.dm_item.specs.Fields.{is_running}
use Rattle.dm_item.specs.History.{get}
use Rattle.dm_item.specs.Lawful.{History, IsOf, items_of}
use Rattle.dm_item.specs.Listing.{Admits, Listing, Row, applied, changed_at, item_in}
use Rattle.dm_item.specs.Row.{changed}
use Rattle.dm_item.proofs.Shorts.{sound_in}
use Rattle.dm_part.specs.Keeping.{Going, Held, Stage}
use Rattle.dm_part.specs.Laws.{files_place}
use Rattle.dm_part.proofs.Calls.{settle_held}
use Rattle.dm_kept.specs.Files.{Covers, EndsLive, Fact, Facts, FileKept, PartsStand, Says, claim_of, live_of, says_all, stage_of}
use Rattle.dm_kept.specs.Kept.{Kept, Sits}
use Rattle.dm_kept.specs.Recovery.{Through}
use Rattle.dm_kept.proofs.Entered.{fact_of, facts_given, items_are}
use Rattle.dm_kept.proofs.Flags.{if_map}
use Rattle.dm_kept.proofs.Frame.{facts_sync}
use Rattle.dm_kept.proofs.Lists.{changed_beside, changed_here, each_changed, eq_is, eq_not, id_in, some_is}
use Rattle.dm_kept.proofs.Ranges.{small_items}
use Rattle.dm_kept.proofs.Resting as resting
use Rattle.dm_kept.proofs.Standing as standing
use Rattle.dm_store.specs.declared.life.Life.{Life}
use Rattle.dm_store.specs.Becomes.{Becomes}
use Rattle.dm_store.specs.Keeps.{Allows, HoldsOf, IsDesk, Keeps, RecordGoes, RestsBy, StandBehind, added}
use Rattle.dm_store.specs.Lives.{AreAfter, AreLives, IsLifeFor, IsLifeOf, LifeOf, changed_life, covers_of, is_plain, life_in, lives_after, saved_life}
use Rattle.dm_store.specs.Saving.{IsSaving}
use Rattle.dm_store.specs.View.{View}
use Rattle.dm_store.proofs.Found.{There, there_is}
use Rattle.dm_store.proofs.Keeping.{at_rest, goes_then, keeps_then, step_desk, step_keeps, whole_loses}
use Rattle.dm_store.proofs.Lives.{changed_other, changed_own}

-- Of the cover that is saved.

within_rising : (end : ℕ) (slices : List Slice) → IsRising end slices → IsWithin (2 ^ 40) slices
within_rising end [] is = tt
within_rising end (slice ∷ rest) is = (is.1, within_rising (end_of slice) rest is.2)

within_cover : (slices : List Slice) → IsCover slices → IsWithin (2 ^ 40) slices
within_cover [] is = absurd is
within_cover (slice ∷ rest) is = within_rising 0 (slice ∷ rest) is.1

within_total : (total : Option ℕ) (cover : List Slice) → IsCover cover → IsWithinTotal total cover → IsWithinTotal total (normal_of total cover)
within_total None cover is within = tt
within_total (Some bytes) cover is within = within-normal_of bytes (Some bytes) cover is within

-- the life of an item whose live places were saved
pub saved_is : (item : Item) (life : Life) → IsLifeOf item life → IsLifeOf (record item { slices = normal_of item.total life.cover }) (saved_life life)
saved_is item life is =
    let means = normal_of-meaning item.total life.cover is.cover in
    let same = covered-normal_of item.total life.cover is.cover in
    record {
      runs = is.runs;
      part = is.part;
      cover = is.cover;
      few = is.few;
      within = is.within;
      holds = λ place has. (means.places place).0 has;
      count = omega (arith, same);
      same = λ saved place. ((means.places place).1, (means.places place).0);
      untold = is.untold;
      one = is.one;
      fresh = is.fresh;
      plan = is.plan;
      ends = is.ends;
    }

-- the list takes the entry
pub progress_admits : (id : ItemId) (v : Listing) (item : Item) (life : Life) → item_in id.0 v.items ≡ Some item → IsLifeOf item life → IsSome item.key → Admits v (entries.Progress id (normal_of item.total life.cover))
progress_admits id v item life there is told =
    let slices : List Slice = normal_of item.total life.cover in
    let means = normal_of-meaning item.total life.cover is.cover in
    record {
      room = tt;
      meets = subst (λ (found : Option Item). Row (entries.Progress id slices) v.items found) (sym there) (
        is.runs,
        record {
          has_key = told;
          cover = record {
            normal = means.normal;
            greatest = within-normal_of (2 ^ 40) item.total life.cover is.cover (within_cover life.cover is.cover);
            within = within_total item.total life.cover is.cover is.within;
          };
          holds = λ place has. (means.places place).1 (is.holds place has);
        },
      );
    }

-- The lives behind the entry.
pub lives_saved : (id : ItemId) (v : Listing) (lives : List Life) (item : Item) (life : Life) → item_in id.0 v.items ≡ Some item → life_in id.0 lives ≡ Some life → AreLives v.items lives
    → AreAfter (entries.Progress id (normal_of item.total life.cover)) v lives
lives_saved id v lives item life there here are k = by (k == id.0) refl
  where
    own : LifeOf (Some item) (Some life) → LifeOf (item_in id.0 (changed_at (entries.Progress id (normal_of item.total life.cover)) id.0 v.items)) (life_in id.0 (changed_life id.0 saved_life lives))
    own is =
        subst (λ (found : Option Item). LifeOf found (life_in id.0 (changed_life id.0 saved_life lives)))
        (sym (changed_here (entries.Progress id (normal_of item.total life.cover)) id.0 (λ x. refl) v.items ∙ ap (option_map (changed (entries.Progress id (normal_of item.total life.cover)))) there))
        (subst (LifeOf (Some (changed (entries.Progress id (normal_of item.total life.cover)) item))) (sym (changed_own id.0 saved_life lives (λ l. refl) ∙ ap (option_map saved_life) here)) (saved_is item life is))

    by : (test : Bool) → (k == id.0) ≡ test → LifeOf (item_in k (changed_at (entries.Progress id (normal_of item.total life.cover)) id.0 v.items)) (life_in k (changed_life id.0 saved_life lives))
    by true at =
        subst (λ (n : ℕ). LifeOf (item_in n (changed_at (entries.Progress id (normal_of item.total life.cover)) id.0 v.items)) (life_in n (changed_life id.0 saved_life lives))) (sym (eq_is k id.0 at))
        (own (subst (LifeOf (Some item)) here (subst (λ (found : Option Item). LifeOf found (life_in id.0 lives)) there (are id.0))))
    by false at =
        let apart : k ≢ id.0 = eq_not k id.0 at in
        subst (λ (found : Option Item). LifeOf found (life_in k (changed_life id.0 saved_life lives))) (sym (changed_beside (entries.Progress id (normal_of item.total life.cover)) id.0 (λ x. refl) k apart v.items))
        (subst (LifeOf (item_in k v.items)) (sym (changed_other id.0 k saved_life lives (λ l. refl) apart)) (are k))

-- what is live stays
pub covers_saved : (k : ℕ) (lives : List Life) (id : ℕ) → covers_of (changed_life k saved_life lives) id ≡ covers_of lives id
covers_saved k lives id = by (id == k) refl
  where
    mapped : (found : Option Life) → option_map (λ (l : Life). l.cover) (option_map saved_life found) ≡ option_map (λ (l : Life). l.cover) found
    mapped None = refl
    mapped (Some life) = refl

    by : (test : Bool) → (id == k) ≡ test → covers_of (changed_life k saved_life lives) id ≡ covers_of lives id
    by true at =
        subst (λ (n : ℕ). covers_of (changed_life k saved_life lives) n ≡ covers_of lives n) (sym (eq_is id k at))
        (ap (option_map (λ (l : Life). l.cover)) (changed_own k saved_life lives (λ l. refl)) ∙ mapped (life_in k lives))
    by false at = ap (option_map (λ (l : Life). l.cover)) (changed_other k id saved_life lives (λ l. refl) (eq_not id k at))

running_is : (phase : Phase) → IsTrue (is_running phase) → phase ≡ phases.Running
running_is phases.Running runs = refl
running_is phases.Waiting runs = absurd (false≢true runs)
running_is phases.Paused runs = absurd (false≢true runs)
running_is phases.Finishing runs = absurd (false≢true runs)
running_is phases.Complete runs = absurd (false≢true runs)
running_is phases.Cancelled runs = absurd (false≢true runs)
running_is (phases.Interrupted reason) runs = absurd (false≢true runs)

pub going_is : (phase : Phase) → IsTrue (is_running phase) → stage_of phase ≡ Some Going
going_is phase runs = ap stage_of (running_is phase runs)

-- A sync of one file.

synced_state : (part : List ℕ) (answer : Result (Unit {0}) DiskFault) (old disk : DiskState) → SyncStep (files_place part) answer old disk → disk.state ≡ old.state
synced_state part (Ok done) old disk taken = taken.1
synced_state part (Err fault) old disk same = ap (λ (d : DiskState). d.state) same

synced_names : (part : List ℕ) (answer : Result (Unit {0}) DiskFault) (old disk : DiskState) → SyncStep (files_place part) answer old disk → names_of disk.files ≡ names_of old.files
synced_names part (Ok done) old disk taken = ap (λ (s : Names). after_changes s disk.files.changes) taken.0.synced ∙ ap (after_changes old.files.synced) taken.0.changes
synced_names part (Err fault) old disk same = ap (λ (d : DiskState). names_of d.files) same

synced_reads : (part : List ℕ) (answer : Result (Unit {0}) DiskFault) (old disk : DiskState) → IsSoundDisk old → SyncStep (files_place part) answer old disk → (name : List ℕ) → contents_of disk.files name ≡ contents_of old.files name
synced_reads part (Ok done) old disk sound taken name = by (with_name_cases (names_of old.files) part None name)
  where
    by : {P Q : Type 0} → ((name ≡ part) × P) ⊎ ((name ≢ part) × Q) → contents_of disk.files name ≡ contents_of old.files name
    by (inl here) = subst (λ (n : List ℕ). contents_of disk.files n ≡ contents_of old.files n) (sym here.0) (sync_reads (files_place part) old disk taken)
    by (inr there) = stepped_others part IsSynced old.files disk.files taken.0 (apart_now old.files sound.files) name there.0
synced_reads part (Err fault) old disk sound same name = ap (λ (d : DiskState). contents_of d.files name) same

-- the described item whose attempt runs
module _ (good : Bool) (says : Says) (history : History) (gate : ℕ) (covers : Covers) (v : Listing) (is_of : IsOf history v) (id : ItemId) (one : Item) (there : item_in id.0 v.items ≡ Some one) (runs : IsTrue (is_running one.phase)) (told : is_some one.key ≡ true)
    (old : DiskState) (sound : IsSoundDisk old) (sits : Sits good says history gate covers old) where
  there_in : item_in id.0 (items_of history) ≡ Some one
  there_in = subst (λ (list : List Item). item_in id.0 list ≡ Some one) (items_are history v is_of) there

  key_there : There one.key
  key_there = there_is one.key told

  address_there : There one.last_address
  address_there = there_is one.last_address ((sound_in history v id.0 one is_of there).told.has_address ∙ told)

  name_there : There one.name
  name_there = there_is one.name ((sound_in history v id.0 one is_of there).told.has_name ∙ told)

  -- A sync of its part leaves what sits.
  pub sits_synced : (answer : Result (Unit {0}) DiskFault) (disk : DiskState) → SyncStep (files_place (part_name one.id.0 one.epoch.0)) answer old disk → Sits good says history gate covers disk
  sits_synced answer disk taken =
      let part : List ℕ = part_name one.id.0 one.epoch.0 in
      record {
        rests = resting.rests_with good says history gate covers covers old disk (synced_state part answer old disk taken)
            (facts_sync says covers (items_of history) old disk answer id.0 one key_there.it address_there.it name_there.it there_in (small_items history sits.rests.taken.lawful sits.rests.entries) sound key_there.is address_there.is name_there.is
            (going_is one.phase runs) taken) sits.rests;
        quiet = quiet_sync IsPart answer old disk sits.quiet (files_place part) taken;
        stand = λ k item is brought. subst (λ (names : Names). IsSome (names (part_name item.id.0 item.epoch.0))) (sym (synced_names part answer old disk taken)) (sits.stand k item is brought);
        ends = if_map good (EndsLive covers (items_of history) old.files) (EndsLive covers (items_of history) disk.files)
            (λ ends k item is brought none bytes reads. ends k item is brought none bytes (sym (synced_reads part answer old disk sound taken (part_name item.id.0 item.epoch.0)) ∙ reads)) sits.ends;
      }

  -- After Ok its live places may be saved.
  module _ (cover : List Slice) (live : covers id.0 ≡ Some cover) (slices : List Slice) (holds : Holds cover slices) (after : Covers) (same : (k : ℕ) → after k ≡ covers k) where
    pub facts_progress : (disk : DiskState) → SyncStep (files_place (part_name one.id.0 one.epoch.0)) (Ok tt) old disk → Facts says covers (items_of history) old.files → Facts says after (changed_at (entries.Progress id slices) id.0 (items_of history)) disk.files
    facts_progress disk taken facts =
        facts_given says covers after disk.files (entries.Progress id slices) id.0 (items_of history) (λ item. refl) (λ k apart. same k)
        (λ item is. subst (λ (i : Item). Fact says after disk.files (changed (entries.Progress id slices) i)) (some_is one item (sym there_in ∙ is)) own)
        (facts_sync says covers (items_of history) old disk (Ok tt) id.0 one key_there.it address_there.it name_there.it there_in (small_items history sits.rests.taken.lawful sits.rests.entries) sound key_there.is address_there.is name_there.is
        (going_is one.phase runs) taken facts)
      where
        ids : one.id.0 ≡ id.0
        ids = id_in id.0 one (items_of history) there_in

        live_is : live_of covers one ≡ cover
        live_is = ap (λ (found : Option (List Slice)). get found one.slices) (ap covers ids ∙ live)

        live_after : live_of after (changed (entries.Progress id slices) one) ≡ live_of covers one
        live_after = ap (λ (found : Option (List Slice)). get found slices) (same one.id.0 ∙ ap covers ids ∙ live) ∙ sym live_is

        kept : FileKept (says address_there.it key_there.it) old.files (Some Going) (claim_of name_there.it (live_of covers one) one)
        kept =
            subst (λ (s : Option Stage). FileKept (says address_there.it key_there.it) old.files s (claim_of name_there.it (live_of covers one) one)) (going_is one.phase runs)
            (facts id.0 one there_in key_there.it address_there.it name_there.it key_there.is address_there.is name_there.is)

        held : Held (says address_there.it key_there.it) disk.files (record (claim_of name_there.it (live_of covers one) one) { saved = slices })
        held =
            settle_held (says address_there.it key_there.it) (claim_of name_there.it (live_of covers one) one) slices (Ok tt) old disk refl (subst (λ (l : List Slice). Holds l slices) (sym live_is) holds) kept.0 taken

        own : Fact says after disk.files (changed (entries.Progress id slices) one)
        own =
            fact_of says after disk.files (changed (entries.Progress id slices) one) key_there.it address_there.it name_there.it key_there.is address_there.is name_there.is
            (subst (λ (s : Option Stage). FileKept (says address_there.it key_there.it) disk.files s (claim_of name_there.it (live_of after (changed (entries.Progress id slices) one)) (changed (entries.Progress id slices) one))) (sym (going_is one.phase runs))
            (subst (λ (l : List Slice). Held (says address_there.it key_there.it) disk.files (claim_of name_there.it l (changed (entries.Progress id slices) one))) (sym live_after) held, kept.1))

    pub ends_progress : (disk : DiskState) → EndsLive covers (items_of history) disk.files → EndsLive after (changed_at (entries.Progress id slices) id.0 (items_of history)) disk.files
    ends_progress disk =
        each_changed (standing.Ends covers disk.files) (standing.Ends after disk.files) (entries.Progress id slices) id.0 (items_of history) (λ item. refl)
        (λ item apart ends brought none bytes reads. ends brought none bytes reads ∙ ap (λ (found : Option (List Slice)). cover_end (get found item.slices)) (sym (same item.id.0)))
        (λ item is ends brought none bytes reads.
        ends brought none bytes reads
        ∙ ap cover_end (ap (λ (found : Option (List Slice)). get found item.slices) (ap covers (id_in id.0 item (items_of history) is) ∙ live)
        ∙ sym (ap (λ (found : Option (List Slice)). get found slices) (same item.id.0 ∙ ap covers (id_in id.0 item (items_of history) is) ∙ live))))

-- the parts stand behind it as before
pub stand_progress : (id : ItemId) (slices : List Slice) (items : List Item) (folder : Folder) → PartsStand items folder → PartsStand (changed_at (entries.Progress id slices) id.0 items) folder
stand_progress id slices items folder =
    each_changed (standing.Stands folder) (standing.Stands folder) (entries.Progress id slices) id.0 items (λ item. refl) (λ item apart stands. stands) (λ item is stands. stands)

-- as many live as before
length_test : (k : ℕ) (f : Life → Life) (life : Life) (rest : List Life) (test : Bool) → length (changed_life k f rest) ≡ length rest → length (cond test (f life ∷ rest) (life ∷ changed_life k f rest)) ≡ length (life ∷ rest)
length_test k f life rest true later = refl
length_test k f life rest false later = omega (arith, later)

changed_length : (k : ℕ) (f : Life → Life) (lives : List Life) → length (changed_life k f lives) ≡ length lives
changed_length k f [] = refl
changed_length k f (life ∷ rest) = length_test k f life rest (life.id.0 == k) (changed_length k f rest)

pub save_room : (id : ItemId) (slices : List Slice) (items : Listing) (lives : List Life) (used count capacity : ℕ) → used + (count + 1) + 3 * length lives ≤ capacity
    → used + (count + 1) + 3 * length (lives_after (entries.Progress id slices) items lives) ≤ capacity
save_room id slices items lives used count capacity room = let same = changed_length id.0 saved_life lives in omega (arith, same, room)

-- A desk that saves what is live of an attempt.
module _ {D O : Type 0} (tells : Type 0) (clock : D → Clock) (says : O → Says) (desk : View D O) (disk : D) (is : IsDesk tells clock desk) (whole : desk.broken ≡ false) (id : ItemId) (entry : Entry) (saving : IsSaving desk id entry)
    (sound : tells → IsSoundDisk (now (clock desk.disk))) where
  own_life : IsLifeOf saving.item saving.life
  own_life = subst (LifeOf (Some saving.item)) saving.lives (subst (λ (found : Option Item). LifeOf found (life_in id.0 desk.lives)) saving.there (is.lives whole id.0))

  -- the list takes the entry, and it ends no attempt
  pub save_admits : Admits desk.items entry
  save_admits = subst (Admits desk.items) (sym saving.is) (progress_admits id desk.items saving.item saving.life saving.there own_life saving.told)

  pub save_plain : IsTrue (is_plain entry)
  save_plain = subst (λ (e : Entry). IsTrue (is_plain e)) (sym saving.is) refl

  pub save_lives : AreAfter entry desk.items desk.lives
  save_lives = subst (λ (e : Entry). AreAfter e desk.items desk.lives) (sym saving.is) (lives_saved id desk.items desk.lives saving.item saving.life saving.there saving.lives (is.lives whole))

  pub save_life_for : IsLifeFor entry (applied entry desk.items) None
  save_life_for = subst (λ (e : Entry). IsLifeFor e (applied e desk.items) None) (sym saving.is) tt

  pub save_behind : (used count capacity : ℕ) → used + (count + 1) + 3 * length desk.lives ≤ capacity → used + (count + 1) + 3 * length (lives_after entry (applied entry desk.items) desk.lives) ≤ capacity
  save_behind used count capacity room =
      subst (λ (e : Entry). used + (count + 1) + 3 * length (lives_after e (applied e desk.items) desk.lives) ≤ capacity) (sym saving.is)
      (save_room id (normal_of saving.item.total saving.life.cover) (applied (entries.Progress id (normal_of saving.item.total saving.life.cover)) desk.items) desk.lives used count capacity room)

  items_in : (before : History) → IsOf before desk.items → items_of before ≡ desk.items.items
  items_in before is_of = sym (items_are before desk.items is_of)

  -- the part stands
  pub save_stands : tells → Stands (now (clock desk.disk)) saving.life.part
  save_stands told =
      let history : History = is.founded.before ++ desk.list in
      let holds = is.founded.holds told in
      let sits = at_rest false says_all clock desk history whole holds in
      subst (Stands (now (clock desk.disk))) (sym own_life.part)
      (sits.stand id.0 saving.item (subst (λ (list : List Item). item_in id.0 list ≡ Some saving.item) (items_are history desk.items holds.items) saving.there)
      (brought saving.item.phase saving.item.key own_life.runs saving.told))
    where
      brought : (phase : Phase) (key : Option Key) → IsTrue (is_running phase) → IsSome key → IsTrue (is_running phase && is_some key)
      brought phase key runs some = subst (λ (p : Phase). IsTrue (is_running p && is_some key)) (sym (running_is phase runs)) some

  module _ (answer : Result (Unit {0}) DiskFault) (run : tells → Next (clock desk.disk) (clock disk) (SyncStep saving.life.part answer)) where
    own_run : tells → Next (clock desk.disk) (clock disk) (SyncStep (files_place (part_name saving.item.id.0 saving.item.epoch.0)) answer)
    own_run told = subst (λ (p : Place). Next (clock desk.disk) (clock disk) (SyncStep p answer)) own_life.part (run told)

    synced : tells → (good : Bool) (said : Says) (before : History) → HoldsOf good said clock desk before → Sits good said before desk.gate (covers_of desk.lives) (now (clock disk))
    synced told good said before holds =
        sits_synced good said before desk.gate (covers_of desk.lives) desk.items holds.items id saving.item saving.there own_life.runs saving.told (now (clock desk.disk)) (sound told) (at_rest good said clock desk before whole holds) answer (now (clock disk))
        (own_run told).stepped

    goes : tells → (good : Bool) (said : Says) (before : History) → HoldsOf good said clock desk before
        → Throughout (clock desk.disk) (clock disk) (Kept good said (Through before [])) × HoldsOf good said clock (record desk { disk = disk }) before
    goes told good said before holds = (
      over_call (clock desk.disk) (clock disk) (Kept good said (Through before [])) (SyncStep (files_place (part_name saving.item.id.0 saving.item.epoch.0)) answer) (own_run told)
          (resting.rests_kept good said before [] desk.gate (covers_of desk.lives) (now (clock desk.disk)) (at_rest good said clock desk before whole holds).rests)
          (resting.rests_kept good said before [] desk.gate (covers_of desk.lives) (now (clock disk)) (synced told good said before holds).rests),
      record {
        items = holds.items;
        rests = subst (λ (b : Bool). RestsBy b good said before desk.failed desk.gate (covers_of desk.lives) (now (clock disk))) (sym whole) (synced told good said before holds);
      },
    )

    pub synced_keeps : Keeps tells clock says desk (record desk { disk = disk })
    synced_keeps = step_keeps tells clock says desk (record desk { disk = disk }) refl (is.failed whole) goes (whole_loses tells clock desk (record desk { disk = disk }) whole)

    pub synced_desk : IsDesk tells clock (record desk { disk = disk })
    synced_desk = step_desk tells clock says desk (record desk { disk = disk }) refl (is.failed whole) goes is refl refl refl (λ unbroken. is.lives whole)

    pub synced_stand : tells → StandBehind clock (record desk { disk = disk }) entry
    synced_stand told =
        let history : History = is.founded.before ++ desk.list in
        let holds = is.founded.holds told in
        subst (λ (e : Entry). PartsStand (applied e desk.items).items (now (clock disk)).files) (sym saving.is)
        (stand_progress id (normal_of saving.item.total saving.life.cover) desk.items.items (now (clock disk)).files
        (subst (λ (items : List Item). PartsStand items (now (clock disk)).files) (items_in history holds.items) (synced told false says_all history holds).stand))

    -- an interruption, or what else follows
    pub synced_then : (new : View D O) → Keeps tells clock says (record desk { disk = disk }) new → Keeps tells clock says desk new
    synced_then new = keeps_then tells clock says desk (record desk { disk = disk }) new synced_keeps refl (is.failed whole)

    pub synced_beside : tells → Besides IsPart (clock desk.disk) (clock disk)
    synced_beside told =
        let history : History = is.founded.before ++ desk.list in
        let sits = at_rest false says_all clock desk history whole (is.founded.holds told) in
        let small = small_items history sits.rests.taken.lawful sits.rests.entries id.0 saving.item
        (subst (λ (list : List Item). item_in id.0 list ≡ Some saving.item) (items_are history desk.items is.founded.items) saving.there) in
        besides_sync IsPart answer (clock desk.disk) (clock disk) (sound told) (files_place (part_name saving.item.id.0 saving.item.epoch.0))
        (record { id = saving.item.id.0; epoch = saving.item.epoch.0; small = (small.id, small.epoch); is = refl }) sits.quiet (own_run told)

    -- each of the user's files reads as before
    pub reads_then : (last : Clock) → tells → KeepsFiles (clock disk) last → (name : List ℕ) → contents_of (now last).files name ≡ contents_of (now (clock desk.disk)).files name
    reads_then last told keeps name =
        ap (λ (folder : Folder). contents_of folder name) (at_end (clock disk) last (λ (d : DiskState). d.files ≡ (now (clock disk)).files) keeps)
        ∙ synced_reads (part_name saving.item.id.0 saving.item.epoch.0) answer (now (clock desk.disk)) (now (clock disk)) (sound told) (own_run told).stepped name

    pub beside_then : (last : Clock) → tells → KeepsFiles (clock disk) last → Besides IsPart (clock desk.disk) last
    beside_then last told keeps = besides_then IsPart (clock desk.disk) (clock disk) last (synced_beside told) (besides_same IsPart (clock disk) last keeps)

  -- After Ok the entry may be recorded.
  module _ (run : tells → Next (clock desk.disk) (clock disk) (SyncStep saving.life.part (Ok tt))) where
    cover_is : covers_of desk.lives id.0 ≡ Some saving.life.cover
    cover_is = ap (option_map (λ (l : Life). l.cover)) saving.lives

    cover_holds : Holds saving.life.cover (normal_of saving.item.total saving.life.cover)
    cover_holds = λ place has. ((normal_of-meaning saving.item.total saving.life.cover own_life.cover).places place).0 has

    allows : tells → (good : Bool) (before : History) → HoldsOf good (says desk.origin) clock desk before → Allows good (says desk.origin) clock (record desk { disk = disk }) (entries.Progress id (normal_of saving.item.total saving.life.cover))
    allows told good before holds =
        let said : Says = says desk.origin in
        let sits = at_rest good said clock desk before whole holds in
        let after : Covers = covers_of (changed_life id.0 saved_life desk.lives) in
        let folder : Folder = (now (clock disk)).files in
        let behind : List Slice = normal_of saving.item.total saving.life.cover in
        let e : Entry = entries.Progress id behind in
        record {
          facts = if_map good (Facts said (covers_of desk.lives) (items_of before) (now (clock desk.disk)).files) (Facts said after (changed_at e id.0 desk.items.items) folder)
              (λ facts. subst (λ (items : List Item). Facts said after (changed_at e id.0 items) folder) (items_in before holds.items)
              (facts_progress good said before desk.gate (covers_of desk.lives) desk.items holds.items id saving.item saving.there own_life.runs saving.told (now (clock desk.disk)) (sound told) sits
              saving.life.cover cover_is behind cover_holds after (covers_saved id.0 desk.lives) (now (clock disk)) (own_run (Ok tt) run told).stepped facts)) sits.rests.facts;
          ends = if_map good (EndsLive (covers_of desk.lives) (items_of before) folder) (EndsLive after (changed_at e id.0 desk.items.items) folder)
              (λ ends. subst (λ (items : List Item). EndsLive after (changed_at e id.0 items) folder) (items_in before holds.items)
              (ends_progress good said before desk.gate (covers_of desk.lives) desk.items holds.items id saving.item saving.there own_life.runs saving.told (now (clock desk.disk)) (sound told) sits
              saving.life.cover cover_is behind cover_holds after (covers_saved id.0 desk.lives) (now (clock disk)) ends)) (synced (Ok tt) run told good said before holds).ends;
        }

    pub saved_keeps : (new : View D O) → RecordGoes tells clock says (record desk { disk = disk }) new entry → Keeps tells clock says desk new
    saved_keeps new recorded told good before holds =
        let mid : View D O = record desk { disk = disk } in
        let went = synced_keeps (Ok tt) run told good before holds in
        goes_then good (says desk.origin) clock desk mid new before went (is.failed whole)
        (recorded told good (before ++ added desk mid) went.holds
        (subst (Allows good (says desk.origin) clock mid) (sym saving.is) (allows told good before holds)))

-- What is recorded of a desk of which only the disk changed is recorded of the desk.
pub from_disk : {D O : Type 0} (desk new : View D O) (disk : D) (recorded failed : History) (broken : Bool) → Becomes (record desk { disk = disk }) new recorded failed broken → Becomes desk new recorded failed broken
from_disk desk new disk recorded failed broken makes = record {
  whole = makes.whole;
  items_are = makes.items_are;
  lives_are = makes.lives_are;
  list_is = makes.list_is;
  lawful = makes.lawful;
  may = makes.may;
  gate_is = makes.gate_is;
  failed_is = makes.failed_is;
  broken_is = makes.broken_is;
  origin = makes.origin;
  limits = makes.limits;
}

-- no such reason is the user's, or that of a program that was left
pub file_reason : (kind : DiskKind) → (reason_of_file kind ≢ reasons.UserCanceled) × (reason_of_file kind ≢ reasons.Crash)
file_reason kinds.Failed = (λ e. absurd cc, λ e. absurd cc)
file_reason kinds.Denied = (λ e. absurd cc, λ e. absurd cc)
file_reason kinds.NoSpace = (λ e. absurd cc, λ e. absurd cc)
file_reason kinds.NameTooLong = (λ e. absurd cc, λ e. absurd cc)

-- Counts over two calls.

pub later_then : {K : Type 0} (first middle last : K → ℕ) → NoneFell first middle → NoneFell middle last → NoneFell first last
later_then first middle last one two kind = let a = one kind in let b = two kind in omega (arith, a, b)

pub rose_first : (first middle last : ℕ) → Rose first middle → middle ≤ last → Rose first last
rose_first first middle last rose later = omega (arith, rose, later)

pub rose_last : (first middle last : ℕ) → first ≤ middle → Rose middle last → Rose first last
rose_last first middle last earlier rose = least first middle last earlier rose
  where
    least : (a b c : ℕ) → a ≤ b → min (b + 1) (2 ^ 64 - 1) ≤ c → min (a + 1) (2 ^ 64 - 1) ≤ c
    least a b c below is = omega (arith, below, is)
