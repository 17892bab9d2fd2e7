-- Steps on the file of one item, and the facts of all.
use Rattle.std.proofs.Common.{◌≡◌, ◌≢◌, ◌⊎◌, inl, inr, ℕ, ◌<◌, ◌^◌, ◌==◌, Bool, true, false, List, length, Option, Some, None, Result, Ok, Err, refl, sym, ◌∙◌, ap, subst}
use Rattle.dm_types.specs.Name.{IsPart, part_name}
use Rattle.dm_types.specs.declared.item.Item.{Item}
use Rattle.dm_types.specs.declared.item.Key.{Key}
use Rattle.dm_types.specs.declared.item.Phase.{Phase}
use Rattle.dm_types.specs.declared.item.Phase.TheVariants as phases
use Rattle.dm_types.specs.declared.slices.Slice.{Slice}
use Rattle.dm_disk_model.specs.declared.place.Area.{Area}
use Rattle.dm_disk_model.specs.declared.place.DiskFault.{DiskFault}
use Rattle.dm_disk_model.specs.Disk.{CreateStep, DiskState, IsSoundDisk, RemoveStep, RenameStep, Stands, SyncNamesStep, SyncStep, WriteStep}
use Rattle.dm_disk_model.specs.File.{File}
use Rattle.dm_disk_model.specs.Firm.{HasFile}
use Rattle.dm_disk_model.specs.Folder.{Folder, after_changes, contents_of, names_of}
use Rattle.dm_disk_model.specs.declared.place.Area.TheVariants.{Files}
use Rattle.dm_disk_model.proofs.Reading.{names_synced_reads}
use Rattle.dm_disk_model.proofs.Firmness.{quiet_names}
use Rattle.dm_item.specs.Listing.{item_in}
use Rattle.dm_item.specs.Row.{is_cancelled}
use Rattle.dm_part.specs.Keeping.{Claim, Held, IsFree, IsShort, Stage, Going, Moving, Published}
use Rattle.dm_part.specs.Laws.{files_place}
use Rattle.dm_part.proofs.Beside.{create_beside, create_short, names_beside, names_short, remove_beside, remove_short, rename_beside, rename_short, sync_beside, sync_short, write_beside, write_short}
use Rattle.dm_part.proofs.Calls.{discard_short, put_keeps, rename_held, settle_keeps, sweep_held}
use Rattle.dm_part.proofs.Names.{one_name}
use Rattle.dm_part.proofs.Own.{firm_part}
use Rattle.dm_kept.specs.Files.{Comes, Covers, EachItem, Fact, Facts, FileKept, IsSmall, Says, claim_of, live_of, stage_of}
use Rattle.dm_kept.specs.Kept.{StaysKept}
use Rattle.dm_kept.proofs.FilesKept.{facts_names}
use Rattle.dm_kept.proofs.Entered.{fact_of}
use Rattle.dm_kept.proofs.Lists.{eq_is, eq_not, id_in, some_is}
use Rattle.dm_kept.proofs.Ranges.{NamesDiffer}

-- A step leaves what is kept under every name but the touched ones.
pub record LeavesOthers (says : Says) (touched : List ℕ → Type 0) (old new : DiskState) : Type 0 where
  pub held : (address : List ℕ) (key : Key) (claim : Claim) → (touched claim.part → ⊥) → (touched claim.name → ⊥) → Held (says address key) old.files claim → Held (says address key) new.files claim
  pub short : (part : List ℕ) (total : Option ℕ) → (touched part → ⊥) → IsShort part total old.files → IsShort part total new.files

module _ (says : Says) (old new : DiskState) (result : Result (Unit {0}) DiskFault) where
  pub others_write : (other : List ℕ) (file : File) (at : ℕ) (piece : List ℕ) → IsSoundDisk old → HasFile old.files other file → WriteStep (files_place other) at piece result old new → LeavesOthers says (λ name. name ≡ other) old new
  others_write other file at piece sound has taken = record {
    held = λ address key claim part name held. write_beside (says address key) claim result old new held other file at piece sound has (record { part = λ same. part (sym same); name = λ same. name (sym same) }) taken;
    short = λ part total apart short. write_short part total result old new short other file at piece sound has (λ same. apart (sym same)) taken;
  }

  pub others_sync : (other : List ℕ) (file : File) → IsSoundDisk old → HasFile old.files other file → SyncStep (files_place other) result old new → LeavesOthers says (λ name. name ≡ other) old new
  others_sync other file sound has taken = record {
    held = λ address key claim part name held. sync_beside (says address key) claim result old new held other file sound has (record { part = λ same. part (sym same); name = λ same. name (sym same) }) taken;
    short = λ part total apart short. sync_short part total result old new short other file sound has (λ same. apart (sym same)) taken;
  }

  pub others_create : (other : List ℕ) → CreateStep (files_place other) result old new → LeavesOthers says (λ name. name ≡ other) old new
  others_create other taken = record {
    held = λ address key claim part name held. create_beside (says address key) claim result old new held other (record { part = λ same. part (sym same); name = λ same. name (sym same) }) taken;
    short = λ part total apart short. create_short part total result old new short other (λ same. apart (sym same)) taken;
  }

  pub others_rename : (from to : List ℕ) → RenameStep (files_place from) (files_place to) result old new → LeavesOthers says (λ name. (name ≡ from) ⊎ (name ≡ to)) old new
  others_rename from to taken = record {
    held = λ address key claim part name held.
        rename_beside (says address key) claim result old new held from to
        (record { part = λ same. part (inl (sym same)); name = λ same. name (inl (sym same)) }) (record { part = λ same. part (inr (sym same)); name = λ same. name (inr (sym same)) }) taken;
    short = λ part total apart short. rename_short part total result old new short from to (λ same. apart (inl (sym same))) (λ same. apart (inr (sym same))) taken;
  }

  pub others_remove : (other : List ℕ) → RemoveStep (files_place other) result old new → LeavesOthers says (λ name. name ≡ other) old new
  others_remove other taken = record {
    held = λ address key claim part name held. remove_beside (says address key) claim result old new held other (record { part = λ same. part (sym same); name = λ same. name (sym same) }) taken;
    short = λ part total apart short. remove_short part total result old new short other (λ same. apart (sym same)) taken;
  }

  pub others_names : (area : Area) → SyncNamesStep area result old new → LeavesOthers says (λ name. ⊥) old new
  others_names area taken = record {
    held = λ address key claim part name held. names_beside (says address key) claim result old new held area taken;
    short = λ part total apart short. names_short part total result old new short area taken;
  }

-- two steps, one after the other
pub others_then : (says : Says) (touched : List ℕ → Type 0) (old middle new : DiskState) → LeavesOthers says touched old middle → LeavesOthers says touched middle new → LeavesOthers says touched old new
others_then says touched old middle new first second = record {
  held = λ address key claim part name held. second.held address key claim part name (first.held address key claim part name held);
  short = λ part total apart short. second.short part total apart (first.short part total apart short);
}

-- fewer names may be touched
pub others_wider : (says : Says) (few many : List ℕ → Type 0) (old new : DiskState) → ((name : List ℕ) → few name → many name) → LeavesOthers says few old new → LeavesOthers says many old new
others_wider says few many old new wider leaves = record {
  held = λ address key claim part name held. leaves.held address key claim (λ touched. part (wider claim.part touched)) (λ touched. name (wider claim.name touched)) held;
  short = λ part total apart short. leaves.short part total (λ touched. apart (wider part touched)) short;
}

-- Facts of all ids but one stay, and the one's new fact is given.
pub facts_of_one : (says : Says) (covers after : Covers) (items : List Item) (old new : Folder) (k : ℕ) → ((id : ℕ) (item : Item) → id ≢ k → item_in id items ≡ Some item → Fact says covers old item → Fact says after new item)
    → ((item : Item) → item_in k items ≡ Some item → Fact says covers old item → Fact says after new item) → Facts says covers items old → Facts says after items new
facts_of_one says covers after items old new k others one facts id item is = by (id == k) refl
  where
    by : (test : Bool) → (id == k) ≡ test → Fact says after new item
    by true same = let at : id ≡ k = eq_is id k same in one item (subst (λ (n : ℕ). item_in n items ≡ Some item) at is) (facts id item is)
    by false other = others id item (eq_not id k other) is (facts id item is)

-- an item with a stage isn't cancelled
stage_some : (phase : Phase) (stage : Stage) → stage_of phase ≡ Some stage → is_cancelled phase ≡ false
stage_some phases.Waiting stage is = refl
stage_some phases.Running stage is = refl
stage_some phases.Paused stage is = refl
stage_some phases.Finishing stage is = refl
stage_some phases.Complete stage is = refl
stage_some phases.Cancelled stage is = absurd cc
stage_some (phases.Interrupted reason) stage is = refl

-- a step that touches neither the part nor the name of an item
file_others : (says : Says) (touched : List ℕ → Type 0) (old new : DiskState) → LeavesOthers says touched old new → (address : List ℕ) (key : Key) (stage : Option Stage) (name : List ℕ) (live : List Slice) (item : Item)
    → (touched (part_name item.id.0 item.epoch.0) → ⊥) → ((here : Stage) → stage ≡ Some here → (IsPart name → ⊥) → touched name → ⊥)
    → FileKept (says address key) old.files stage (claim_of name live item) → FileKept (says address key) new.files stage (claim_of name live item)
file_others says touched old new leaves address key None name live item part free kept = leaves.short (part_name item.id.0 item.epoch.0) item.total part kept
file_others says touched old new leaves address key (Some stage) name live item part free kept =
    (leaves.held address key (record (claim_of name live item) { stage = stage }) part (free stage refl kept.1) kept.0, kept.1)

-- the part of an item is a part
is_part : (item : Item) → IsSmall item → (name : List ℕ) → name ≡ part_name item.id.0 item.epoch.0 → IsPart name
is_part item small name same = record { id = item.id.0; epoch = item.epoch.0; small = (small.id, small.epoch); is = same }

module _ (says : Says) (covers : Covers) (items : List Item) (k : ℕ) (one : Item) (there : item_in k items ≡ Some one) (small : EachItem IsSmall items) (touched : List ℕ → Type 0) (old new : DiskState)
    (leaves : LeavesOthers says touched old new) where
  parts_differ : (id : ℕ) (item : Item) → id ≢ k → item_in id items ≡ Some item → part_name item.id.0 item.epoch.0 ≡ part_name one.id.0 one.epoch.0 → ⊥
  parts_differ id item apart is same =
      let mine = small k one there in
      let theirs = small id item is in
      apart (sym (id_in id item items is) ∙ (one_name item.id.0 item.epoch.0 one.id.0 one.epoch.0 theirs.id theirs.epoch mine.id mine.epoch same).0 ∙ id_in k one items there)

  -- A step on the part of one item alone: the facts of all others stay.
  pub facts_beside_part : ((name : List ℕ) → touched name → name ≡ part_name one.id.0 one.epoch.0) → (Fact says covers old.files one → Fact says covers new.files one) → Facts says covers items old.files → Facts says covers items new.files
  facts_beside_part only own =
      facts_of_one says covers covers items old.files new.files k
      (λ id item apart is fact key address name key_is address_is name_is.
      file_others says touched old new leaves address key (stage_of item.phase) name (live_of covers item) item (λ touches. parts_differ id item apart is (only (part_name item.id.0 item.epoch.0) touches))
      (λ stage here free touches. free (is_part one (small k one there) name (only name touches))) (fact key address name key_is address_is name_is))
      (λ item is. subst (λ (i : Item). Fact says covers old.files i → Fact says covers new.files i) (some_is one item (sym there ∙ is)) own)

  -- The same of a step on the part and on the name that the file gets.
  pub facts_beside_both : (own_name : List ℕ) → one.name ≡ Some own_name → is_cancelled one.phase ≡ false → (IsPart own_name → ⊥) → NamesDiffer items
      → ((name : List ℕ) → touched name → (name ≡ part_name one.id.0 one.epoch.0) ⊎ (name ≡ own_name)) → (Fact says covers old.files one → Fact says covers new.files one)
      → Facts says covers items old.files → Facts says covers items new.files
  facts_beside_both own_name named going no_part differ only own =
      facts_of_one says covers covers items old.files new.files k
      (λ id item apart is fact key address name key_is address_is name_is.
      file_others says touched old new leaves address key (stage_of item.phase) name (live_of covers item) item
      (λ touches. part id item apart is (only (part_name item.id.0 item.epoch.0) touches))
      (λ stage here free touches. other id item apart is name name_is (stage_some item.phase stage here) free (only name touches)) (fact key address name key_is address_is name_is))
      (λ item is. subst (λ (i : Item). Fact says covers old.files i → Fact says covers new.files i) (some_is one item (sym there ∙ is)) own)
    where
      part : (id : ℕ) (item : Item) → id ≢ k → item_in id items ≡ Some item → (part_name item.id.0 item.epoch.0 ≡ part_name one.id.0 one.epoch.0) ⊎ (part_name item.id.0 item.epoch.0 ≡ own_name) → ⊥
      part id item apart is (inl same) = parts_differ id item apart is same
      part id item apart is (inr same) = no_part (is_part item (small id item is) own_name (sym same))

      other : (id : ℕ) (item : Item) → id ≢ k → item_in id items ≡ Some item → (name : List ℕ) → item.name ≡ Some name → is_cancelled item.phase ≡ false → (IsPart name → ⊥)
          → (name ≡ part_name one.id.0 one.epoch.0) ⊎ (name ≡ own_name) → ⊥
      other id item apart is name name_is theirs free (inl same) = free (is_part one (small k one there) name same)
      other id item apart is name name_is theirs free (inr same) = differ id k item one own_name apart is there theirs going (name_is ∙ ap Some same) named

-- the item whose part is written, synced or moved
module _ (says : Says) (covers : Covers) (items : List Item) (old new : DiskState) (result : Result (Unit {0}) DiskFault) (k : ℕ) (one : Item) (key : Key) (address name : List ℕ)
    (there : item_in k items ≡ Some one) (small : EachItem IsSmall items) (sound : IsSoundDisk old) (key_is : one.key ≡ Some key) (address_is : one.last_address ≡ Some address) (name_is : one.name ≡ Some name) where
  -- what is kept of its file, at its stage
  abbrev own_kept : Folder → Stage → Type 0
  own_kept folder stage = FileKept (says address key) folder (Some stage) (claim_of name (live_of covers one) one)

  own_fact : (stage : Stage) → stage_of one.phase ≡ Some stage → (own_kept old.files stage → own_kept new.files stage) → Fact says covers old.files one → Fact says covers new.files one
  own_fact stage here leads fact =
      fact_of says covers new.files one key address name key_is address_is name_is
      (subst (λ (s : Option Stage). FileKept (says address key) new.files s (claim_of name (live_of covers one) one)) (sym here)
      (leads (subst (λ (s : Option Stage). FileKept (says address key) old.files s (claim_of name (live_of covers one) one)) here (fact key address name key_is address_is name_is))))

  kept_before : (stage : Stage) → stage_of one.phase ≡ Some stage → Facts says covers items old.files → own_kept old.files stage
  kept_before stage here facts =
      subst (λ (s : Option Stage). FileKept (says address key) old.files s (claim_of name (live_of covers one) one)) here (facts k one there key address name key_is address_is name_is)

  -- A write at a free place of the part leaves the facts of all items.
  pub facts_write : (at : ℕ) (piece : List ℕ) → stage_of one.phase ≡ Some Going → IsFree (claim_of name (live_of covers one) one) at (length piece) → WriteStep (files_place (part_name one.id.0 one.epoch.0)) at piece result old new
      → Facts says covers items old.files → Facts says covers items new.files
  facts_write at piece going free taken facts =
      let before = kept_before Going going facts in
      let has = firm_part (says address key) old.files (claim_of name (live_of covers one) one) refl before.0 in
      facts_beside_part says covers items k one there small (λ other. other ≡ part_name one.id.0 one.epoch.0) old new
      (others_write says old new result (part_name one.id.0 one.epoch.0) (old.files.file before.0.number) at piece sound has taken) (λ other same. same)
      (own_fact Going going (λ kept. (put_keeps (says address key) (claim_of name (live_of covers one) one) at piece result old new refl free kept.0 taken, kept.1))) facts

  -- So does a sync of it.
  pub facts_sync : stage_of one.phase ≡ Some Going → SyncStep (files_place (part_name one.id.0 one.epoch.0)) result old new → Facts says covers items old.files → Facts says covers items new.files
  facts_sync going taken facts =
      let before = kept_before Going going facts in
      let has = firm_part (says address key) old.files (claim_of name (live_of covers one) one) refl before.0 in
      facts_beside_part says covers items k one there small (λ other. other ≡ part_name one.id.0 one.epoch.0) old new
      (others_sync says old new result (part_name one.id.0 one.epoch.0) (old.files.file before.0.number) sound has taken) (λ other same. same)
      (own_fact Going going (λ kept. (settle_keeps (says address key) (claim_of name (live_of covers one) one) result old new refl kept.0 taken, kept.1))) facts

  -- So does the rename that gives a file its name, where the item is being finished.
  pub facts_rename : stage_of one.phase ≡ Some Moving → NamesDiffer items → Stands old (files_place (part_name one.id.0 one.epoch.0)) → RenameStep (files_place (part_name one.id.0 one.epoch.0)) (files_place name) result old new
      → Facts says covers items old.files → Facts says covers items new.files
  facts_rename moving differ stands taken facts =
      facts_beside_both says covers items k one there small (λ other. (other ≡ part_name one.id.0 one.epoch.0) ⊎ (other ≡ name)) old new
      (others_rename says old new result (part_name one.id.0 one.epoch.0) name taken) name name_is (stage_some one.phase Moving moving) (kept_before Moving moving facts).1 differ (λ other touches. touches)
      (own_fact Moving moving (λ kept. (rename_held (says address key) (record (claim_of name (live_of covers one) one) { stage = Moving }) result old new refl stands kept.0 taken, kept.1))) facts

-- The making and the removal of the part of an item that isn't described leave the facts of all items.
module _ (says : Says) (covers : Covers) (items : List Item) (old new : DiskState) (result : Result (Unit {0}) DiskFault) (k : ℕ) (one : Item) (there : item_in k items ≡ Some one) (small : EachItem IsSmall items) (untold : one.key ≡ None) where
  untold_fact : Fact says covers old.files one → Fact says covers new.files one
  untold_fact fact key address name key_is address_is name_is = absurd cc

  pub facts_create : CreateStep (files_place (part_name one.id.0 one.epoch.0)) result old new → Facts says covers items old.files → Facts says covers items new.files
  facts_create taken =
      facts_beside_part says covers items k one there small (λ other. other ≡ part_name one.id.0 one.epoch.0) old new
      (others_create says old new result (part_name one.id.0 one.epoch.0) taken) (λ other same. same) untold_fact

  pub facts_discard : RemoveStep (files_place (part_name one.id.0 one.epoch.0)) result old new → Facts says covers items old.files → Facts says covers items new.files
  facts_discard taken =
      facts_beside_part says covers items k one there small (λ other. other ≡ part_name one.id.0 one.epoch.0) old new
      (others_remove says old new result (part_name one.id.0 one.epoch.0) taken) (λ other same. same) untold_fact

-- A part is left over where its item is gone, cancelled or complete, or has another epoch.
abbrev pub IsLeft : List Item → ℕ → ℕ → Type 0
IsLeft items id epoch = (item : Item) → item_in id items ≡ Some item → (item.epoch.0 ≢ epoch) ⊎ ((stage_of item.phase ≡ None) ⊎ (stage_of item.phase ≡ Some Published))

-- The removal of such a part leaves the facts of all items.
module _ (says : Says) (covers : Covers) (items : List Item) (old new : DiskState) (result : Result (Unit {0}) DiskFault) (id epoch : ℕ) (small : EachItem IsSmall items) (id_small : id < 2 ^ 32) (epoch_small : epoch < 2 ^ 32) (left : IsLeft items id epoch)
    (taken : RemoveStep (files_place (part_name id epoch)) result old new) where
  left_part : (name : List ℕ) → name ≡ part_name id epoch → IsPart name
  left_part name same = record { id = id; epoch = epoch; small = (id_small, epoch_small); is = same }

  -- an item with another part
  with_other : (item : Item) → (part_name item.id.0 item.epoch.0 ≡ part_name id epoch → ⊥) → Fact says covers old.files item → Fact says covers new.files item
  with_other item other fact key address name key_is address_is name_is =
      file_others says (λ touched. touched ≡ part_name id epoch) old new (others_remove says old new result (part_name id epoch) taken) address key (stage_of item.phase) name (live_of covers item) item other
      (λ stage here free same. free (left_part name same)) (fact key address name key_is address_is name_is)

  -- the item whose part it is, cancelled or complete
  file_swept : (address : List ℕ) (key : Key) (stage : Option Stage) (name : List ℕ) (live : List Slice) (item : Item) → part_name item.id.0 item.epoch.0 ≡ part_name id epoch → (stage ≡ None) ⊎ (stage ≡ Some Published)
      → FileKept (says address key) old.files stage (claim_of name live item) → FileKept (says address key) new.files stage (claim_of name live item)
  file_swept address key None name live item same done kept =
      discard_short (part_name item.id.0 item.epoch.0) item.total result old new kept (subst (λ (n : List ℕ). RemoveStep (files_place n) result old new) (sym same) taken)
  file_swept address key (Some stage) name live item same (inl none) kept = absurd cc
  file_swept address key (Some stage) name live item same (inr published) kept = (
    sweep_held (says address key) (record (claim_of name live item) { stage = stage }) result old new (some_is stage Published published) (λ equal. kept.1 (left_part name (equal ∙ same))) kept.0
        (subst (λ (n : List ℕ). RemoveStep (files_place n) result old new) (sym same) taken),
    kept.1,
  )

  with_it : (item : Item) → item_in id items ≡ Some item → (item.epoch.0 ≢ epoch) ⊎ ((stage_of item.phase ≡ None) ⊎ (stage_of item.phase ≡ Some Published)) → (test : Bool) → (item.epoch.0 == epoch) ≡ test
      → Fact says covers old.files item → Fact says covers new.files item
  with_it item is done false other =
      let theirs = small id item is in
      with_other item (λ same. eq_not item.epoch.0 epoch other (one_name item.id.0 item.epoch.0 id epoch theirs.id theirs.epoch id_small epoch_small same).1)
  with_it item is (inl other) true at = absurd (other (eq_is item.epoch.0 epoch at))
  with_it item is (inr done) true at = λ fact key address name key_is address_is name_is.
      let same_id : item.id.0 ≡ id = id_in id item items is in
      let same_epoch : item.epoch.0 ≡ epoch = eq_is item.epoch.0 epoch at in
      let same : part_name item.id.0 item.epoch.0 ≡ part_name id epoch = ap (λ (n : ℕ). part_name n item.epoch.0) same_id ∙ ap (part_name id) same_epoch in
      file_swept address key (stage_of item.phase) name (live_of covers item) item same done (fact key address name key_is address_is name_is)

  pub facts_swept : Facts says covers items old.files → Facts says covers items new.files
  facts_swept =
      facts_of_one says covers covers items old.files new.files id
      (λ k item apart is.
      let theirs = small k item is in
      with_other item (λ same. apart (sym (id_in k item items is) ∙ (one_name item.id.0 item.epoch.0 id epoch theirs.id theirs.epoch id_small epoch_small same).0)))
      (λ item is. with_it item is (left item is) (item.epoch.0 == epoch) refl)

-- A sync of the files' names leaves the facts of whatever items, and what reads under each name.
names_same : (result : Result (Unit {0}) DiskFault) (old new : DiskState) → SyncNamesStep Files result old new → (new.state ≡ old.state) × (names_of new.files ≡ names_of old.files)
names_same (Ok done) old new taken = (taken.1, ap (after_changes new.files.synced) taken.0.changes ∙ taken.0.synced)
names_same (Err fault) old new same = (ap (λ (d : DiskState). d.state) same, ap (λ (d : DiskState). names_of d.files) same)

names_read : (result : Result (Unit {0}) DiskFault) (old new : DiskState) → SyncNamesStep Files result old new → (name : List ℕ) → contents_of new.files name ≡ contents_of old.files name
names_read (Ok done) old new taken = names_synced_reads old.files new.files taken.0
names_read (Err fault) old new same = λ name. ap (λ (d : DiskState). contents_of d.files name) same

pub names_stay : (says : Says) (result : Result (Unit {0}) DiskFault) (old new : DiskState) → SyncNamesStep Files result old new → StaysKept says old new
names_stay says result old new taken = record {
  state = (names_same result old new taken).0;
  names = (names_same result old new taken).1;
  reads = names_read result old new taken;
  quiet = λ quiet. quiet_names IsPart result old new quiet Files taken;
  facts = λ covers items. facts_names says covers items Files result old new taken;
}
