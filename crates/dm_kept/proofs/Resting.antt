-- What is recovered from the images of a disk, with the files.
use Rattle.std.specs.Prelude.{IsSome}
use Rattle.std.proofs.Common.{◌≡◌, ◌⊎◌, inl, inr, ℕ, Bool, true, false, List, [], ◌∷◌, ◌++◌, Option, refl, sym, ◌∙◌, ap, subst, append_assoc}
use Rattle.dm_types.specs.declared.entry.Entry.{Entry}
use Rattle.dm_disk_model.specs.Disk.{DiskState, Image, IsSoundDisk, MayLeave, History as Clock, now, reading}
use Rattle.dm_disk_model.specs.Firm.{HasFile, IsAbsent}
use Rattle.dm_disk_model.proofs.Images.{as_read}
use Rattle.dm_disk_model.specs.Folder.{Folder, FolderLeaves, Names, contents_of}
use Rattle.dm_disk_model.specs.Moments.{KeepsFiles, LeavesOnly, Throughout}
use Rattle.dm_disk_model.specs.File.{settled_file}
use Rattle.dm_disk_model.proofs.FirmNames.{none_left}
use Rattle.dm_disk_model.proofs.Reaching.{both, weaker}
use Rattle.dm_record.specs.Spelling.{spelling_of}
use Rattle.dm_record.specs.Limits.{IsEntry}
use Rattle.dm_item.specs.Lawful.{History, items_of}
use Rattle.dm_journal.specs.AtRest.{AtRest, HasJournal, MayLeaveJust, WithOrWithout, journal_name}
use Rattle.dm_journal.proofs.Losing.{rest_leaves_just}
use Rattle.dm_kept.specs.Recovery.{Found, Through, recovered}
use Rattle.dm_kept.specs.Room.{IsTaken, MayFollow}
use Rattle.dm_types.specs.Limits.{most_items}
use Rattle.dm_kept.specs.Spelled.{AllEntries, Records, bodies_of}
use Rattle.dm_kept.proofs.Histories.{bodies_push, entries_push, records_one, taken_push}
use Rattle.dm_kept.proofs.Images.{at_first, at_second, journal_recorded, rest_image}
use Rattle.dm_types.specs.Name.{IsPart, part_name}
use Rattle.dm_disk_model.specs.Beside.{IsFirmBut}
use Rattle.dm_kept.specs.Files.{Covers, EndsLive, Facts, IfGood, PartsStand, Says, Sound, no_covers}
use Rattle.dm_kept.specs.Kept.{IsKeptNow, Kept, LeavesJust, Recovers, Rests, Sits, StaysKept, WasKept}
use Rattle.dm_kept.proofs.Flags.{if_is, if_map}
use Rattle.dm_kept.proofs.FilesKept.{facts_saved, facts_sound}

pub recovers_weaker : (good : Bool) (says : Says) (P Q : Found → Type 0) (folder : Folder) (image : Image) → ((found : Found) → P found → Q found) → Recovers good says P folder image → Recovers good says Q folder image
recovers_weaker good says P Q folder image leads is =
    record { history = is.history; recorded = is.recorded; taken = is.taken; items = leads (recovered is.history) is.items; facts = is.facts; sound = is.sound }

pub kept_weaker : (good : Bool) (says : Says) (P Q : Found → Type 0) (disk : DiskState) → ((found : Found) → P found → Q found) → Kept good says P disk → Kept good says Q disk
kept_weaker good says P Q disk leads kept image left = recovers_weaker good says P Q disk.files image leads (kept image left)

-- of a disk that isn't good it doesn't matter what is said
pub kept_any : (says other : Says) (P : Found → Type 0) (disk : DiskState) → Kept false says P disk → Kept false other P disk
kept_any says other P disk kept image left =
    let is = kept image left in record { history = is.history; recorded = is.recorded; taken = is.taken; items = is.items; facts = tt; sound = tt }

pub rests_any : (says other : Says) (history : History) (gate : ℕ) (covers : Covers) (disk : DiskState) → Rests false says history gate covers disk → Rests false other history gate covers disk
rests_any says other history gate covers disk rests = record { journal = rests.journal; entries = rests.entries; taken = rests.taken; facts = tt }

-- an image with the journal of a history whose items' facts hold
has_recovers : (good : Bool) (says : Says) (P : Found → Type 0) (history : History) (disk : DiskState) (image : Image) → AllEntries history → IsTaken most_items history → P (recovered history)
    → IfGood good (Facts says no_covers (items_of history) disk.files) → MayLeave disk image → HasJournal (bodies_of history) image → Recovers good says P disk.files image
has_recovers good says P history disk image entries taken items facts left has = record {
  history = history;
  recorded = journal_recorded history image entries has;
  taken = taken;
  items = items;
  facts = facts;
  sound = if_map good (Facts says no_covers (items_of history) disk.files) (Sound says (items_of history) image) (facts_sound says (items_of history) disk image left) facts;
}

saved : (good : Bool) (says : Says) (covers : Covers) (history : History) (folder : Folder) → IfGood good (Facts says covers (items_of history) folder) → IfGood good (Facts says no_covers (items_of history) folder)
saved good says covers history folder = if_map good (Facts says covers (items_of history) folder) (Facts says no_covers (items_of history) folder) (facts_saved says covers (items_of history) folder)

-- at rest each image recovers to what the history leaves
pub rests_kept : (good : Bool) (says : Says) (history more : History) (gate : ℕ) (covers : Covers) (disk : DiskState) → Rests good says history gate covers disk → Kept good says (Through history more) disk
rests_kept good says history more gate covers disk rests image left =
    has_recovers good says (Through history more) history disk image rests.entries rests.taken (at_first history more) (saved good says covers history disk.files rests.facts) left
    (rest_image (bodies_of history) gate disk image rests.journal left)

-- one entry is appended, and the files stay
module _ (good : Bool) (says : Says) (history : History) (gate : ℕ) (covers covers' : Covers) (old new : Clock) (entry : Entry) (is : IsEntry entry) (follows : MayFollow most_items history entry)
    (rests : Rests good says history gate covers (now old)) (keeps : KeepsFiles old new) (after : IfGood good (Facts says covers' (items_of (history ++ entry ∷ [])) (now old).files)) where
  either : (disk : DiskState) → disk.files ≡ (now old).files → (image : Image) → MayLeave disk image → WithOrWithout (bodies_of history) (spelling_of entry) image
      → Recovers good says (Through history (entry ∷ [])) disk.files image
  either disk same image left (inl has) =
      has_recovers good says (Through history (entry ∷ [])) history disk image rests.entries rests.taken (at_first history (entry ∷ []))
      (saved good says covers history disk.files (subst (λ (f : Folder). IfGood good (Facts says covers (items_of history) f)) (sym same) rests.facts)) left has
  either disk same image left (inr has) =
      has_recovers good says (Through history (entry ∷ [])) (history ++ entry ∷ []) disk image (entries_push history entry rests.entries is) (taken_push most_items history entry rests.taken follows) (at_second history entry)
      (saved good says covers' (history ++ entry ∷ []) disk.files (subst (λ (f : Folder). IfGood good (Facts says covers' (items_of (history ++ entry ∷ [])) f)) (sym same) after)) left
      (subst (λ (bodies : List (List ℕ)). HasJournal bodies image) (sym (bodies_push history entry)) has)

  pub moments : LeavesOnly old new (WithOrWithout (bodies_of history) (spelling_of entry)) → Throughout old new (Kept good says (Through history (entry ∷ [])))
  moments only =
      weaker old new (λ disk. (disk.files ≡ (now old).files) × ((image : Image) → MayLeave disk image → WithOrWithout (bodies_of history) (spelling_of entry) image)) (Kept good says (Through history (entry ∷ [])))
      (λ disk each image left. either disk each.0 image left (each.1 image left))
      (both old new (λ disk. disk.files ≡ (now old).files) (λ disk. (image : Image) → MayLeave disk image → WithOrWithout (bodies_of history) (spelling_of entry) image) keeps only)

  -- after Ok it is at rest with the entry
  pub rests_more : (gate' : ℕ) → AtRest (now new) gate' (bodies_of history ++ spelling_of entry ∷ []) → (now new).files ≡ (now old).files → Rests good says (history ++ entry ∷ []) gate' covers' (now new)
  rests_more gate' rest same = record {
    journal = subst (AtRest (now new) gate') (sym (bodies_push history entry)) rest;
    entries = entries_push history entry rests.entries is;
    taken = taken_push most_items history entry rests.taken follows;
    facts = subst (λ (f : Folder). IfGood good (Facts says covers' (items_of (history ++ entry ∷ [])) f)) (sym same) after;
  }

-- through a longer front, and through a longer back
pub through_front : (before first second : History) (found : Found) → Through before first found → Through before (first ++ second) found
through_front before [] [] found is = is
through_front before [] (entry ∷ second) found is = inl is
through_front before (entry ∷ first) second found (inl is) = inl is
through_front before (entry ∷ first) second found (inr is) = inr (through_front (before ++ entry ∷ []) first second found is)

pub through_back : (before first second : History) (found : Found) → Through (before ++ first) second found → Through before (first ++ second) found
through_back before [] second found is = subst (λ (h : History). Through h second found) (append_nil_is before) is
  where
    append_nil_is : (h : History) → h ++ [] ≡ h
    append_nil_is [] = refl
    append_nil_is (e ∷ h) = ap (λ (x : History). e ∷ x) (append_nil_is h)
through_back before (entry ∷ first) second found is =
    inr (through_back (before ++ entry ∷ []) first second found (subst (λ (h : History). Through h second found) (sym (append_assoc before (entry ∷ []) first)) is))

-- the image that a step on the files might have found: the state of this one, and the files as they read
before_step : (old new : DiskState) (image : Image) → IsSoundDisk old → new.state ≡ old.state → MayLeave new image → MayLeave old (record { state = image.state; files = contents_of old.files })
before_step old new image sound same left = record {
  state = subst (λ (f : Folder). FolderLeaves f image.state) same left.state;
  files = (as_read old sound).files;
}

pub kept_stays : (good : Bool) (says : Says) (P : Found → Type 0) (old new : DiskState) → IsSoundDisk old → StaysKept says old new → Kept good says P old → Kept good says P new
kept_stays good says P old new sound stays kept image left =
    let was = kept (record { state = image.state; files = contents_of old.files }) (before_step old new image sound stays.state left) in
    let facts = if_map good (Facts says no_covers (items_of was.history) old.files) (Facts says no_covers (items_of was.history) new.files) (stays.facts no_covers (items_of was.history)) was.facts in
    record {
      history = was.history;
      recorded = was.recorded;
      taken = was.taken;
      items = was.items;
      facts = facts;
      sound = if_map good (Facts says no_covers (items_of was.history) new.files) (Sound says (items_of was.history) image) (facts_sound says (items_of was.history) new image left) facts;
    }

-- a step of the files leaves the journal at rest
journal_stays : (disk new : DiskState) (gate : ℕ) (bodies : List (List ℕ)) → new.state ≡ disk.state → AtRest disk gate bodies → AtRest new gate bodies
journal_stays disk new gate bodies same rest = record {
  bytes = rest.bytes;
  file = subst (λ (f : Folder). HasFile f journal_name (settled_file rest.bytes)) (sym same) rest.file;
  text = rest.text;
  at = rest.at;
}

pub rests_with : (good : Bool) (says : Says) (history : History) (gate : ℕ) (covers after : Covers) (old new : DiskState) → new.state ≡ old.state
    → (Facts says covers (items_of history) old.files → Facts says after (items_of history) new.files) → Rests good says history gate covers old → Rests good says history gate after new
rests_with good says history gate covers after old new same leads rests = record {
  journal = journal_stays old new gate (bodies_of history) same rests.journal;
  entries = rests.entries;
  taken = rests.taken;
  facts = if_map good (Facts says covers (items_of history) old.files) (Facts says after (items_of history) new.files) leads rests.facts;
}

pub sits_stay : (good : Bool) (says : Says) (history : History) (gate : ℕ) (covers : Covers) (old new : DiskState) → StaysKept says old new → Sits good says history gate covers old → Sits good says history gate covers new
sits_stay good says history gate covers old new stays sits = record {
  rests = rests_with good says history gate covers covers old new stays.state (stays.facts covers (items_of history)) sits.rests;
  quiet = stays.quiet sits.quiet;
  stand = λ id item there brings. subst (λ (names : Names). IsSome (names (part_name item.id.0 item.epoch.0))) (sym stays.names) (sits.stand id item there brings);
  ends = if_map good (EndsLive covers (items_of history) old.files) (EndsLive covers (items_of history) new.files)
      (λ ends id item there brings none bytes reads. ends id item there brings none bytes (sym (stays.reads (part_name item.id.0 item.epoch.0)) ∙ reads)) sits.ends;
}

-- of a disk that isn't good it doesn't matter what is said
pub sits_any : (says other : Says) (history : History) (gate : ℕ) (covers : Covers) (disk : DiskState) → Sits false says history gate covers disk → Sits false other history gate covers disk
sits_any says other history gate covers disk sits =
    record { rests = rests_any says other history gate covers disk sits.rests; quiet = sits.quiet; stand = sits.stand; ends = tt }

-- a history sits where it is at rest and the files are as they were
pub sits_of : (good : Bool) (says : Says) (history : History) (gate : ℕ) (covers : Covers) (old disk : DiskState) → disk.files ≡ old.files → Rests good says history gate covers disk → IsFirmBut IsPart old.files
    → PartsStand (items_of history) old.files → IfGood good (EndsLive covers (items_of history) old.files) → Sits good says history gate covers disk
sits_of good says history gate covers old disk same rests quiet stand ends = record {
  rests = rests;
  quiet = subst (IsFirmBut IsPart) (sym same) quiet;
  stand = subst (PartsStand (items_of history)) (sym same) stand;
  ends = subst (λ (f : Folder). IfGood good (EndsLive covers (items_of history) f)) (sym same) ends;
}

-- A disk that was kept, and reads as the journal of a history, keeps the files of its items.
pub found_facts : (good : Bool) (says : Says) (history : History) (disk : DiskState) → IsSoundDisk disk → WasKept good says disk → Records (contents_of disk.state journal_name) history → IfGood good (Facts says no_covers (items_of history) disk.files)
found_facts false says history disk sound was reads = tt
found_facts true says history disk sound was reads =
    let is = was.kept (reading disk) (as_read disk sound) in
    subst (λ (h : History). Facts says no_covers (items_of h) disk.files) (records_one (contents_of disk.state journal_name) is.history history is.recorded reads) is.facts

-- at rest each image recovers exactly to what the history leaves
pub sits_kept : (good : Bool) (says : Says) (history more : History) (gate : ℕ) (covers : Covers) (disk : DiskState) → Sits good says history gate covers disk → Kept good says (Through history more) disk
sits_kept good says history more gate covers disk sits = rests_kept good says history more gate covers disk sits.rests

-- An empty disk is kept: no journal stands in any of its images, and no item has a file.
pub empty_kept : (good : Bool) (says : Says) (disk : DiskState) → IsAbsent journal_name disk.state → Kept good says (Through [] []) disk
empty_kept good says disk absent image left = record {
  history = [];
  recorded = subst (λ (found : Option (List ℕ)). Records found []) (sym (none_left disk.state journal_name image.state absent left.state)) refl;
  taken = record { lawful = tt; room = tt };
  items = refl;
  facts = if_is good (Facts says no_covers [] disk.files) (λ id item there. absurd cc);
  sound = if_is good (Sound says [] image) (λ id item there. absurd cc);
}

-- a good disk that is kept counts also where it needn't
pub kept_less : (good : Bool) (says : Says) (P : Found → Type 0) (disk : DiskState) → Kept true says P disk → Kept good says P disk
kept_less true says P disk kept = kept
kept_less false says P disk kept = λ image left.
    let is = kept image left in record { history = is.history; recorded = is.recorded; taken = is.taken; items = is.items; facts = tt; sound = tt }

-- What some crash leaves alone.

-- where it leaves the journal with just the bodies of a history
pub bodies_leave : (history : History) (disk : DiskState) → AllEntries history → MayLeaveJust (bodies_of history) disk.state → LeavesJust history disk
bodies_leave history disk entries just = record {
  left = just.left;
  leaves = just.leaves;
  records = subst (λ (found : Option (List ℕ)). Records found history) (sym just.found) (record { entries = entries; text = just.text });
}

-- a journal at rest
pub rests_leaves : (good : Bool) (says : Says) (history : History) (gate : ℕ) (covers : Covers) (disk : DiskState) → IsSoundDisk disk → Rests good says history gate covers disk → LeavesJust history disk
rests_leaves good says history gate covers disk sound rests = bodies_leave history disk rests.entries (rest_leaves_just (bodies_of history) disk gate sound rests.journal)

-- whatever is done to the user's files
pub leaves_stays : (history : History) (old new : DiskState) → new.state ≡ old.state → LeavesJust history old → LeavesJust history new
leaves_stays history old new same just = record { left = just.left; leaves = subst (λ (folder : Folder). FolderLeaves folder just.left) (sym same) just.leaves; records = just.records }
