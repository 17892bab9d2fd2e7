-- Facts of the items behind one more entry, over the files as they are. `covers` are live before it, and `after` behind it.
use Rattle.std.proofs.Common.{◌≡◌, ◌≢◌, ◌⊎◌, inl, inr, ℕ, Bool, true, false, ◌||◌, IsTrue, List, [], ◌∷◌, ◌++◌, reverse, Option, Some, None, refl, sym, ◌∙◌, ap, subst}
use Rattle.std.proofs.lemmas.Bool.{false≢true}
use Rattle.dm_types.specs.declared.entry.Entry.{Entry}
use Rattle.dm_types.specs.declared.entry.Entry.TheVariants as entries
use Rattle.dm_types.specs.declared.item.Attempt.{Attempt}
use Rattle.dm_types.specs.declared.item.Epoch.{Epoch}
use Rattle.dm_types.specs.declared.item.Item.{Item}
use Rattle.dm_types.specs.declared.item.ItemId.{ItemId}
use Rattle.dm_types.specs.declared.item.Key.{Key}
use Rattle.dm_types.specs.declared.item.Phase.{Phase}
use Rattle.dm_types.specs.declared.item.Phase.TheVariants as phases
use Rattle.dm_types.specs.declared.kinds.By.{By}
use Rattle.dm_types.specs.declared.kinds.By.TheVariants.{User, Itself}
use Rattle.dm_types.specs.declared.reason.Reason.{Reason}
use Rattle.dm_types.specs.declared.slices.Slice.{Slice}
use Rattle.dm_disk_model.specs.Folder.{Folder}
use Rattle.dm_item.specs.Fields.{added_item, is_running, stopped}
use Rattle.dm_item.specs.History.{get}
use Rattle.dm_item.specs.Lawful.{History, IsOf, items_of}
use Rattle.dm_item.specs.Listing.{Admits, Listing, Meets, Row, Takes, applied, changed_at, item_in}
use Rattle.dm_item.specs.Kept.{IsNumbered}
use Rattle.dm_item.specs.Row.{Further, allows, changed, stopped_item}
use Rattle.dm_item.proofs.Histories.{keeps_step}
use Rattle.dm_part.specs.Keeping.{IsShort, Stage, Going}
use Rattle.dm_kept.specs.Files.{Covers, EachItem, Fact, Facts, FileKept, Says, claim_of, live_of, no_covers, stage_of}
use Rattle.dm_kept.proofs.FilesKept.{file_saved}
use Rattle.dm_kept.proofs.Lists.{each_changed, each_gone, each_pushed, each_stopped, some_is}

-- the items of a list are those of its history
pub items_are : (history : History) (v : Listing) → IsOf history v → v.items ≡ items_of history
items_are history v is = ap (λ (w : Listing). w.items) is.value

-- what an entry makes of the list is the list of the longer history
pub entered_is : (history : History) (entry : Entry) (v : Listing) → IsOf history v → Admits v entry → (applied entry v).items ≡ items_of (history ++ entry ∷ [])
entered_is history entry v is may =
    items_are (history ++ entry ∷ []) (applied entry v) (keeps_step history entry v (applied entry v) is (record { room = may.room; meets = may.meets; value = refl }))

-- the live covers are the same but of one id
abbrev pub SameBut : ℕ → Covers → Covers → Type 0
SameBut k covers after = (id : ℕ) → id ≢ k → after id ≡ covers id

-- of the item with the id the same places are live, or the saved ones alone
abbrev pub NoMoreLive : ℕ → List Item → Covers → Covers → Type 0
NoMoreLive k items covers after = (item : Item) → item_in k items ≡ Some item → (live_of after item ≡ live_of covers item) ⊎ (live_of after item ≡ item.slices)

-- an item whose live cover stays
fact_moved : (says : Says) (covers after : Covers) (folder : Folder) (item : Item) → after item.id.0 ≡ covers item.id.0 → Fact says covers folder item → Fact says after folder item
fact_moved says covers after folder item same fact key address name key_is address_is name_is =
    subst (λ (cover : Option (List Slice)). FileKept (says address key) folder (stage_of item.phase) (claim_of name (get cover item.slices) item)) (sym same) (fact key address name key_is address_is name_is)

-- a described item's fact, from what is kept of its file
pub fact_of : (says : Says) (covers : Covers) (folder : Folder) (item : Item) (key : Key) (address name : List ℕ) → item.key ≡ Some key → item.last_address ≡ Some address → item.name ≡ Some name
    → FileKept (says address key) folder (stage_of item.phase) (claim_of name (live_of covers item) item) → Fact says covers folder item
fact_of says covers folder item key address name key_is address_is name_is kept key' address' name' key_is' address_is' name_is' =
    subst (λ (n : List ℕ). FileKept (says address' key') folder (stage_of item.phase) (claim_of n (live_of covers item) item)) (some_is name name' (sym name_is ∙ name_is'))
    (subst (λ (a : List ℕ). FileKept (says a key') folder (stage_of item.phase) (claim_of name (live_of covers item) item)) (some_is address address' (sym address_is ∙ address_is'))
    (subst (λ (w : Key). FileKept (says address w) folder (stage_of item.phase) (claim_of name (live_of covers item) item)) (some_is key key' (sym key_is ∙ key_is')) kept))

-- an item that isn't described has none
pub fact_untold : (says : Says) (covers : Covers) (folder : Folder) (item : Item) → item.key ≡ None → Fact says covers folder item
fact_untold says covers folder item none key address name key_is address_is name_is = absurd cc

-- no more places are live, at the same stage
file_less : (says : ℕ → ℕ → Type 0) (folder : Folder) (stage stage' : Option Stage) (name : List ℕ) (live live' : List Slice) (item : Item) → stage ≡ stage' → (live' ≡ live) ⊎ (live' ≡ item.slices)
    → FileKept says folder stage (claim_of name live item) → FileKept says folder stage' (claim_of name live' item)
file_less says folder stage stage' name live live' item same (inl equal) kept =
    subst (λ (s : Option Stage). FileKept says folder s (claim_of name live' item)) same (subst (λ (l : List Slice). FileKept says folder stage (claim_of name l item)) (sym equal) kept)
file_less says folder stage stage' name live live' item same (inr saved) kept =
    subst (λ (s : Option Stage). FileKept says folder s (claim_of name live' item)) same
    (subst (λ (l : List Slice). FileKept says folder stage (claim_of name l item)) (sym saved) (file_saved says folder stage name live item kept))

-- at whatever stage the part is short
file_short : (says : ℕ → ℕ → Type 0) (folder : Folder) (stage : Option Stage) (name : List ℕ) (live : List Slice) (item : Item) → FileKept says folder stage (claim_of name live item)
    → IsShort (claim_of name live item).part (claim_of name live item).total folder
file_short says folder None name live item kept = kept
file_short says folder (Some stage) name live item kept = kept.0.short

-- the row that an entry meets
pub row_of : (e : Entry) (items : List Item) (item : Item) (found : Option Item) → found ≡ Some item → Row e items found → IsTrue (allows e item.phase) × Further e items item
row_of e items item None is row = absurd row
row_of e items item (Some other) is row = subst (λ (x : Item). IsTrue (allows e x.phase) × Further e items x) (some_is other item is) row

-- the phases before an entry in which content comes into the part

going_running : (phase : Phase) → IsTrue (is_running phase) → stage_of phase ≡ Some Going
going_running phases.Running allowed = refl
going_running phases.Waiting allowed = refl
going_running phases.Paused allowed = refl
going_running phases.Finishing allowed = absurd (false≢true allowed)
going_running phases.Complete allowed = absurd (false≢true allowed)
going_running phases.Cancelled allowed = absurd (false≢true allowed)
going_running (phases.Interrupted reason) allowed = refl

going_began : (id : ItemId) (attempt : Attempt) (by : By) (at : ℕ) (phase : Phase) → IsTrue (allows (entries.Began id attempt by at) phase) → stage_of phase ≡ Some Going
going_began id attempt by at phases.Running allowed = refl
going_began id attempt by at phases.Waiting allowed = refl
going_began id attempt by at phases.Paused allowed = refl
going_began id attempt User at phases.Finishing allowed = absurd (false≢true allowed)
going_began id attempt User at phases.Complete allowed = absurd (false≢true allowed)
going_began id attempt User at phases.Cancelled allowed = absurd (false≢true allowed)
going_began id attempt Itself at phases.Finishing allowed = absurd (false≢true allowed)
going_began id attempt Itself at phases.Complete allowed = absurd (false≢true allowed)
going_began id attempt Itself at phases.Cancelled allowed = absurd (false≢true allowed)
going_began id attempt by at (phases.Interrupted reason) allowed = refl

going_paused : (id : ItemId) (phase : Phase) → IsTrue (allows (entries.Paused id) phase) → stage_of phase ≡ Some Going
going_paused id phases.Running allowed = refl
going_paused id phases.Waiting allowed = refl
going_paused id phases.Paused allowed = refl
going_paused id phases.Finishing allowed = absurd (false≢true allowed)
going_paused id phases.Complete allowed = absurd (false≢true allowed)
going_paused id phases.Cancelled allowed = absurd (false≢true allowed)
going_paused id (phases.Interrupted reason) allowed = refl

going_asked : (id : ItemId) (phase : Phase) → IsTrue (allows (entries.Asked id) phase) → stage_of phase ≡ Some Going
going_asked id phases.Running allowed = refl
going_asked id phases.Waiting allowed = refl
going_asked id phases.Paused allowed = refl
going_asked id phases.Finishing allowed = absurd (false≢true allowed)
going_asked id phases.Complete allowed = absurd (false≢true allowed)
going_asked id phases.Cancelled allowed = absurd (false≢true allowed)
going_asked id (phases.Interrupted reason) allowed = refl

-- a Reopened leaves each file where it is
going_stopped : (phase : Phase) → stage_of (stopped phase) ≡ stage_of phase
going_stopped phases.Running = refl
going_stopped phases.Waiting = refl
going_stopped phases.Paused = refl
going_stopped phases.Finishing = refl
going_stopped phases.Complete = refl
going_stopped phases.Cancelled = refl
going_stopped (phases.Interrupted reason) = refl

module _ (says : Says) (covers after : Covers) (folder : Folder) where
  -- an entry that changes the item of one id
  pub facts_changed : (e : Entry) (k : ℕ) (items : List Item) → ((item : Item) → (changed e item).id.0 ≡ item.id.0) → SameBut k covers after
      → ((item : Item) → item_in k items ≡ Some item → Fact says covers folder item → Fact says after folder (changed e item)) → Facts says covers items folder → Facts says after (changed_at e k items) folder
  facts_changed e k items same others one =
      each_changed (Fact says covers folder) (Fact says after folder) e k items same (λ item apart fact. fact_moved says covers after folder item (others item.id.0 apart) fact) one

  -- What is kept of the item's file behind the entry is given: for a Described, a Progress, a Finishing, a Done, and the Broke of an item that is being finished.
  pub facts_given : (e : Entry) (k : ℕ) (items : List Item) → ((item : Item) → (changed e item).id.0 ≡ item.id.0) → SameBut k covers after
      → ((item : Item) → item_in k items ≡ Some item → Fact says after folder (changed e item)) → Facts says covers items folder → Facts says after (changed_at e k items) folder
  facts_given e k items same others one = facts_changed e k items same others (λ item there fact. one item there)

  pub facts_began : (id : ItemId) (attempt : Attempt) (by : By) (at : ℕ) (v : Listing) → Meets v (entries.Began id attempt by at) → SameBut id.0 covers after → NoMoreLive id.0 v.items covers after
      → Facts says covers v.items folder → Facts says after (applied (entries.Began id attempt by at) v).items folder
  facts_began id attempt by at v meets others less =
      facts_changed (entries.Began id attempt by at) id.0 v.items (λ item. refl) others
      (λ item there fact key address name key_is address_is name_is.
      file_less (says address key) folder (stage_of item.phase) (Some Going) name (live_of covers item) (live_of after item) item
      (going_began id attempt by at item.phase (row_of (entries.Began id attempt by at) v.items item (item_in id.0 v.items) there meets).0) (less item there) (fact key address name key_is address_is name_is))

  pub facts_paused : (id : ItemId) (v : Listing) → Meets v (entries.Paused id) → SameBut id.0 covers after → NoMoreLive id.0 v.items covers after → Facts says covers v.items folder → Facts says after (applied (entries.Paused id) v).items folder
  facts_paused id v meets others less =
      facts_changed (entries.Paused id) id.0 v.items (λ item. refl) others
      (λ item there fact key address name key_is address_is name_is.
      file_less (says address key) folder (stage_of item.phase) (Some Going) name (live_of covers item) (live_of after item) item
      (going_paused id item.phase (row_of (entries.Paused id) v.items item (item_in id.0 v.items) there meets).0) (less item there) (fact key address name key_is address_is name_is))

  pub facts_asked : (id : ItemId) (v : Listing) → Meets v (entries.Asked id) → SameBut id.0 covers after → NoMoreLive id.0 v.items covers after → Facts says covers v.items folder → Facts says after (applied (entries.Asked id) v).items folder
  facts_asked id v meets others less =
      facts_changed (entries.Asked id) id.0 v.items (λ item. refl) others
      (λ item there fact key address name key_is address_is name_is.
      file_less (says address key) folder (stage_of item.phase) (Some Going) name (live_of covers item) (live_of after item) item
      (going_asked id item.phase (row_of (entries.Asked id) v.items item (item_in id.0 v.items) there meets).0) (less item there) (fact key address name key_is address_is name_is))

  -- an item that runs is interrupted
  pub facts_broke : (id : ItemId) (reason : Reason) (v : Listing) → ((item : Item) → item_in id.0 v.items ≡ Some item → IsTrue (is_running item.phase)) → SameBut id.0 covers after → NoMoreLive id.0 v.items covers after
      → Facts says covers v.items folder → Facts says after (applied (entries.Broke id reason) v).items folder
  facts_broke id reason v runs others less =
      facts_changed (entries.Broke id reason) id.0 v.items (λ item. refl) others
      (λ item there fact key address name key_is address_is name_is.
      file_less (says address key) folder (stage_of item.phase) (Some Going) name (live_of covers item) (live_of after item) item
      (going_running item.phase (runs item there)) (less item there) (fact key address name key_is address_is name_is))

  -- of a cancelled item the part is short
  pub facts_cancelled : (id : ItemId) (v : Listing) → SameBut id.0 covers after → Facts says covers v.items folder → Facts says after (applied (entries.Cancelled id) v).items folder
  facts_cancelled id v others =
      facts_changed (entries.Cancelled id) id.0 v.items (λ item. refl) others
      (λ item there fact key address name key_is address_is name_is. file_short (says address key) folder (stage_of item.phase) name (live_of covers item) item (fact key address name key_is address_is name_is))

  -- what is brought anew isn't described
  pub facts_restarted : (id : ItemId) (epoch : Epoch) (because : ℕ) (v : Listing) → SameBut id.0 covers after → Facts says covers v.items folder → Facts says after (applied (entries.Restarted id epoch because) v).items folder
  facts_restarted id epoch because v others =
      facts_changed (entries.Restarted id epoch because) id.0 v.items (λ item. refl) others
      (λ item there fact. fact_untold says after folder (changed (entries.Restarted id epoch because) item) refl)

  pub facts_removed : (id : ItemId) (v : Listing) → IsNumbered 1 v.items v.next → SameBut id.0 covers after → Facts says covers v.items folder → Facts says after (applied (entries.Removed id) v).items folder
  facts_removed id v numbered others =
      each_gone (Fact says covers folder) (Fact says after folder) id.0 1 v.next v.items numbered (λ item apart fact. fact_moved says covers after folder item (others item.id.0 apart) fact)

  pub facts_archived : (id : ItemId) (v : Listing) → IsNumbered 1 v.items v.next → SameBut id.0 covers after → Facts says covers v.items folder → Facts says after (applied (entries.Archived id) v).items folder
  facts_archived id v numbered others =
      each_gone (Fact says covers folder) (Fact says after folder) id.0 1 v.next v.items numbered (λ item apart fact. fact_moved says covers after folder item (others item.id.0 apart) fact)

-- an item that is new isn't described
pub facts_added : (says : Says) (covers : Covers) (folder : Folder) (id : ItemId) (word address wish : List ℕ) (digest : Option (List ℕ)) (at : ℕ) (v : Listing) → Facts says covers v.items folder
    → Facts says covers (applied (entries.Added id word address wish digest at) v).items folder
facts_added says covers folder id word address wish digest at v =
    each_pushed (Fact says covers folder) (Fact says covers folder) (added_item id word address wish digest at) v.items (λ item fact. fact) (fact_untold says covers folder (added_item id word address wish digest at) refl)

pub facts_restored : (says : Says) (covers : Covers) (folder : Folder) (item : Item) (v : Listing) → Fact says covers folder item → Facts says covers v.items folder → Facts says covers (applied (entries.Restored item) v).items folder
facts_restored says covers folder item v new = each_pushed (Fact says covers folder) (Fact says covers folder) item v.items (λ other fact. fact) new

-- nothing is live behind an opening
pub facts_reopened : (says : Says) (covers : Covers) (folder : Folder) (next at : ℕ) (v : Listing) → Facts says covers v.items folder → Facts says no_covers (applied (entries.Reopened next at) v).items folder
facts_reopened says covers folder next at v =
    each_stopped (Fact says covers folder) (Fact says no_covers folder) v.items
    (λ item fact key address name key_is address_is name_is.
    file_less (says address key) folder (stage_of item.phase) (stage_of (stopped item.phase)) name (live_of covers item) item.slices item (sym (going_stopped item.phase)) (inr refl) (fact key address name key_is address_is name_is))
