-- What holds of whatever a job does.
use Rattle.std.specs.Prelude.{◌≡◌, ℕ, Some, Bool, true, false, List, [], ◌∷◌, IsTrue}
use Rattle.dm_types.specs.declared.entry.Entry.{Entry}
use Rattle.dm_types.specs.declared.entry.Entry.TheVariants as entries
use Rattle.dm_types.specs.declared.item.Item.{Item}
use Rattle.dm_types.specs.declared.item.ItemId.{ItemId}
use Rattle.dm_types.specs.declared.item.Phase.TheVariants as phases
use Rattle.dm_item.specs.Fields.{is_running}
use Rattle.dm_item.specs.Lawful.{History}
use Rattle.dm_item.specs.Listing.{Admits, Listing, item_in}
use Rattle.dm_report.specs.declared.verdict.Verdict.TheVariants.{Done, NoItem, WrongState, ItemsFull, OtherWord}
use Rattle.dm_does.specs.declared.course.Course.{Course}
use Rattle.dm_does.specs.declared.course.Course.TheVariants.{Ends, Brings}
use Rattle.dm_store.specs.Becomes.{run_of}
use Rattle.dm_does.specs.Doing.{Doing}

-- the entries that a command records of its own
abbrev pub is_own : Entry → Bool
is_own (entries.Added id word address wish digest at) = true
is_own (entries.Asked id) = true
is_own (entries.Paused id) = true
is_own (entries.Cancelled id) = true
is_own (entries.Removed id) = true
is_own _ = false

-- it isn't refused: it is done, or brings an item
abbrev pub GoesOn : Course → Type 0
GoesOn (Ends Done show) = Unit {0}
GoesOn (Ends verdict show) = ⊥
GoesOn (Brings id slices) = Unit {0}

-- it is done, brings an item, or is refused for what the list holds
abbrev pub IsOfList : Course → Type 0
IsOfList (Ends Done show) = Unit {0}
IsOfList (Ends (NoItem id) show) = Unit {0}
IsOfList (Ends (WrongState phase) show) = Unit {0}
IsOfList (Ends (ItemsFull count) show) = Unit {0}
IsOfList (Ends (OtherWord id) show) = Unit {0}
IsOfList (Ends verdict show) = ⊥
IsOfList (Brings id slices) = Unit {0}

-- No entry, or one of its own, which the list takes, and then the command isn't refused.
abbrev pub FitsEntries : Listing → History → Course → Type 0
FitsEntries list [] course = Unit {0}
FitsEntries list (entry ∷ []) course = IsTrue (is_own entry) × Admits list entry × GoesOn course
FitsEntries list (entry ∷ other ∷ more) course = ⊥

pub record Fits (list : Listing) (doing : Doing) : Type 0 where
  pub entries : FitsEntries list doing.entries doing.course
  pub course : IsOfList doing.course

-- no attempt runs: so it is behind an opening
abbrev pub NoneRuns : List Item → Type 0
NoneRuns items = (id : ℕ) (item : Item) → item_in id items ≡ Some item → is_running item.phase ≡ false

-- the item with the id waits
pub record Waits (id : ItemId) (items : List Item) : Type 0 where
  pub item : Item
  pub there : item_in id.0 items ≡ Some item
  pub waits : item.phase ≡ phases.Waiting

-- The item that is to be brought waits behind the job's own entries.
abbrev pub WaitsBy : Listing → History → Course → Type 0
WaitsBy list entries (Ends verdict show) = Unit {0}
WaitsBy list entries (Brings id slices) = Waits id (run_of entries list).items
