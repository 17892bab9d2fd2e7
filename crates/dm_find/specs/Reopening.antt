-- A list that is begun: what was found is opened anew.
use Rattle.std.specs.Prelude.{◌≡◌, ◌⊎◌, ℕ, ◌+◌, Bool, true, false, List, [], ◌∷◌, ◌++◌, Option, Some, None, Result, Ok, Err, length}
use Rattle.dm_types.specs.declared.entry.Entry.{Entry}
use Rattle.dm_types.specs.declared.entry.Entry.TheVariants.{Reopened}
use Rattle.dm_types.specs.declared.kinds.DiskKind.{DiskKind}
use Rattle.dm_types.specs.Limits.{most_items}
use Rattle.dm_disk_model.specs.Disk.{History as Clock, now}
use Rattle.dm_disk_model.specs.Moments.{Throughout}
use Rattle.dm_record.specs.Spelling.{spelling_of}
use Rattle.dm_item.specs.Lawful.{History, IsOf}
use Rattle.dm_item.specs.Listing.{Listing, applied}
use Rattle.dm_journal.specs.AtRest.{AtRest}
use Rattle.dm_journal.specs.Text.{front}
use Rattle.dm_kept.specs.Files.{Says, no_covers}
use Rattle.dm_kept.specs.Kept.{Kept, Rests}
use Rattle.dm_kept.specs.Recovery.{Through}
use Rattle.dm_kept.specs.Room.{IsTaken}
use Rattle.dm_kept.specs.Spelled.{AllEntries, bodies_of}
use Rattle.dm_store.specs.Becomes.{run_of}
use Rattle.dm_store.specs.Keeps.{HoldsOf}
use Rattle.dm_store.specs.View.{View, spelled}
use Rattle.dm_find.specs.declared.hindered.Hindered.{Hindered}
use Rattle.dm_find.specs.declared.hindered.Hindered.TheVariants as hindrances

-- the kind that the disk counts
abbrev pub hindered_kind : Hindered → Option DiskKind
hindered_kind (hindrances.Disk kind) = Some kind
hindered_kind hindrances.NoMemory = None

-- the entry of an opening of a list
abbrev pub reopened_by : Listing → ℕ → Entry
reopened_by items at = Reopened items.next at

-- of a desk that was just found nothing lives, is listed or failed, and it is broken
pub record IsBare {D O : Type 0} (desk : View D O) : Type 0 where
  pub broken : desk.broken ≡ true
  pub lives : desk.lives ≡ []
  pub list : desk.list ≡ []
  pub failed : desk.failed ≡ []

-- Some history is durable in its journal, which a desk with its limit takes, and its items are those that it leaves.
pub record IsHere {D O : Type 0} (tells : Type 0) (clock : D → Clock) (desk : View D O) : Type 0 where
  pub found : History
  pub entries : AllEntries found
  pub taken : IsTaken desk.limits.items found
  pub list : IsOf found desk.items
  pub gate_is : desk.gate ≡ length (front (bodies_of found))
  pub rest : tells → AtRest (now (clock desk.disk)) desk.gate (bodies_of found)

-- the entry was recorded, or failed, or was never tried
abbrev pub RecordedOr : {D O : Type 0} → View D O → View D O → Entry → Result (Unit {0}) Hindered → Type 0
RecordedOr old new entry (Ok done) = new ≡ record old { disk = new.disk; items = applied entry old.items; gate = old.gate + (5 + length (spelling_of entry)); list = old.list ++ entry ∷ [] }
RecordedOr old new entry (Err (hindrances.Disk kind)) = new ≡ record old { disk = new.disk; failed = entry ∷ [] }
RecordedOr old new entry (Err hindrances.NoMemory) = new ≡ old

-- what holds where it was recorded
abbrev pub WhereOk : {A : Type 0} → Result A Hindered → Type 0 → Type 0
WhereOk (Ok done) P = P
WhereOk (Err fault) P = Unit {0}

-- From each history that rests in the journal: a crash at each moment leaves it with the entry behind it or without, and with the entry it rests once that was recorded.
abbrev pub ReopenGoes : {D O : Type 0} → Type 0 → (D → Clock) → (O → Says) → View D O → View D O → Entry → Result (Unit {0}) Hindered → Type 0
ReopenGoes tells clock says old new entry result =
    tells → (good : Bool) (found : History) → IsOf found old.items → Rests good (says old.origin) found old.gate no_covers (now (clock old.disk))
    → Throughout (clock old.disk) (clock new.disk) (Kept good (says old.origin) (Through found (entry ∷ []))) × WhereOk result (Rests good (says old.origin) (found ++ entry ∷ []) new.gate no_covers (now (clock new.disk)))

-- A list that was begun, or where it was hindered a broken one: the entry was recorded or not, and nothing else changed.
pub record ListBegins {D O : Type 0} (old new : View D O) (entry : Entry) (broken : Bool) : Type 0 where
  pub items_are : new.items ≡ run_of new.list old.items
  pub gate_is : new.gate ≡ old.gate + spelled new.list
  pub lives : new.lives ≡ []
  pub broken_is : new.broken ≡ broken
  pub origin : new.origin ≡ old.origin
  pub limits : new.limits ≡ old.limits
  pub tried : (new.list ++ new.failed ≡ entry ∷ []) ⊎ (new.list ++ new.failed ≡ [])

abbrev pub BeginMakes : {D O : Type 0} → View D O → View D O → Entry → Result (Unit {0}) Hindered → Type 0
BeginMakes old new entry (Ok done) = ListBegins old new entry false × (new.list ≡ entry ∷ []) × (new.failed ≡ [])
BeginMakes old new entry (Err (hindrances.Disk kind)) = ListBegins old new entry true
BeginMakes old new entry (Err hindrances.NoMemory) = ListBegins old new entry true × (new.failed ≡ [])

-- From each history that rests in the journal: a crash at each moment leaves it with the entry behind it or without, and then the desk holds it with what was recorded.
abbrev pub BeginGoes : {D O : Type 0} → Type 0 → (D → Clock) → (O → Says) → View D O → View D O → Entry → Type 0
BeginGoes tells clock says old new entry =
    tells → (good : Bool) (found : History) → IsOf found old.items → Rests good (says old.origin) found old.gate no_covers (now (clock old.disk))
    → Throughout (clock old.disk) (clock new.disk) (Kept good (says old.origin) (Through found (entry ∷ []))) × HoldsOf good (says old.origin) clock new (found ++ new.list)
