-- What taking the bodies of a journal into a list did.
use Rattle.std.specs.Prelude.{◌≡◌, ℕ, List, ◌∷◌, ◌++◌, length, Result, Ok, Err}
use Rattle.dm_types.specs.declared.entry.Entry.{Entry}
use Rattle.dm_record.specs.Spelling.{spelling_of}
use Rattle.dm_record.specs.Limits.{IsEntry}
use Rattle.dm_item.specs.Lawful.{History, IsOf}
use Rattle.dm_item.specs.Listing.{Listing, Takes}
use Rattle.dm_journal.specs.Text.{front}
use Rattle.dm_journal.specs.declared.fault.TextFault.{TextFault}
use Rattle.dm_journal.specs.declared.fault.TextFault.TheVariants as texts
use Rattle.dm_journal.specs.declared.fault.JournalFault.{JournalFault}
use Rattle.dm_journal.specs.declared.fault.JournalFault.TheVariants as journals
use Rattle.dm_kept.specs.Damage.{IsRefused}
use Rattle.dm_item.specs.declared.fault.ApplyFault.{ApplyFault}
use Rattle.dm_item.specs.declared.fault.ApplyFault.TheVariants as applies
use Rattle.dm_record.specs.declared.fault.RecordFault.{RecordFault}
use Rattle.dm_record.specs.declared.fault.RecordFault.TheVariants as records
use Rattle.dm_kept.specs.Room.{IsTaken, MayFollow}
use Rattle.dm_kept.specs.Spelled.{AllEntries, bodies_of}
use Rattle.dm_find.specs.declared.bodies.BodyFault.{BodyFault}
use Rattle.dm_find.specs.declared.bodies.BodyFault.TheVariants as faults

-- the body is exactly one entry, and the list took it
pub record IsEntryTaken (body : List ℕ) (old new : Listing) : Type 0 where
  pub entry : Entry
  pub entry_is : IsEntry entry
  pub spelled : body ≡ spelling_of entry
  pub takes : Takes entry old new

-- no entry has exactly this spelling
abbrev pub IsNoEntry : List ℕ → Type 0
IsNoEntry body = (entry : Entry) → IsEntry entry → body ≡ spelling_of entry → ⊥

abbrev pub ReadsBody : List ℕ → Result Entry BodyFault → Type 0
ReadsBody body (Ok entry) = IsEntry entry × (body ≡ spelling_of entry)
ReadsBody body (Err faults.Refused) = IsNoEntry body
ReadsBody body (Err faults.NoMemory) = Unit {0}

abbrev pub TakesEntry : Entry → Listing → Listing → Result (Unit {0}) BodyFault → Type 0
TakesEntry entry old new (Ok done) = Takes entry old new
TakesEntry entry old new (Err faults.Refused) = (history : History) → IsOf history old → MayFollow old.limit history entry → ⊥
TakesEntry entry old new (Err faults.NoMemory) = Unit {0}

-- what a fault says of a body
abbrev pub read_fault : RecordFault → BodyFault
read_fault records.Short = faults.Refused
read_fault (records.Bad place) = faults.Refused
read_fault records.NoMemory = faults.NoMemory

abbrev pub apply_fault : ApplyFault → BodyFault
apply_fault (applies.NoItem id) = faults.Refused
apply_fault (applies.WrongPhase phase) = faults.Refused
apply_fault (applies.Full count) = faults.Refused
apply_fault (applies.Unlawful kind) = faults.Refused
apply_fault applies.NoMemory = faults.NoMemory

abbrev pub TakesBody : List ℕ → Listing → Listing → Result (Unit {0}) BodyFault → Type 0
TakesBody body old new (Ok done) = IsEntryTaken body old new
TakesBody body old new (Err faults.Refused) = (history : History) → IsOf history old → IsRefused old.limit history body
TakesBody body old new (Err faults.NoMemory) = Unit {0}

-- the bodies are this list's history
pub record IsListOf (limit : ℕ) (bodies : List (List ℕ)) (items : Listing) : Type 0 where
  pub history : History
  pub entries : AllEntries history
  pub is : bodies_of history ≡ bodies
  pub list : IsOf history items
  pub taken : IsTaken limit history

-- the first body that isn't taken has its gate at this place
pub record IsRefusedAt (limit : ℕ) (bodies : List (List ℕ)) (place : ℕ) : Type 0 where
  pub history : History
  pub entries : AllEntries history
  pub taken : IsTaken limit history
  pub body : List ℕ
  pub later : List (List ℕ)
  pub is : bodies ≡ bodies_of history ++ body ∷ later
  pub refused : IsRefused limit history body
  pub at : place ≡ length (front (bodies_of history))

abbrev pub TakesBodies : ℕ → List (List ℕ) → Listing → Result (Unit {0}) TextFault → Type 0
TakesBodies limit bodies items (Ok done) = IsListOf limit bodies items
TakesBodies limit bodies items (Err (texts.Damaged place)) = IsRefusedAt limit bodies place
TakesBodies limit bodies items (Err texts.NoMemory) = Unit {0}

abbrev pub text_fault : TextFault → JournalFault
text_fault (texts.Damaged place) = journals.Damaged place
text_fault texts.NoMemory = journals.NoMemory

-- why the bodies are no list
abbrev pub ListFails : ℕ → List (List ℕ) → JournalFault → Type 0
ListFails limit bodies (journals.Damaged place) = IsRefusedAt limit bodies place
ListFails limit bodies journals.NoMemory = Unit {0}
ListFails limit bodies (journals.Disk kind) = ⊥

-- the entry where its spelling is the whole body
abbrev pub WholeEntry : Entry → ℕ → ℕ → Result Entry BodyFault → Type 0
WholeEntry entry count size (Ok found) = (found ≡ entry) × (count ≡ size)
WholeEntry entry count size (Err faults.Refused) = count ≡ size → ⊥
WholeEntry entry count size (Err faults.NoMemory) = ⊥
