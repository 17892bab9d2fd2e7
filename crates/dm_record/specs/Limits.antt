-- What an entry keeps, and the three ways in which bytes may stand to the entries.
use Rattle.std.specs.Prelude.{◌≡◌, ◌<◌, ◌≤◌, ◌+◌, ◌^◌, ℕ, List, ◌∷◌, ◌++◌, length, take, Option, Some, IfSome, Result, Ok, Err}
use Rattle.std.specs.List.{AllByRecursion}
use Rattle.dm_types.specs.declared.entry.Entry.{Entry}
use Rattle.dm_types.specs.declared.entry.Entry.TheVariants.{Added, Began, Described, Progress, Broke, Paused, Cancelled, Restarted, Finishing, Done, Removed, Archived, Reopened, Restored, Asked}
use Rattle.dm_types.specs.declared.item.Item.{Item}
use Rattle.dm_types.specs.declared.item.Key.{Key}
use Rattle.dm_types.specs.declared.item.Key.TheVariants.{Strong, Once}
use Rattle.dm_types.specs.declared.item.Phase.{Phase}
use Rattle.dm_types.specs.declared.item.Phase.TheVariants as phases
use Rattle.dm_types.specs.declared.reason.Reason.{Reason}
use Rattle.dm_types.specs.declared.slices.Slice.{Slice}
use Rattle.dm_record.specs.declared.fault.RecordFault.{RecordFault}
use Rattle.dm_record.specs.declared.fault.RecordFault.TheVariants as faults
use Rattle.dm_record.specs.Spelling.{spelling_of}

-- ---- the limits of the format

-- an address, a name, a tag and the like have at most so many bytes
abbrev pub AtMost : ℕ → List ℕ → Type 0
AtMost limit bytes = length bytes ≤ limit

abbrev pub IsTag : Key → Type 0
IsTag (Strong tag) = AtMost 1024 tag
IsTag (Once id attempt) = Unit {0}

-- at least one slice, and at most 64
abbrev pub IsCount : List Slice → Type 0
IsCount slices = (1 ≤ length slices) × (length slices ≤ 64)

-- an interrupted item has its reason in its field too
abbrev pub HasReason : Phase → Option Reason → Type 0
HasReason phases.Waiting field = Unit {0}
HasReason phases.Running field = Unit {0}
HasReason phases.Paused field = Unit {0}
HasReason phases.Finishing field = Unit {0}
HasReason phases.Complete field = Unit {0}
HasReason phases.Cancelled field = Unit {0}
HasReason (phases.Interrupted reason) field = field ≡ Some reason

pub record IsSpellableItem (i : Item) : Type 0 where
  pub word : AtMost 64 i.word
  pub first_address : AtMost 4096 i.first_address
  pub wish : AtMost 255 i.wish
  pub reason : HasReason i.phase i.reason
  pub key : IfSome i.key IsTag
  pub last_address : IfSome i.last_address (AtMost 4096)
  pub name : IfSome i.name (AtMost 255)
  pub modified : IfSome i.modified (AtMost 128)
  pub slices : IsCount i.slices

-- the entry keeps the lengths, counts and values that the format has room for
abbrev pub IsSpellable : Entry → Type 0
IsSpellable (Added id word address wish stated at) = AtMost 64 word × AtMost 4096 address × AtMost 255 wish
IsSpellable (Began id attempt by at) = Unit {0}
IsSpellable (Described id key last_address total name modified) = IsTag key × AtMost 4096 last_address × AtMost 255 name × AtMost 128 modified
IsSpellable (Progress id slices) = IsCount slices
IsSpellable (Broke id reason) = Unit {0}
IsSpellable (Paused id) = Unit {0}
IsSpellable (Cancelled id) = Unit {0}
IsSpellable (Restarted id epoch because) = (1 ≤ because) × (because ≤ 4)
IsSpellable (Finishing id total) = Unit {0}
IsSpellable (Done id have at) = Unit {0}
IsSpellable (Removed id) = Unit {0}
IsSpellable (Archived id) = Unit {0}
IsSpellable (Reopened next at) = Unit {0}
IsSpellable (Restored item) = IsSpellableItem item
IsSpellable (Asked id) = Unit {0}

-- ---- the ranges of the types: what every entry of a program keeps by itself

abbrev pub IsBytes : List ℕ → Type 0
IsBytes bytes = AllByRecursion (λ byte. byte < 256) bytes

abbrev pub IsDigest : List ℕ → Type 0
IsDigest bytes = (length bytes ≡ 32) × IsBytes bytes

abbrev pub IsKey : Key → Type 0
IsKey (Strong tag) = IsBytes tag
IsKey (Once id attempt) = (id.0 < 2 ^ 32) × (attempt.0 < 2 ^ 32)

abbrev pub IsSlice : Slice → Type 0
IsSlice s = (s.first < 2 ^ 64) × (s.got < 2 ^ 64)

pub record IsItem (i : Item) : Type 0 where
  pub id : i.id.0 < 2 ^ 32
  pub word : IsBytes i.word
  pub first_address : IsBytes i.first_address
  pub wish : IsBytes i.wish
  pub digest : IfSome i.digest IsDigest
  pub epoch : i.epoch.0 < 2 ^ 32
  pub attempt : i.attempt.0 < 2 ^ 32
  pub autos : i.autos < 2 ^ 32
  pub key : IfSome i.key IsKey
  pub last_address : IfSome i.last_address IsBytes
  pub total : IfSome i.total (λ total. total < 2 ^ 64)
  pub name : IfSome i.name IsBytes
  pub modified : IfSome i.modified IsBytes
  pub slices : AllByRecursion IsSlice i.slices
  pub have : IfSome i.have IsDigest
  pub at_ms : i.at_ms < 2 ^ 64

-- numbers are below the limits of their types, texts hold bytes, and a digest has 32
abbrev pub IsInRange : Entry → Type 0
IsInRange (Added id word address wish stated at) = (id.0 < 2 ^ 32) × IsBytes word × IsBytes address × IsBytes wish × IfSome stated IsDigest × (at < 2 ^ 64)
IsInRange (Began id attempt by at) = (id.0 < 2 ^ 32) × (attempt.0 < 2 ^ 32) × (at < 2 ^ 64)
IsInRange (Described id key last_address total name modified) = (id.0 < 2 ^ 32) × IsKey key × IsBytes last_address × IfSome total (λ n. n < 2 ^ 64) × IsBytes name × IsBytes modified
IsInRange (Progress id slices) = (id.0 < 2 ^ 32) × AllByRecursion IsSlice slices
IsInRange (Broke id reason) = id.0 < 2 ^ 32
IsInRange (Paused id) = id.0 < 2 ^ 32
IsInRange (Cancelled id) = id.0 < 2 ^ 32
IsInRange (Restarted id epoch because) = (id.0 < 2 ^ 32) × (epoch.0 < 2 ^ 32)
IsInRange (Finishing id total) = (id.0 < 2 ^ 32) × (total < 2 ^ 64)
IsInRange (Done id have at) = (id.0 < 2 ^ 32) × IsDigest have × (at < 2 ^ 64)
IsInRange (Removed id) = id.0 < 2 ^ 32
IsInRange (Archived id) = id.0 < 2 ^ 32
IsInRange (Reopened next at) = (next < 2 ^ 32) × (at < 2 ^ 64)
IsInRange (Restored item) = IsItem item
IsInRange (Asked id) = id.0 < 2 ^ 32

-- ---- bytes and entries

-- an entry of a program that has a spelling
abbrev pub IsEntry : Entry → Type 0
IsEntry entry = IsSpellable entry × IsInRange entry

-- the bytes begin with an entry
abbrev pub BeginsWithEntry : List ℕ → Type 0
BeginsWithEntry bytes = (entry : Entry) × (rest : List ℕ) × IsEntry entry × (bytes ≡ spelling_of entry ++ rest)

-- some entry begins with the bytes
abbrev pub BeginsEntry : List ℕ → Type 0
BeginsEntry bytes = (entry : Entry) × (more : List ℕ) × IsEntry entry × (spelling_of entry ≡ bytes ++ more)

-- the bytes are cut off: some entry begins with them, and has more
abbrev pub IsCut : List ℕ → Type 0
IsCut bytes = (entry : Entry) × (byte : ℕ) × (more : List ℕ) × IsEntry entry × (spelling_of entry ≡ bytes ++ byte ∷ more)

-- The bytes neither begin with an entry nor begin one, and this is the place of the first byte at which no entry goes on.
pub record IsBadAt (bytes : List ℕ) (place : ℕ) : Type 0 where
  pub within : place < length bytes
  pub no_entry : BeginsWithEntry bytes → ⊥
  pub goes_on : BeginsEntry (take place bytes)
  pub stops : BeginsEntry (take (place + 1) bytes) → ⊥

-- ---- what reading answers

-- an answer, and what it says of the bytes
abbrev pub Answers : List ℕ → Result (Entry × ℕ) RecordFault → Type 0
Answers bytes (Ok found) = IsEntry found.0 × (found.1 ≡ length (spelling_of found.0)) × (take found.1 bytes ≡ spelling_of found.0)
Answers bytes (Err faults.Short) = IsCut bytes
Answers bytes (Err (faults.Bad place)) = IsBadAt bytes place
Answers bytes (Err faults.NoMemory) = Unit {0}

-- the answer is this one, unless memory ran out
abbrev pub UnlessMemory : Result (Entry × ℕ) RecordFault → Result (Entry × ℕ) RecordFault → Type 0
UnlessMemory (Ok found) expected = Ok found ≡ expected
UnlessMemory (Err faults.Short) expected = Err faults.Short ≡ expected
UnlessMemory (Err (faults.Bad place)) expected = Err (faults.Bad place) ≡ expected
UnlessMemory (Err faults.NoMemory) expected = Unit {0}
