-- The promise over any list of runs, crashes and kills: what was acknowledged is never lost, and under a finished item's name stands the whole content.
use Rattle.std.specs.Prelude.{◌≡◌, ◌≢◌, ◌⊎◌, ◌≤◌, ℕ, false, true, List, [], ◌∷◌, ◌++◌, length, slice_get, Some, None, IfSome, IsTrue}
use Rattle.sha2.specs.Sha256.{sha256}
use Rattle.dm_types.specs.Name.{IsPart}
use Rattle.dm_types.specs.declared.item.Item.{Item}
use Rattle.dm_types.specs.declared.item.Key.{Key}
use Rattle.dm_disk_model.specs.Disk.{DiskState, Image, History as Clock, IsSoundDisk, MayLeave, bytes_at, now}
use Rattle.dm_disk_model.specs.Firm.{IsAbsent}
use Rattle.dm_disk_model.specs.Folder.{Changes, Created, EachPrefix, Folder, IsSoundFolder, Removed}
use Rattle.dm_item.specs.Lawful.{DoneOnce, History, IsLawful, items_of, next_id_of}
use Rattle.dm_item.specs.Row.{is_cancelled, is_complete}
use Rattle.dm_journal.specs.AtRest.{journal_name, journal_place}
use Rattle.dm_kept.specs.Files.{EachItem, Says}
use Rattle.dm_kept.specs.Kept.{Kept}
use Rattle.dm_kept.specs.Recovery.{Through}
use Rattle.dm_kept.specs.Spelled.{Records}
use Rattle.dm_part.specs.Keeping.{Begins}
use Rattle.dm_answers.specs.Opening.{reopening}
use Rattle.dm_does.specs.Leaving.{KeepsAll}
use Rattle.dm_does.specs.Log.{ArePlain, Run, Untouched, Unread, Unopened, Opened, failed_in, recorded_in, tried_in}

-- What the runs did to the list.

-- what one run added to it
pub data Piece : Type 0 where
  -- The run ended: these entries were recorded, and are acknowledged. Of those which failed, one at most, some may stand nevertheless.
  Ended : (recorded failed : History) → Piece
  -- The run was cut by a crash or a kill: of the entries that it tried to record, those up to some place stand.
  Cut : (tried : History) → Piece

-- the first of the entries, up to some place
pub record IsFrontOf (tried front : History) : Type 0 where
  pub rest : History
  pub is : tried ≡ front ++ rest

-- all that was recorded, and perhaps the entry that failed
pub record AddsEnded (recorded failed more : History) : Type 0 where
  pub late : History
  pub front : IsFrontOf failed late
  pub is : more ≡ recorded ++ late

abbrev pub Adds : Piece → History → Type 0
Adds (Ended recorded failed) more = AddsEnded recorded failed more
Adds (Cut tried) more = IsFrontOf tried more

-- the list is what the runs added, one behind another; the latest comes first in the list of pieces
pub data IsListOf : List Piece → History → Type 0 where
  none : IsListOf [] []
  next : (older : List Piece) (list : History) (piece : Piece) (more : History) → IsListOf older list → Adds piece more → IsListOf (piece ∷ older) (list ++ more)

-- What stands under the names of the items.

-- Under the item's name stands its whole content: so many bytes as the item's total says, each of which the origin says for the item's address under the one validator that the item has
-- (its strong tag, or its one attempt where it had none); and their SHA-256 is the item's, and the one that was stated, where one was.
pub record HoldsWhole (says : Says) (image : Image) (item : Item) (name : List ℕ) : Type 0 where
  pub bytes : List ℕ
  pub stands : image.files name ≡ Some bytes
  pub whole : item.total ≡ Some (length bytes)
  pub validator : Key
  pub validator_is : item.key ≡ Some validator
  pub address : List ℕ
  pub address_is : item.last_address ≡ Some address
  pub said : (place byte : ℕ) → slice_get bytes place ≡ Some byte → says address validator place byte
  pub sum : IfSome item.have (λ digest. digest ≡ sha256 bytes)
  pub stated : IfSome item.digest (λ digest. digest ≡ sha256 bytes)

-- a complete item has a name, and the whole content under it
pub record IsThere (says : Says) (image : Image) (item : Item) : Type 0 where
  pub name : List ℕ
  pub named : item.name ≡ Some name
  pub holds : HoldsWhole says image item name

-- under the item's name stands nothing, or its whole content
abbrev pub NothingOrWhole : Says → Image → Item → Type 0
NothingOrWhole says image item = (name : List ℕ) → item.name ≡ Some name → (image.files name ≡ None) ⊎ HoldsWhole says image item name

-- What a crash leaves is safe: the journal recovers to what a list of these runs leaves, which is lawful and in which each item is done once at most; each complete item is there; and
-- of no item but a cancelled one stands less than the whole under its name.
pub record IsSafeImage (says : Says) (pieces : List Piece) (image : Image) : Type 0 where
  pub recorded : History
  pub reads : Records (image.state journal_name) recorded
  pub list : History
  pub of_runs : IsListOf pieces list
  pub lawful : IsLawful list
  pub once : DoneOnce list
  pub items : items_of recorded ≡ items_of list
  pub next_id : next_id_of recorded ≡ next_id_of list
  pub there : EachItem (λ item. IsTrue (is_complete item.phase) → IsThere says image item) (items_of list)
  pub never_less : EachItem (λ item. is_cancelled item.phase ≡ false → NothingOrWhole says image item) (items_of list)

-- Runs.

-- What was found is what read as the journal at the start. Behind it one Reopened was tried, and then no other; each entry met its row.
pub record IsBehind (start : DiskState) (found tried : History) : Type 0 where
  pub reads : Records (bytes_at start journal_place) found
  pub lawful : IsLawful (found ++ tried)
  pub at : ℕ
  pub rest : History
  pub tried_is : tried ≡ reopening found at ++ rest
  pub plain : ArePlain rest

-- so of a run that found a journal
abbrev pub OpensOnce : DiskState → Run → Type 0
OpensOnce start Untouched = Unit {0}
OpensOnce start Unread = Unit {0}
OpensOnce start (Unopened found recorded failed rest) = IsBehind start found (recorded ++ (failed ++ rest))
OpensOnce start (Opened log) = IsBehind start log.found (tried_in (Opened log))

-- a run of the program over a disk of the model
pub record IsRun (says : Says) (start end : Clock) (run : Run) : Type 0 where
  pub sound : IsSoundDisk (now start)
  pub opens : OpensOnce (now start) run
  pub keeps : (kept rest : History) → Kept true says (Through kept rest) (now start) → KeepsAll says start end kept rest run

-- the disk begins with what a crash left
pub record BeginsWith (disk : DiskState) (image : Image) : Type 0 where
  pub state : Begins disk.state image.state
  pub files : Begins disk.files image.files

-- A new file stands under this name among the user's files. Its bytes are any, durable or not.
pub record IsAddedTo (name : List ℕ) (old new : Folder) : Type 0 where
  pub number : ℕ
  pub unused : EachPrefix old (λ names. (other : List ℕ) → names other ≢ Some number)
  pub others : (other : ℕ) → other ≢ number → new.file other ≡ old.file other
  pub synced : new.synced ≡ old.synced
  pub changes : new.changes ≡ old.changes ++ Created name number ∷ []

-- whatever a crash leaves, no item has the name
abbrev pub IsNoItems : List ℕ → DiskState → Type 0
IsNoItems name disk = (image : Image) → MayLeave disk image → (recorded : History) → Records (image.state journal_name) recorded → EachItem (λ item. item.name ≢ Some name) (items_of recorded)

-- somebody added a file to the user's files, under a name that is no part's and no item's
pub record IsAdded (name : List ℕ) (before after : DiskState) : Type 0 where
  pub sound : IsSoundFolder before.files
  pub state : after.state ≡ before.state
  pub files : IsAddedTo name before.files after.files
  pub no_part : IsPart name → ⊥
  pub no_item : IsNoItems name before

-- Somebody took away what stood among the user's files under a name that is no part's and no item's. A crash may bring it back.
pub record IsTakenAway (name : List ℕ) (before after : DiskState) : Type 0 where
  pub sound : IsSoundFolder before.files
  pub state : after.state ≡ before.state
  pub files : Changes (Removed name) before.files after.files
  pub no_part : IsPart name → ⊥
  pub no_item : IsNoItems name before

-- what a run did that ended, and one that was cut
abbrev pub ended : Run → Piece
ended run = Ended (recorded_in run) (failed_in run)

abbrev pub cut : Run → Piece
cut run = Cut (tried_in run)

-- A disk to which runs, crashes and kills led, and what each run did: nothing more is known of the words, of the servers or of what failed.
pub data Lives (says : Says) : DiskState → List Piece → Type 0 where
  -- no journal ever stood
  fresh : (disk : DiskState) → IsAbsent journal_name disk.state → Lives says disk []
  -- a run ended
  ran : (start end : Clock) (pieces : List Piece) (run : Run) → Lives says (now start) pieces → IsRun says start end run → Lives says (now end) (ended run ∷ pieces)
  -- the power went at a moment of a run, and the next run begins with what that left
  crashed : (start end : Clock) (pieces : List Piece) (run : Run) (t : ℕ) (image : Image) (disk : DiskState) → Lives says (now start) pieces → IsRun says start end run
      → start.moment ≤ t → t ≤ end.moment → MayLeave (end.at t) image → BeginsWith disk image → Lives says disk (cut run ∷ pieces)
  -- The program was killed at a moment of a run, with no loss of power: the next run begins with the disk as it was then, and what wasn't durable still isn't.
  killed : (start end : Clock) (pieces : List Piece) (run : Run) (t : ℕ) → Lives says (now start) pieces → IsRun says start end run → start.moment ≤ t → t ≤ end.moment → Lives says (end.at t) (cut run ∷ pieces)
  -- between two runs somebody else added a file
  beside : (before after : DiskState) (pieces : List Piece) (name : List ℕ) → Lives says before pieces → IsAdded name before after → Lives says after pieces
  -- or took one away
  away : (before after : DiskState) (pieces : List Piece) (name : List ℕ) → Lives says before pieces → IsTakenAway name before after → Lives says after pieces
  -- the power went between two runs
  lost : (before : DiskState) (pieces : List Piece) (image : Image) (disk : DiskState) → Lives says before pieces → MayLeave before image → BeginsWith disk image → Lives says disk pieces

-- whatever a crash now leaves is safe
abbrev pub AnyRuns : Says → Type 0
AnyRuns says = (disk : DiskState) (pieces : List Piece) → Lives says disk pieces → (image : Image) → MayLeave disk image → IsSafeImage says pieces image
