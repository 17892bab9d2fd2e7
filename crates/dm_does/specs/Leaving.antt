-- What a run leaves on a disk that tells what it holds: what a crash at any moment leaves, the user's files, and what the next run begins with.
use Rattle.std.specs.Prelude.{◌≡◌, ◌⊎◌, ℕ, Bool, true, false, List, [], ◌∷◌, ◌++◌, Contains, Option, Some, None}
use Rattle.dm_types.specs.Limits.{most_items}
use Rattle.dm_types.specs.Name.{IsPart}
use Rattle.dm_types.specs.declared.entry.Entry.TheVariants as entries
use Rattle.dm_types.specs.declared.item.Item.{Item}
use Rattle.dm_types.specs.declared.item.ItemId.{ItemId}
use Rattle.dm_types.specs.declared.item.Key.{Key}
use Rattle.dm_disk_model.specs.Beside.{Besides, WasUnder}
use Rattle.dm_disk_model.specs.Disk.{DiskState, Image, History as Clock, StandsNot, bytes_at, now}
use Rattle.dm_disk_model.specs.Moments.{LeavesOnly, Throughout}
use Rattle.dm_item.specs.Lawful.{History, items_of}
use Rattle.dm_item.specs.Listing.{item_in}
use Rattle.dm_journal.specs.AtRest.{journal_place}
use Rattle.dm_journal.specs.Starting.{NoneOrBlank, WasLeft}
use Rattle.dm_kept.specs.Files.{Says, says_all}
use Rattle.dm_kept.specs.Kept.{Kept, LeavesJust}
use Rattle.dm_kept.specs.Recovery.{Found, Through}
use Rattle.dm_kept.specs.Spelled.{Records}
use Rattle.dm_report.specs.declared.verdict.Verdict.{Verdict}
use Rattle.dm_report.specs.declared.verdict.Verdict.TheVariants.{Damaged}
use Rattle.dm_answers.specs.Reads.{IsGivenName, IsSettledName}
use Rattle.dm_answers.specs.Opening.{IsNear, IsUnchanged, LeavesSome, ReadsDamage}
use Rattle.dm_does.specs.Log.{Run, Untouched, Unread, Unopened, Opened, broken_in, found_in, kept_of, tried_in, tried_of}

-- Of each disk, whatever it held.

-- what the start might have left; or, where nothing read as the journal, none or one of no entries
abbrev pub LeavesUnread : DiskState → Image → Type 0
LeavesUnread start image = WasLeft start image ⊎ (StandsNot start journal_place × NoneOrBlank image)

-- what a crash at each moment leaves
abbrev pub RunLeaves : Clock → Clock → Run → Type 0
RunLeaves start end Untouched = end ≡ start
RunLeaves start end Unread = LeavesOnly start end (LeavesUnread (now start))
RunLeaves start end (Unopened found recorded failed rest) = Throughout start end (LeavesSome (now start) found (recorded ++ (failed ++ rest)))
RunLeaves start end (Opened log) = Throughout start end (LeavesSome (now start) log.found (tried_of log))

-- one of these entries gives the item the name
pub record IsNamedBy (tried : History) (id : ItemId) (name : List ℕ) : Type 0 where
  pub key : Key
  pub address : List ℕ
  pub total : Option ℕ
  pub modified : List ℕ
  pub is : Contains tried (entries.Described id key address total name modified)

-- a crash at the start might have left nothing under the name
abbrev pub WasFree : Clock → List ℕ → Type 0
WasFree start name = WasUnder (now start).files name None

-- The run tried to record that the item with this name has its whole content: from there on the name may be given to it. Where the run gave the item this name itself, the name was free at the
-- start; but this isn't said of the spared names, nor where a call on the journal or in a publication failed.
pub record IsFinished (spared : List ℕ → Type 0) (start : Clock) (found tried : History) (broken : Bool) (name : List ℕ) : Type 0 where
  pub front : History
  pub id : ItemId
  pub total : ℕ
  pub back : History
  pub tried_is : tried ≡ front ++ entries.Finishing id total ∷ back
  pub item : Item
  pub there : item_in id.0 (items_of (found ++ front)) ≡ Some item
  pub named : item.name ≡ Some name
  pub free : broken ≡ false → (spared name → ⊥) → IsNamedBy front id name → WasFree start name

-- The name is a part's; or that of an item that an earlier run left there, whose part stands at the start and whose name is free.
abbrev pub IsLeftName : Clock → List ℕ → Type 0
IsLeftName start = IsSettledName (λ (clock : Clock). clock) start

-- So it is, or it is the name of an item that this run finished.
abbrev pub IsTouched : Clock → Run → List ℕ → Type 0
IsTouched start run name = IsPart name ⊎ (IsGivenName (λ (clock : Clock). clock) start name ⊎ IsFinished (IsLeftName start) start (found_in run) (tried_in run) (broken_in run) name)

-- each other name has in each image what an image at the start had there
abbrev pub LeavesFiles : Clock → Clock → Run → Type 0
LeavesFiles start end run = Besides (IsTouched start run) start end

-- what reads as the journal at the end is what was found, and what was recorded behind it
abbrev pub HoldsLog : Clock → Run → Type 0
HoldsLog end (Opened log) = log.broken ≡ false → Records (bytes_at (now end) journal_place) (kept_of log)
HoldsLog end _ = Unit {0}

-- What a crash at the end leaves: all that was recorded, and perhaps the entry that failed. Where none failed it is just that. Of a broken desk some crash leaves just what was recorded.
abbrev pub EndsWith : DiskState → Run → Type 0
EndsWith disk Untouched = Unit {0}
EndsWith disk Unread = Unit {0}
EndsWith disk (Unopened found recorded failed rest) = Kept false says_all (Through (found ++ recorded) failed) disk
EndsWith disk (Opened log) = Kept false says_all (Through (kept_of log) log.failed) disk × (log.broken ≡ true → LeavesJust (kept_of log) disk)

-- a journal that is told as damaged is damaged at that place, and nothing was written
abbrev pub ShowsDamage : Clock → Clock → Verdict → Type 0
ShowsDamage start end (Damaged place) = ReadsDamage (now start) most_items place × IsUnchanged start end
ShowsDamage start end _ = Unit {0}

pub record Leaves (start end : Clock) (far far' : ℕ) (verdict : Verdict) (run : Run) : Type 0 where
  pub moments : RunLeaves start end run
  pub ends : EndsWith (now end) run
  pub files : LeavesFiles start end run
  pub holds : HoldsLog end run
  pub damage : ShowsDamage start end verdict
  pub near : IsNear (found_in run ++ tried_in run) far far'

-- Of a disk that only this program wrote: each crash leaves the items after some list, all of it sound.

-- what a run may leave besides what the start might have left
abbrev pub TriedBy : Run → Found → Type 0
TriedBy Untouched recovered = ⊥
TriedBy Unread recovered = ⊥
TriedBy (Unopened found recorded failed rest) recovered = Through found (recorded ++ (failed ++ rest)) recovered
TriedBy (Opened log) recovered = Through log.found (tried_of log) recovered

-- What is kept at the end: as at the start, where no journal was found; else all that was recorded behind it, and perhaps the entry that failed.
abbrev pub EndsKept : Says → History → History → Run → DiskState → Type 0
EndsKept says kept rest Untouched disk = Kept true says (Through kept rest) disk
EndsKept says kept rest Unread disk = Kept true says (Through kept rest) disk
EndsKept says kept rest (Unopened found recorded failed more) disk = Kept true says (Through (found ++ recorded) failed) disk
EndsKept says kept rest (Opened log) disk = Kept true says (Through (kept_of log) log.failed) disk

-- at this moment each crash leaves what is kept at the start; or each leaves what the run found, with some of what it tried behind it
abbrev pub KeepsOne : Says → History → History → Run → DiskState → Type 0
KeepsOne says kept rest run disk = Kept true says (Through kept rest) disk ⊎ Kept true says (TriedBy run) disk

-- no item is interrupted
abbrev pub NoneBroke : History → Type 0
NoneBroke [] = Unit {0}
NoneBroke (entries.Broke id reason ∷ more) = ⊥
NoneBroke (entry ∷ more) = NoneBroke more

-- an opening completes each item that was being finished
abbrev pub SettlesWell : Run → Type 0
SettlesWell (Opened log) = NoneBroke log.opening
SettlesWell _ = Unit {0}

-- from a disk that keeps these entries, and perhaps some of the rest
pub record KeepsAll (says : Says) (start end : Clock) (kept rest : History) (run : Run) : Type 0 where
  pub moments : Throughout start end (KeepsOne says kept rest run)
  pub after : EndsKept says kept rest run (now end)
  pub settles : SettlesWell run
