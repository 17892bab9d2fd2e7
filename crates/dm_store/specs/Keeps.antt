-- What every desk keeps, and the one clause of all its calls.
use Rattle.std.specs.Prelude.{◌≡◌, ◌+◌, ◌^◌, ◌≤◌, ℕ, Bool, true, false, [], ◌++◌, length, drop}
use Rattle.dm_types.specs.Limits.{IsLimits}
use Rattle.dm_types.specs.declared.entry.Entry.{Entry}
use Rattle.dm_disk_model.specs.Disk.{DiskState, History as Clock, now}
use Rattle.dm_disk_model.specs.Moments.{Throughout}
use Rattle.dm_item.specs.Lawful.{History, IsOf}
use Rattle.dm_item.specs.Listing.{applied}
use Rattle.dm_kept.specs.Files.{Covers, EndsLive, Facts, IfGood, PartsStand, Says, says_all}
use Rattle.dm_kept.specs.Kept.{Kept, LeavesJust, Sits}
use Rattle.dm_kept.specs.Recovery.{Through}
use Rattle.dm_kept.specs.Spelled.{AllEntries}
use Rattle.dm_store.specs.Lives.{AreBounded, AreLives, covers_of, lives_after}
use Rattle.dm_store.specs.View.{View, spelled}

-- the history sits in the journal; of a broken desk each crash leaves it with the failed entry or without
abbrev pub RestsBy : Bool → Bool → Says → History → History → ℕ → Covers → DiskState → Type 0
RestsBy false good says history failed gate covers disk = Sits good says history gate covers disk
RestsBy true good says history failed gate covers disk = Kept good says (Through history failed) disk

-- The desk holds this history: its items are those that it leaves, and its disk has it. Where the disk was good at the opening, it keeps
-- the files of the items too.
pub record HoldsOf {D O : Type 0} (good : Bool) (says : Says) (clock : D → Clock) (desk : View D O) (history : History) : Type 0 where
  pub items : IsOf history desk.items
  pub rests : RestsBy desk.broken good says history desk.failed desk.gate (covers_of desk.lives) (now (clock desk.disk))

-- Some history came before the list. On a disk that tells what it holds the desk holds both.
pub record Founded {D O : Type 0} (tells : Type 0) (clock : D → Clock) (desk : View D O) : Type 0 where
  pub before : History
  pub entries : AllEntries (before ++ desk.list)
  pub items : IsOf (before ++ desk.list) desk.items
  pub holds : tells → HoldsOf false says_all clock desk (before ++ desk.list)

-- what every desk keeps
pub record IsDesk {D O : Type 0} (tells : Type 0) (clock : D → Clock) (desk : View D O) : Type 0 where
  pub limits_are : IsLimits desk.limits
  pub limit : desk.items.limit ≡ desk.limits.items
  pub founded : Founded tells clock desk
  pub failed : desk.broken ≡ false → desk.failed ≡ []
  pub lives : desk.broken ≡ false → AreLives desk.items.items desk.lives
  -- so many bytes at most that were landed are lost by a crash
  pub bounded : AreBounded (desk.limits.checkpoint + desk.limits.piece) desk.lives

-- the entries that a call recorded
abbrev pub added : {D O : Type 0} → View D O → View D O → History
added old new = drop (length old.list) new.list

-- Of a broken desk some crash leaves just this history: what failed isn't in it.
abbrev pub LosesFailed : {D O : Type 0} → (D → Clock) → View D O → History → Type 0
LosesFailed clock desk history = desk.broken ≡ true → LeavesJust history (now (clock desk.disk))

-- From this history on these entries were recorded. A crash at each moment leaves it with some of them behind it, or with the failed one
-- too, and then the desk holds it with all of them. Where the desk broke, some crash leaves it with just these.
pub record Goes {D O : Type 0} (good : Bool) (says : Says) (clock : D → Clock) (old new : View D O) (before recorded : History) : Type 0 where
  pub longer : new.list ≡ old.list ++ recorded
  pub moments : Throughout (clock old.disk) (clock new.disk) (Kept good says (Through before (recorded ++ new.failed)))
  pub holds : HoldsOf good says clock new (before ++ recorded)
  pub loses : LosesFailed clock old before → LosesFailed clock new (before ++ recorded)

-- The clause of every call on a desk: so from each history that it holds.
abbrev pub Keeps : {D O : Type 0} → Type 0 → (D → Clock) → (O → Says) → View D O → View D O → Type 0
Keeps tells clock says old new =
    tells → (good : Bool) (before : History) → HoldsOf good (says old.origin) clock old before → Goes good (says old.origin) clock old new before (added old new)

-- What an entry owes of the files of a good disk, as they are: what is kept behind it.
pub record Allows {D O : Type 0} (good : Bool) (says : Says) (clock : D → Clock) (desk : View D O) (entry : Entry) : Type 0 where
  pub facts : IfGood good (Facts says (covers_of (lives_after entry (applied entry desk.items) desk.lives)) (applied entry desk.items).items (now (clock desk.disk)).files)
  pub ends : IfGood good (EndsLive (covers_of (lives_after entry (applied entry desk.items) desk.lives)) (applied entry desk.items).items (now (clock desk.disk)).files)

-- the part of each item that brings content behind the entry stands
abbrev pub StandBehind : {D O : Type 0} → (D → Clock) → View D O → Entry → Type 0
StandBehind clock desk entry = PartsStand (applied entry desk.items).items (now (clock desk.disk)).files

-- the clause of recording one entry
abbrev pub RecordGoes : {D O : Type 0} → Type 0 → (D → Clock) → (O → Says) → View D O → View D O → Entry → Type 0
RecordGoes tells clock says old new entry =
    tells → (good : Bool) (before : History) → HoldsOf good (says old.origin) clock old before → Allows good (says old.origin) clock old entry
    → Goes good (says old.origin) clock old new before (added old new)

-- The count of far writes stays, where the journal doesn't end above 2^62 with what was tried.
abbrev pub StaysNear : {D O : Type 0} → ℕ → ℕ → View D O → View D O → Type 0
StaysNear far far' old new = old.gate + (spelled (added old new ++ new.failed) + 1) ≤ 2 ^ 62 → far' ≡ far

-- So far in a loop: all is kept since its start, and no entry failed.
pub record SoFar {D O : Type 0} (tells : Type 0) (clock : D → Clock) (says : O → Says) (start present : View D O) : Type 0 where
  pub keeps : Keeps tells clock says start present
  pub origin : present.origin ≡ start.origin
  pub failed : present.failed ≡ []
