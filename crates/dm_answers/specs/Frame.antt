-- What a call leaves of a desk, where it isn't said by the entries alone.
use Rattle.std.specs.Prelude.{◌≡◌, ◌+◌, ℕ, Bool, true, false, List, [], ◌∷◌, ◌++◌}
use Rattle.dm_types.specs.Faults.{Rose}
use Rattle.dm_types.specs.declared.entry.Entry.{Entry}
use Rattle.dm_types.specs.declared.entry.Entry.TheVariants as entries
use Rattle.dm_types.specs.declared.item.ItemId.{ItemId}
use Rattle.dm_types.specs.declared.kinds.DiskKind.{DiskKind}
use Rattle.dm_disk_model.specs.Disk.{History as Clock, bytes_at, now}
use Rattle.dm_policy.specs.Cause.{reason_of_file}
use Rattle.dm_item.specs.Lawful.{History, KeepsHistory}
use Rattle.dm_part.specs.Laws.{files_place}
use Rattle.dm_store.specs.declared.life.Life.{Life}
use Rattle.dm_store.specs.Becomes.{Fell, MayTry, run_of}
use Rattle.dm_store.specs.Lives.{changed_life}
use Rattle.dm_store.specs.View.{View, spelled}

-- the desk is broken, and nothing changed
pub record IsBroken {D O : Type 0} (old new : View D O) : Type 0 where
  pub broken : old.broken ≡ true
  pub same : new ≡ old

-- Refused for this cause on a desk that wasn't broken. Calls that leave the disk as it is were made on it, and nothing else changed.
pub record RefusesStill {D O : Type 0} (clock : D → Clock) (old new : View D O) (why : Type 0) : Type 0 where
  pub whole : old.broken ≡ false
  pub cause : why
  pub same : new ≡ record old { disk = new.disk }
  pub still : clock new.disk ≡ clock old.disk

-- Of a desk that wasn't broken only the life of an id changed, and the disk.
pub record LifeOnly {D O : Type 0} (old new : View D O) (id : ℕ) (change : Life → Life) : Type 0 where
  pub whole : old.broken ≡ false
  pub same : new ≡ record old { disk = new.disk; lives = changed_life id change old.lives }

-- What a call on a desk that wasn't broken made of it, but for the lives: these entries were recorded, and one more perhaps failed.
-- This much composes over all calls.
pub record Went {D O : Type 0} (old new : View D O) (recorded failed : History) (broken : Bool) : Type 0 where
  pub whole : old.broken ≡ false
  pub items_are : new.items ≡ run_of recorded old.items
  pub list_is : new.list ≡ old.list ++ recorded
  pub lawful : KeepsHistory old.items new.items recorded
  pub gate_is : new.gate ≡ old.gate + spelled recorded
  pub failed_is : new.failed ≡ failed
  pub may : MayTry new.items failed
  pub broken_is : new.broken ≡ broken
  pub origin : new.origin ≡ old.origin
  pub limits : new.limits ≡ old.limits

-- a call on the disk failed in this way meanwhile, and the entry says it of the item
pub record IsFileBroke (before after : DiskKind → ℕ) (id : ItemId) (entry : Entry) : Type 0 where
  pub kind : DiskKind
  pub rose : Rose (before kind) (after kind)
  pub is : entry ≡ entries.Broke id (reason_of_file kind)

-- these entries were tried, with some P behind them
pub record FellWith {D O : Type 0} (old new : View D O) (before : History) (P : History → Type 0) : Type 0 where
  pub behind : History
  pub is : P behind
  pub fell : Fell old new (before ++ behind)

-- one entry, which has P
pub record IsOne (P : Entry → Type 0) (history : History) : Type 0 where
  pub entry : Entry
  pub is : P entry
  pub one : history ≡ entry ∷ []

-- the interruption by a call on the disk that failed meanwhile
abbrev pub FileBroke : (DiskKind → ℕ) → (DiskKind → ℕ) → ItemId → History → Type 0
FileBroke before after id = IsOne (IsFileBroke before after id)

-- each of the user's files reads as before
abbrev pub KeepsReads : {D : Type 0} → (D → Clock) → D → D → Type 0
KeepsReads clock old new = (name : List ℕ) → bytes_at (now (clock new)) (files_place name) ≡ bytes_at (now (clock old)) (files_place name)
