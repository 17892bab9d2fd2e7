-- What the entries that a call recorded make of a desk.
use Rattle.std.specs.Prelude.{◌≡◌, ◌+◌, Bool, true, false, List, [], ◌∷◌, ◌++◌, Option, Some, Result, Ok, Err}
use Rattle.dm_types.specs.declared.entry.Entry.{Entry}
use Rattle.dm_types.specs.declared.kinds.DiskKind.{DiskKind}
use Rattle.dm_item.specs.Lawful.{History, KeepsHistory}
use Rattle.dm_item.specs.Listing.{Admits, Listing, applied}
use Rattle.dm_store.specs.declared.life.Life.{Life}
use Rattle.dm_store.specs.Lives.{lives_after}
use Rattle.dm_store.specs.View.{View, spelled}

-- the list of items behind these entries
abbrev pub run_of : History → Listing → Listing
run_of [] items = items
run_of (entry ∷ more) items = run_of more (applied entry items)

-- the lives behind these entries
abbrev pub lives_of : History → Listing → List Life → List Life
lives_of [] items lives = lives
lives_of (entry ∷ more) items lives = lives_of more (applied entry items) (lives_after entry (applied entry items) lives)

-- the list takes these entries, one behind another
abbrev pub MayTry : Listing → History → Type 0
MayTry items [] = Unit {0}
MayTry items (entry ∷ more) = Admits items entry × MayTry (applied entry items) more

-- Of a desk that wasn't broken these entries were recorded, one more perhaps failed, and nothing else changed but the disk.
pub record Becomes {D O : Type 0} (old new : View D O) (recorded failed : History) (broken : Bool) : Type 0 where
  pub whole : old.broken ≡ false
  pub items_are : new.items ≡ run_of recorded old.items
  pub lives_are : new.lives ≡ lives_of recorded old.items old.lives
  pub list_is : new.list ≡ old.list ++ recorded
  -- on every disk: behind each history that leaves the old items they are lawful, and leave the new ones
  pub lawful : KeepsHistory old.items new.items recorded
  pub gate_is : new.gate ≡ old.gate + spelled recorded
  pub failed_is : new.failed ≡ failed
  -- on every disk: it was one that the list takes
  pub may : MayTry new.items failed
  pub broken_is : new.broken ≡ broken
  pub origin : new.origin ≡ old.origin
  pub limits : new.limits ≡ old.limits

-- these entries were recorded, and none failed
abbrev pub Recorded : {D O : Type 0} → View D O → View D O → History → Type 0
Recorded old new recorded = Becomes old new recorded [] false

-- Of these entries those before some place were recorded, and the one there failed, so that the desk is broken.
pub record Fell {D O : Type 0} (old new : View D O) (tries : History) : Type 0 where
  pub recorded : History
  pub entry : Entry
  pub rest : History
  pub tries_are : tries ≡ recorded ++ entry ∷ rest
  pub becomes : Becomes old new recorded (entry ∷ []) true

-- nothing changed, on a desk that wasn't broken, and this is why
pub record Refuses {D O : Type 0} (old new : View D O) (why : Type 0) : Type 0 where
  pub whole : old.broken ≡ false
  pub cause : why
  pub same : new ≡ old

-- what recording one entry makes
abbrev pub RecordMakes : {D O : Type 0} → View D O → View D O → Entry → Result (Unit {0}) DiskKind → Type 0
RecordMakes old new entry (Ok done) = Recorded old new (entry ∷ [])
RecordMakes old new entry (Err kind) = Becomes old new [] (entry ∷ []) true

-- each fault of the disk has its kind
abbrev pub kind_is : DiskKind → Option DiskKind
kind_is kind = Some kind
