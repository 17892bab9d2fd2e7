-- What recovery gives, with the files of the items where the disk was good at the opening. These words take the place of those of
-- the same names in `Recovery`, which know no files.
use Rattle.std.specs.Prelude.{◌≡◌, Bool, ℕ, List}
use Rattle.dm_types.specs.Limits.{most_items}
use Rattle.dm_types.specs.Name.{IsPart}
use Rattle.dm_types.specs.declared.item.Item.{Item}
use Rattle.dm_disk_model.specs.Disk.{DiskState, Image, MayLeave}
use Rattle.dm_disk_model.specs.Beside.{IsFirmBut}
use Rattle.dm_disk_model.specs.Folder.{Contents, Folder, FolderLeaves, contents_of, names_of}
use Rattle.dm_item.specs.Lawful.{History, items_of}
use Rattle.dm_journal.specs.AtRest.{AtRest, journal_name}
use Rattle.dm_kept.specs.Files.{Covers, EndsLive, Facts, IfGood, PartsStand, Says, Sound, no_covers}
use Rattle.dm_kept.specs.Recovery.{Found, Through, recovered}
use Rattle.dm_kept.specs.Room.{IsTaken}
use Rattle.dm_kept.specs.Spelled.{AllEntries, Records, bodies_of}

-- The image has no journal, or that of a history which a desk takes, and P holds of what it leaves. Where the disk was good, the
-- folder keeps the files of its items, and the image is sound for them.
pub record Recovers (good : Bool) (says : Says) (P : Found → Type 0) (folder : Folder) (image : Image) : Type 0 where
  pub history : History
  pub recorded : Records (image.state journal_name) history
  pub taken : IsTaken most_items history
  pub items : P (recovered history)
  pub facts : IfGood good (Facts says no_covers (items_of history) folder)
  pub sound : IfGood good (Sound says (items_of history) image)

-- so whatever a crash now leaves
abbrev pub Kept : Bool → Says → (Found → Type 0) → DiskState → Type 0
Kept good says P disk = (image : Image) → MayLeave disk image → Recovers good says P disk.files image

-- Some crash now leaves the journal with just this history. It is said of the folder of the state alone.
pub record LeavesJust (history : History) (disk : DiskState) : Type 0 where
  pub left : Contents
  pub leaves : FolderLeaves disk.state left
  pub records : Records (left journal_name) history

-- The journal stands in every image, whole and durable, and records this history. Its closed gate stands at this place. Where the
-- disk was good, the files of the history's items are kept, with what is live of them.
pub record Rests (good : Bool) (says : Says) (history : History) (gate : ℕ) (covers : Covers) (disk : DiskState) : Type 0 where
  pub journal : AtRest disk gate (bodies_of history)
  pub entries : AllEntries history
  pub taken : IsTaken most_items history
  pub facts : IfGood good (Facts says covers (items_of history) disk.files)

-- The same of a desk that may be called. On every disk each name that is no part's has one file or none, whichever changes of names survive,
-- and the parts of the items that bring content stand; where the disk was good, those without a total end where their live covers do.
pub record Sits (good : Bool) (says : Says) (history : History) (gate : ℕ) (covers : Covers) (disk : DiskState) : Type 0 where
  pub rests : Rests good says history gate covers disk
  pub quiet : IsFirmBut IsPart disk.files
  pub stand : PartsStand (items_of history) disk.files
  pub ends : IfGood good (EndsLive covers (items_of history) disk.files)

-- A step of the user's files alone, which leaves the facts of whatever items, and under each name the file that reads there.
pub record StaysKept (says : Says) (old new : DiskState) : Type 0 where
  pub state : new.state ≡ old.state
  pub names : names_of new.files ≡ names_of old.files
  pub reads : (name : List ℕ) → contents_of new.files name ≡ contents_of old.files name
  pub quiet : IsFirmBut IsPart old.files → IsFirmBut IsPart new.files
  pub facts : (covers : Covers) (items : List Item) → Facts says covers items old.files → Facts says covers items new.files

-- some history was tried on the disk, and whatever a crash leaves recovers to a front of it
pub record IsKeptNow (good : Bool) (says : Says) (disk : DiskState) : Type 0 where
  pub earlier : History
  pub more : History
  pub kept : Kept good says (Through earlier more) disk

-- the disk was good: asked for only where it counts
abbrev pub WasKept : Bool → Says → DiskState → Type 0
WasKept good says disk = IfGood good (IsKeptNow good says disk)
