-- How a journal is started: what each moment leaves, and what stands in between.
use Rattle.std.specs.Prelude.{◌≡◌, ◌≢◌, ◌⊎◌, ℕ, List, [], ◌∷◌, ◌++◌, codes, Some, None, Result, Ok, Err}
use Rattle.dm_disk_model.specs.declared.place.Area.TheVariants.{State}
use Rattle.dm_disk_model.specs.declared.place.Place.{Place}
use Rattle.dm_disk_model.specs.declared.place.DiskFault.{DiskFault}
use Rattle.dm_disk_model.specs.File.{File, settled_file}
use Rattle.dm_disk_model.specs.Folder.{EachPrefix, names_of}
use Rattle.dm_disk_model.specs.Moments.{Throughout, Reached}
use Rattle.dm_disk_model.specs.Disk.{DiskState, Image, History, MayLeave, bytes_at, now}
use Rattle.dm_disk_model.proofs.Beside.{HadUnder}
use Rattle.dm_journal.specs.Text.{header}
use Rattle.dm_journal.specs.AtRest.{journal_name, journal_place, HasJournal}

abbrev pub spare_name : List ℕ
spare_name = codes "journal.new"

-- the file `journal.new` of the state area, in which a journal is made
abbrev pub spare_place : Place
spare_place = record { area = State; name = spare_name }

-- the text of a journal of no bodies
abbrev pub blank : List ℕ
blank = header ++ 0 ∷ []

-- For `journal` and the user's files the image has what a crash of this disk may leave.
pub record WasLeft (disk : DiskState) (image : Image) : Type 0 where
  pub before : Image
  pub left : MayLeave disk before
  pub journal : image.state journal_name ≡ before.state journal_name
  pub files : image.files ≡ before.files

-- `journal` is as a crash of this disk may leave it, or it is the journal of these bodies
abbrev pub OldOr : List (List ℕ) → DiskState → Image → Type 0
OldOr bodies disk image = WasLeft disk image ⊎ HasJournal bodies image

-- the image has no `journal`, or that of no bodies
abbrev pub NoneOrBlank : Image → Type 0
NoneOrBlank image = (image.state journal_name ≡ None) ⊎ HasJournal [] image

-- every image of the disk is so, and the user's files are as they were
abbrev pub LeavesOldOr : List (List ℕ) → DiskState → DiskState → Type 0
LeavesOldOr bodies start disk = (disk.files ≡ start.files) × ((image : Image) → MayLeave disk image → OldOr bodies start image)

-- `journal` is as at the start, whichever changes of names survive
pub record IsAsBefore (start disk : DiskState) : Type 0 where
  pub journal : EachPrefix disk.state (λ names. HadUnder journal_name start.state disk.state (names journal_name))
  pub files : disk.files ≡ start.files

-- so too, and `journal.new` has such a file, which was never that of `journal`
pub record HasSpare (start : DiskState) (P : File → Type 0) (disk : DiskState) : Type 0 where
  pub number : ℕ
  pub named : names_of disk.state spare_name ≡ Some number
  pub holds : P (disk.state.file number)
  pub journal : EachPrefix disk.state (λ names. HadUnder journal_name start.state disk.state (names journal_name) × (names journal_name ≢ Some number))
  pub files : disk.files ≡ start.files

-- the file holds this text, all of it durable
abbrev pub IsTextFile : List ℕ → File → Type 0
IsTextFile text file = file ≡ settled_file text

-- Where the call answers Ok this holds now. Until then each moment leaves `journal` as before, or as the journal of these bodies.
abbrev pub EndsIn : List (List ℕ) → History → History → (DiskState → Type 0) → Result (Unit {0}) DiskFault → Type 0
EndsIn bodies start new P (Ok done) = Reached start new (LeavesOldOr bodies (now start)) P
EndsIn bodies start new P (Err fault) = Throughout start new (LeavesOldOr bodies (now start))

-- all places but these two read as before
abbrev pub ChangesTheTwo : DiskState → DiskState → Type 0
ChangesTheTwo old new = (other : Place) → other ≢ journal_place → other ≢ spare_place → bytes_at new other ≡ bytes_at old other
