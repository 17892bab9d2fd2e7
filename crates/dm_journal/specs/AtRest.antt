-- The journal's file on a disk, and in what a crash left.
use Rattle.std.specs.Prelude.{◌≡◌, ◌⊎◌, ℕ, List, [], ◌∷◌, ◌++◌, length, codes, Some}
use Rattle.dm_disk_model.specs.declared.place.Area.TheVariants.{State}
use Rattle.dm_disk_model.specs.declared.place.Place.{Place}
use Rattle.dm_disk_model.specs.Firm.{HasFile}
use Rattle.dm_disk_model.specs.File.{settled_file}
use Rattle.dm_disk_model.specs.Folder.{Contents, Folder, FolderLeaves}
use Rattle.dm_disk_model.specs.Disk.{DiskState, Image, bytes_at}
use Rattle.dm_journal.specs.Text.{IsJournalText, front, in_four}

abbrev pub journal_name : List ℕ
journal_name = codes "journal"

-- the file `journal` of the state area
abbrev pub journal_place : Place
journal_place = record { area = State; name = journal_name }

-- The journal stands in every image, whole and durable, and holds these bodies. Its closed gate stands at this place.
pub record AtRest (disk : DiskState) (gate : ℕ) (bodies : List (List ℕ)) : Type 0 where
  pub bytes : List ℕ
  pub file : HasFile disk.state journal_name (settled_file bytes)
  pub text : IsJournalText bodies bytes
  pub at : gate ≡ length (front bodies)

-- the image has a journal of these bodies
pub record HasJournal (bodies : List (List ℕ)) (image : Image) : Type 0 where
  pub bytes : List ℕ
  pub found : image.state journal_name ≡ Some bytes
  pub text : IsJournalText bodies bytes

-- with the body at the end or without it
abbrev pub WithOrWithout : List (List ℕ) → List ℕ → Image → Type 0
WithOrWithout bodies body image = HasJournal bodies image ⊎ HasJournal (bodies ++ body ∷ []) image

-- Some crash leaves the journal with just these bodies. It is said of the folder of the state alone.
pub record MayLeaveJust (bodies : List (List ℕ)) (folder : Folder) : Type 0 where
  pub left : Contents
  pub leaves : FolderLeaves folder left
  pub bytes : List ℕ
  pub found : left journal_name ≡ Some bytes
  pub text : IsJournalText bodies bytes

-- what is written behind a closed gate: the length, the body, and the next gate, closed
abbrev pub cell_tail : List ℕ → List ℕ
cell_tail body = (in_four (length body) ++ body) ++ 0 ∷ []

-- The journal reads as one of these bodies, durable or not. Its closed gate stands at this place.
pub record ReadsJournal (disk : DiskState) (gate : ℕ) (bodies : List (List ℕ)) : Type 0 where
  pub bytes : List ℕ
  pub reads : bytes_at disk journal_place ≡ Some bytes
  pub text : IsJournalText bodies bytes
  pub at : gate ≡ length (front bodies)
