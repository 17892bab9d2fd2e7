-- What calls leave under the names that they don't name.
use Rattle.std.specs.Prelude.{◌≡◌, ◌≢◌, ℕ, List, Option, Some}
use Rattle.dm_disk_model.specs.Folder.{Folder, Contents, FolderLeaves, EachPrefix, names_of, names_after}
use Rattle.dm_disk_model.specs.Disk.{History, now}
use Rattle.dm_disk_model.specs.Moments.{Throughout}

-- a crash of the start might have left this under the name
pub record WasUnder (start : Folder) (name : List ℕ) (found : Option (List ℕ)) : Type 0 where
  pub before : Contents
  pub left : FolderLeaves start before
  pub same : found ≡ before name

-- Whatever a crash of the folder leaves under the name, a crash of the start might have left there.
abbrev pub LeftAsBefore : List ℕ → Folder → Folder → Type 0
LeftAsBefore name start folder = (contents : Contents) → FolderLeaves folder contents → WasUnder start name (contents name)

-- So it is under each name of the user's files but the spared ones, at each moment.
abbrev pub Besides : (List ℕ → Type 0) → History → History → Type 0
Besides spared old new = Throughout old new (λ disk. (name : List ℕ) → (spared name → ⊥) → LeftAsBefore name (now old).files disk.files)

-- whichever changes of names survive, the name has one file, or none
pub record IsFirm (name : List ℕ) (folder : Folder) : Type 0 where
  pub found : Option ℕ
  pub named : EachPrefix folder (λ names. names name ≡ found)

-- each name is firm but the spared ones
abbrev pub IsFirmBut : (List ℕ → Type 0) → Folder → Type 0
IsFirmBut spared folder = (name : List ℕ) → (spared name → ⊥) → IsFirm name folder

-- no crash gives the name the file that the other name has
abbrev pub NeverShares : List ℕ → List ℕ → Folder → Type 0
NeverShares name other folder = (count number : ℕ) → names_of folder other ≡ Some number → names_after folder count name ≢ Some number
