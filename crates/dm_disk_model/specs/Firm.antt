-- What a name has, whichever of the pending changes of names survive.
use Rattle.std.specs.Prelude.{◌≡◌, ℕ, List, Option, Some, None}
use Rattle.dm_disk_model.specs.File.{File, FileLeaves}
use Rattle.dm_disk_model.specs.Folder.{Folder, EachPrefix}

-- whichever changes of names survive, the name has no file
abbrev pub IsAbsent : List ℕ → Folder → Type 0
IsAbsent name folder = EachPrefix folder (λ names. names name ≡ None)

-- the name has this one file
pub record HasFile (folder : Folder) (name : List ℕ) (file : File) : Type 0 where
  pub number : ℕ
  pub named : EachPrefix folder (λ names. names name ≡ Some number)
  pub is : folder.file number ≡ file

-- what is found are bytes that a crash may leave of the file
pub record LeftOf (file : File) (found : Option (List ℕ)) : Type 0 where
  pub bytes : List ℕ
  pub is : found ≡ Some bytes
  pub left : FileLeaves file bytes
