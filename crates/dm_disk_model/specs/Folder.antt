-- One folder: files by number, which names they have, and what a crash may leave of both.
use Rattle.std.specs.Prelude.{◌≡◌, ◌≢◌, ℕ, ◌<◌, ◌≤◌, slice_get, if◌then◌else◌, bytes_eq, List, [], ◌∷◌, ◌++◌, length, take, Option, Some, None, IsSome, Contains, ◌↔◌}
use Rattle.std.specs.Option.{option_map}
use Rattle.dm_disk_model.specs.File.{File, FileLeaves, empty_file, IsAllClean}

-- The file's number under each name. A number stands for one file for good, whichever names it has.
abbrev pub Names : Type 0
Names = List ℕ → Option ℕ

abbrev pub no_names : Names
no_names name = None

-- the names with one of them set
abbrev pub with_name : Names → List ℕ → Option ℕ → Names
with_name names name number other = if bytes_eq other name then number else names other

-- one change of the names
pub data Change : Type 0 where
  Created : List ℕ → ℕ → Change
  Renamed : List ℕ → List ℕ → Change
  Removed : List ℕ → Change

-- A rename takes the old name away and replaces what stood under the new one.
abbrev pub after_change : Names → Change → Names
after_change names (Created name number) = with_name names name (Some number)
after_change names (Renamed from to) = with_name (with_name names from None) to (names from)
after_change names (Removed name) = with_name names name None

-- the names after these changes, of which the oldest comes first
abbrev pub after_changes : Names → List Change → Names
after_changes names [] = names
after_changes names (change ∷ later) = after_changes (after_change names change) later

pub record Folder : Type 0 where
  pub file : ℕ → File
  -- the names at the last sync of the names
  pub synced : Names
  -- the changes since, the oldest first
  pub changes : List Change

-- the names as they read
abbrev pub names_of : Folder → Names
names_of folder = after_changes folder.synced folder.changes

-- the names after the first so many of the changes since the last sync
abbrev pub names_after : Folder → ℕ → Names
names_after folder count = after_changes folder.synced (take count folder.changes)

-- bytes by name
abbrev pub Contents : Type 0
Contents = List ℕ → Option (List ℕ)

-- the contents as they read
abbrev pub contents_of : Folder → Contents
contents_of folder name = option_map (λ number. (folder.file number).bytes) (names_of folder name)

-- what a crash leaves under one name: nothing where no file has it, else what it leaves of that file
abbrev pub NameLeaves : (ℕ → File) → Option ℕ → Option (List ℕ) → Type 0
NameLeaves file None None = Unit {0}
NameLeaves file (Some number) (Some bytes) = FileLeaves (file number) bytes
NameLeaves file None (Some bytes) = ⊥
NameLeaves file (Some number) None = ⊥

-- After a crash the changes of names since the last sync survive as a prefix of their order.
pub record FolderLeaves (folder : Folder) (contents : Contents) : Type 0 where
  pub survive : ℕ
  pub each : (name : List ℕ) → NameLeaves folder.file (names_after folder survive name) (contents name)

-- this holds of the names after each prefix of the changes
abbrev pub EachPrefix : Folder → (Names → Type 0) → Type 0
EachPrefix folder P = (count : ℕ) → P (names_after folder count)

-- each file that has a name is clean throughout
abbrev pub AreSettled : Folder → Type 0
AreSettled folder = (name : List ℕ) (number : ℕ) → names_of folder name ≡ Some number → IsAllClean (folder.file number)

-- two names never share a file
abbrev pub AreApart : Names → Type 0
AreApart names = (a b : List ℕ) (number : ℕ) → names a ≡ Some number → names b ≡ Some number → a ≡ b

-- no crash joins two names to one file, and no file was synced longer than it is
pub record IsSoundFolder (folder : Folder) : Type 0 where
  pub apart : EachPrefix folder AreApart
  pub within : (number : ℕ) → (folder.file number).synced ≤ length (folder.file number).bytes

-- The file under this name takes the step. Nothing else changes.
pub record FileSteps (name : List ℕ) (step : File → File → Type 0) (old new : Folder) : Type 0 where
  pub number : ℕ
  pub stands : names_of old name ≡ Some number
  pub stepped : step (old.file number) (new.file number)
  pub others : (other : ℕ) → other ≢ number → new.file other ≡ old.file other
  pub synced : new.synced ≡ old.synced
  pub changes : new.changes ≡ old.changes

-- A new, empty file stands under this name: its number stood under no name.
pub record Creates (name : List ℕ) (old new : Folder) : Type 0 where
  pub number : ℕ
  pub unused : EachPrefix old (λ names. (other : List ℕ) → names other ≢ Some number)
  pub empty : new.file number ≡ empty_file
  pub others : (other : ℕ) → other ≢ number → new.file other ≡ old.file other
  pub synced : new.synced ≡ old.synced
  pub changes : new.changes ≡ old.changes ++ Created name number ∷ []

-- The change of a name came last. No file changes.
pub record Changes (change : Change) (old new : Folder) : Type 0 where
  pub files : new.file ≡ old.file
  pub synced : new.synced ≡ old.synced
  pub changes : new.changes ≡ old.changes ++ change ∷ []

-- All changes of names are durable.
pub record SyncsNames (old new : Folder) : Type 0 where
  pub files : new.file ≡ old.file
  pub synced : new.synced ≡ names_of old
  pub changes : new.changes ≡ []

-- the list has each name that stands, once
pub record Lists (folder : Folder) (names : List (List ℕ)) : Type 0 where
  pub each : (name : List ℕ) → Contains names name ↔ IsSome (names_of folder name)
  pub once : (i j : ℕ) → i < length names → j < length names → slice_get names i ≡ slice_get names j → i ≡ j
