-- The file that is imported: what stands under its name before the list is opened, and which rows it tells.
use Rattle.std.specs.Prelude.{◌≡◌, ◌<◌, ◌≤◌, ℕ, List, length, Some, None, Result, Ok, Err}
use Rattle.dm_types.specs.Faults.{Rose}
use Rattle.dm_types.specs.declared.kinds.DiskKind.{DiskKind}
use Rattle.dm_disk_model.specs.declared.place.Place.{Place}
use Rattle.dm_disk_model.specs.Disk.{DiskState, bytes_at}
use Rattle.dm_report.specs.declared.verdict.Verdict.{Verdict}
use Rattle.dm_report.specs.declared.verdict.Verdict.TheVariants.{BadImport, DiskFailed, NoMemory}
use Rattle.dm_csv.specs.Rows.{IsImport, Refuses}
use Rattle.dm_csv.specs.declared.importing.ImportFault.TheVariants as imports
use Rattle.dm_csv.specs.declared.row.ImportRow.{ImportRow}
use Rattle.dm_import.specs.declared.reading.Found.{Found}
use Rattle.dm_import.specs.declared.reading.Found.TheVariants.{Nothing, TooLong, Bytes}

-- a file of more bytes isn't imported
abbrev pub most_bytes : ℕ
most_bytes = 1048576

-- The bytes of the file, where the disk tells what it holds, which are so many at most, tell these rows.
pub record FileTells (tells : Type 0) (disk : DiskState) (place : Place) (rows : List ImportRow) : Type 0 where
  pub bytes : List ℕ
  pub is : tells → bytes_at disk place ≡ Some bytes
  pub few : length bytes ≤ most_bytes
  pub import_is : IsImport bytes rows

-- the file has more bytes than are imported
pub record IsTooLong (disk : DiskState) (place : Place) : Type 0 where
  pub bytes : List ℕ
  pub is : bytes_at disk place ≡ Some bytes
  pub many : most_bytes < length bytes

-- No row is read: nothing stands there, or a file that is too long, both told as record 0; or the record of this number is the first bad one, 0 for the header.
pub data IsNoImport (tells : Type 0) (disk : DiskState) (place : Place) (number : ℕ) : Type 0 where
  absent : (tells → bytes_at disk place ≡ None) → number ≡ 0 → IsNoImport tells disk place number
  too_long : (tells → IsTooLong disk place) → number ≡ 0 → IsNoImport tells disk place number
  bad : (bytes : List ℕ) → (tells → bytes_at disk place ≡ Some bytes) → length bytes ≤ most_bytes → Refuses bytes (imports.Bad number) → IsNoImport tells disk place number

-- a call on the disk failed, which its count shows, or memory was wanting
abbrev pub IsUnread : (DiskKind → ℕ) → (DiskKind → ℕ) → Verdict → Type 0
IsUnread before after (DiskFailed kind) = Rose (before kind) (after kind)
IsUnread before after NoMemory = Unit {0}
IsUnread before after _ = ⊥

-- why no rows are told
abbrev pub TellsNone : Type 0 → DiskState → Place → (DiskKind → ℕ) → (DiskKind → ℕ) → Verdict → Type 0
TellsNone tells disk place before after (BadImport number) = IsNoImport tells disk place number
TellsNone tells disk place before after (DiskFailed kind) = Rose (before kind) (after kind)
TellsNone tells disk place before after NoMemory = Unit {0}
TellsNone tells disk place before after _ = ⊥

-- the rows of the file, or why there are none
abbrev pub ReadsFile : Type 0 → DiskState → Place → (DiskKind → ℕ) → (DiskKind → ℕ) → Result (List ImportRow) Verdict → Type 0
ReadsFile tells disk place before after (Ok rows) = FileTells tells disk place rows
ReadsFile tells disk place before after (Err verdict) = TellsNone tells disk place before after verdict

-- What each step of reading says to the next.

-- what was found is what stands there
abbrev pub Finds : DiskState → Place → Found → Type 0
Finds disk place Nothing = bytes_at disk place ≡ None
Finds disk place TooLong = IsTooLong disk place
Finds disk place (Bytes bytes) = bytes_at disk place ≡ Some bytes

-- these bytes are so many at most
abbrev pub AreFew : Found → Type 0
AreFew Nothing = Unit {0}
AreFew TooLong = Unit {0}
AreFew (Bytes bytes) = length bytes ≤ most_bytes

-- the bytes that were found tell these rows
abbrev pub IsImportOf : Found → List ImportRow → Type 0
IsImportOf Nothing rows = ⊥
IsImportOf TooLong rows = ⊥
IsImportOf (Bytes bytes) rows = IsImport bytes rows

-- bytes that can't be imported, or memory was wanting
abbrev pub RefusesBytes : List ℕ → Verdict → Type 0
RefusesBytes bytes (BadImport number) = Refuses bytes (imports.Bad number)
RefusesBytes bytes NoMemory = Unit {0}
RefusesBytes bytes _ = ⊥

-- the same of what was found
abbrev pub RefusesFound : Found → Verdict → Type 0
RefusesFound Nothing verdict = verdict ≡ BadImport 0
RefusesFound TooLong verdict = verdict ≡ BadImport 0
RefusesFound (Bytes bytes) verdict = RefusesBytes bytes verdict
