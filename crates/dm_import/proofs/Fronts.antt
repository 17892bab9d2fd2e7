-- The file that is imported, as it is read.
use Rattle.std.proofs.Common.{◌≡◌, ℕ, ◌<◌, ◌≤◌, List, length, Option, Some, None, Result, Ok, Err, refl, sym, ap, subst, arith, length-append}
use Rattle.std.specs.Prelude.{IfErr}
use Rattle.std.specs.Option.{option_map}
use Rattle.dm_types.specs.Faults.{NoneFell}
use Rattle.dm_types.specs.declared.kinds.DiskKind.{DiskKind}
use Rattle.dm_disk_model.specs.declared.place.Place.{Place}
use Rattle.dm_disk_model.specs.Disk.{DiskState, bytes_at}
use Rattle.dm_journal.specs.Reading.{IsFront}
use Rattle.dm_store.proofs.Saved.{rose_first, rose_last}
use Rattle.dm_report.specs.declared.verdict.Verdict.{Verdict}
use Rattle.dm_report.specs.declared.verdict.Verdict.TheVariants.{BadImport, DiskFailed, NoMemory}
use Rattle.dm_csv.specs.declared.row.ImportRow.{ImportRow}
use Rattle.dm_import.specs.Reading.{AreFew, FileTells, Finds, IsImportOf, IsTooLong, IsUnread, ReadsFile, RefusesBytes, RefusesFound, TellsNone, absent, bad, most_bytes, too_long}
use Rattle.dm_import.specs.declared.reading.Found.{Found}
use Rattle.dm_import.specs.declared.reading.Found.TheVariants.{Nothing, TooLong, Bytes}

-- a file with so long a front is too long
pub long_front : (disk : DiskState) (place : Place) (file bytes : List ℕ) → bytes_at disk place ≡ Some file → IsFront bytes file → most_bytes < length bytes → IsTooLong disk place
long_front disk place file bytes reads front many = record {
  bytes = file;
  is = reads;
  many = let long = ap length front.is in let parts = length-append bytes front.rest in omega (arith, long, parts, many);
}

-- something has a length
pub some_of : (found : Option (List ℕ)) (long : ℕ) → Some long ≡ option_map length found → (file : List ℕ) × (found ≡ Some file)
some_of (Some file) long is = (file, refl)
some_of None long is = absurd cc

pub none_of : (found : Option (List ℕ)) → None ≡ option_map length found → found ≡ None
none_of (Some file) is = absurd cc
none_of None is = refl

-- a failure of an earlier call, and of a later one
pub unread_first : (first middle last : DiskKind → ℕ) (verdict : Verdict) → NoneFell middle last → IsUnread first middle verdict → IsUnread first last verdict
unread_first first middle last (DiskFailed kind) later unread = rose_first (first kind) (middle kind) (last kind) unread (later kind)
unread_first first middle last NoMemory later unread = tt
unread_first first middle last verdict later unread = absurd unread

pub unread_last : (first middle last : DiskKind → ℕ) (verdict : Verdict) → NoneFell first middle → IsUnread middle last verdict → IsUnread first last verdict
unread_last first middle last (DiskFailed kind) earlier unread = rose_last (first kind) (middle kind) (last kind) (earlier kind) unread
unread_last first middle last NoMemory earlier unread = tt
unread_last first middle last verdict earlier unread = absurd unread

-- What was found, and what it tells.

pub found_tells : (tells : Type 0) (disk : DiskState) (place : Place) (found : Found) (rows : List ImportRow) → (tells → Finds disk place found) → AreFew found → IsImportOf found rows → FileTells tells disk place rows
found_tells tells disk place Nothing rows finds few tells_rows = absurd tells_rows
found_tells tells disk place TooLong rows finds few tells_rows = absurd tells_rows
found_tells tells disk place (Bytes bytes) rows finds few tells_rows = record { bytes = bytes; is = finds; few = few; import_is = tells_rows }

refused_bytes : (tells : Type 0) (disk : DiskState) (place : Place) (before after : DiskKind → ℕ) (bytes : List ℕ) (verdict : Verdict) → (tells → bytes_at disk place ≡ Some bytes) → length bytes ≤ most_bytes → RefusesBytes bytes verdict
    → TellsNone tells disk place before after verdict
refused_bytes tells disk place before after bytes (BadImport number) finds few refuses = bad bytes finds few refuses
refused_bytes tells disk place before after bytes NoMemory finds few refuses = tt
refused_bytes tells disk place before after bytes verdict finds few refuses = absurd refuses

found_refused : (tells : Type 0) (disk : DiskState) (place : Place) (before after : DiskKind → ℕ) (found : Found) (verdict : Verdict) → (tells → Finds disk place found) → AreFew found → RefusesFound found verdict → TellsNone tells disk place before after verdict
found_refused tells disk place before after Nothing verdict finds few refuses = subst (TellsNone tells disk place before after) (sym refuses) (absent finds refl)
found_refused tells disk place before after TooLong verdict finds few refuses = subst (TellsNone tells disk place before after) (sym refuses) (too_long finds refl)
found_refused tells disk place before after (Bytes bytes) verdict finds few refuses = refused_bytes tells disk place before after bytes verdict finds few refuses

pub refused_found : (tells : Type 0) (disk : DiskState) (place : Place) (before after : DiskKind → ℕ) (found : Found) (made : Result (List ImportRow) Verdict) → (tells → Finds disk place found) → AreFew found → IfErr made (RefusesFound found)
    → IfErr made (TellsNone tells disk place before after)
refused_found tells disk place before after found (Ok rows) finds few refuses = tt
refused_found tells disk place before after found (Err verdict) finds few refuses = found_refused tells disk place before after found verdict finds few refuses

-- it wasn't read
pub unread_tells : (tells : Type 0) (disk : DiskState) (place : Place) (before after : DiskKind → ℕ) (verdict : Verdict) → IsUnread before after verdict → TellsNone tells disk place before after verdict
unread_tells tells disk place before after (DiskFailed kind) unread = unread
unread_tells tells disk place before after NoMemory unread = tt
unread_tells tells disk place before after verdict unread = absurd unread

-- calls behind it change nothing of that
none_later : (tells : Type 0) (disk : DiskState) (place : Place) (first middle last : DiskKind → ℕ) (verdict : Verdict) → NoneFell middle last → TellsNone tells disk place first middle verdict → TellsNone tells disk place first last verdict
none_later tells disk place first middle last (BadImport number) later none = none
none_later tells disk place first middle last (DiskFailed kind) later none = rose_first (first kind) (middle kind) (last kind) none (later kind)
none_later tells disk place first middle last NoMemory later none = tt
none_later tells disk place first middle last verdict later none = absurd none

pub reads_later : (tells : Type 0) (disk : DiskState) (place : Place) (first middle last : DiskKind → ℕ) (read : Result (List ImportRow) Verdict) → NoneFell middle last → ReadsFile tells disk place first middle read → ReadsFile tells disk place first last read
reads_later tells disk place first middle last (Ok rows) later reads = reads
reads_later tells disk place first middle last (Err verdict) later reads = none_later tells disk place first middle last verdict later reads
