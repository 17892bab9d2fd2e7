-- What is read of a rehearsal's disk at its end.
use Rattle.std.specs.Prelude.{◌≡◌, ℕ, List, length, Some}
use Rattle.sha2.specs.Sha256.{sha256}
use Rattle.dm_disk_model.specs.declared.place.Place.{Place}
use Rattle.dm_disk_model.specs.Disk.{DiskState, bytes_at}
use Rattle.dm_item.specs.Lawful.{History}
use Rattle.dm_journal.specs.AtRest.{journal_place}
use Rattle.dm_kept.specs.Spelled.{IsJournalOf}
use Rattle.dm_generated.specs.Content.{content_of, size_of}
use Rattle.dm_rehearse.specs.declared.counting.Counts.{Counts}
use Rattle.dm_rehearse.specs.Counting.{counts_of}

-- the journal as it reads is that of a history, and these are its counts
pub record IsCountedOn (disk : DiskState) (counts : Counts) : Type 0 where
  pub bytes : List ℕ
  pub reads : bytes_at disk journal_place ≡ Some bytes
  pub history : History
  pub is : IsJournalOf history bytes
  pub counts_are : counts ≡ counts_of history

-- a file stands there that has so many bytes
pub record IsLong (disk : DiskState) (place : Place) (size : ℕ) : Type 0 where
  pub file : List ℕ
  pub reads : bytes_at disk place ≡ Some file
  pub long : length file ≡ size

-- a file stands there that is as long as the content of the number, and this is its SHA-256
pub record IsSumOf (disk : DiskState) (place : Place) (number : ℕ) (sum : List ℕ) : Type 0 where
  pub file : List ℕ
  pub reads : bytes_at disk place ≡ Some file
  pub long : length file ≡ size_of number
  pub sum_is : sum ≡ sha256 file

-- the same, and the sum is that of the content
pub record IsContentSum (disk : DiskState) (place : Place) (number : ℕ) (sum : List ℕ) : Type 0 where
  pub of_file : IsSumOf disk place number sum
  pub of_content : sum ≡ sha256 (content_of number)
