-- What a rehearsal tells of the disk on which its content was brought.
use Rattle.std.specs.Prelude.{◌≡◌, ℕ, List}
use Rattle.dm_disk_model.specs.declared.place.Area.TheVariants.{Files}
use Rattle.dm_disk_model.specs.Disk.{DiskState}
use Rattle.dm_disk.specs.declared.memory.MemoryDisk.{MemoryDisk}
use Rattle.dm_disk.specs.Memory.{held_in}
use Rattle.dm_rehearse.specs.declared.counting.Counts.{Counts}
use Rattle.dm_rehearse.specs.Counting.{AddUp}
use Rattle.dm_rehearse.specs.Lines.{lines_of}
use Rattle.dm_rehearse_run.specs.Reading.{IsContentSum, IsCountedOn}
use Rattle.dm_rehearse_run.specs.Sessions.{AreSessions}

-- the journal's counts, and they add up
pub record IsCounted (disk : DiskState) (counts : Counts) : Type 0 where
  pub counted : IsCountedOn disk counts
  pub add_up : AddUp counts

-- the sum of the user's file of this name, which is that of the content
abbrev pub IsPublished : DiskState → List ℕ → ℕ → List ℕ → Type 0
IsPublished disk name number sum = IsContentSum disk (record { area = Files; name = name }) number sum

-- the four lines, of this disk: the counts are those of its journal, and the sum that of the file under this name and of the content
pub record IsTold (disk : DiskState) (name : List ℕ) (number : ℕ) (text : List ℕ) : Type 0 where
  pub counts : Counts
  pub counted : IsCounted disk counts
  pub sum : List ℕ
  pub published : IsPublished disk name number sum
  pub text_is : text ≡ lines_of number counts.attempts counts.broke sum

-- so of the disk that the two sessions of the number left, with the crash between them, and of the file that they brought
pub record IsPrinted (number : ℕ) (text : List ℕ) : Type 0 where
  pub disk : MemoryDisk
  pub name : List ℕ
  pub ran : AreSessions number disk name
  pub told : IsTold (held_in disk) name number text
