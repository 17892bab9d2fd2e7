-- What is found of a journal.
use Rattle.std.specs.Prelude.{◌≡◌, ◌⊎◌, ℕ, List, length, Option, Some, None, Result, Ok, Err}
use Rattle.dm_disk_model.specs.Names.{NeverStands}
use Rattle.dm_disk_model.specs.Disk.{DiskState, StandsNot, bytes_at}
use Rattle.dm_journal.specs.Text.{IsDamagedAt, front}
use Rattle.dm_journal.specs.AtRest.{journal_place, AtRest, ReadsJournal}
use Rattle.dm_journal.specs.declared.fault.JournalFault.{JournalFault}
use Rattle.dm_journal.specs.declared.fault.JournalFault.TheVariants.{Disk, Damaged, NoMemory}

-- the place of the closed gate and the bodies, where a journal stands
abbrev pub Found : Type 0
Found = Option (ℕ × List (List ℕ))

-- what reads as `journal` is no journal, and this is the first place that shows it
pub record ReadsDamaged (disk : DiskState) (place : ℕ) : Type 0 where
  pub bytes : List ℕ
  pub reads : bytes_at disk journal_place ≡ Some bytes
  pub damaged : IsDamagedAt bytes place

-- What was found is what the disk read, and is durable now. Where nothing stood, no crash puts something there.
abbrev pub Finds : DiskState → DiskState → Result Found JournalFault → Type 0
Finds old new (Ok None) = StandsNot old journal_place × NeverStands journal_place new
Finds old new (Ok (Some found)) = ReadsJournal old found.0 found.1 × AtRest new found.0 found.1
Finds old new (Err (Disk kind)) = Unit {0}
Finds old new (Err (Damaged place)) = ReadsDamaged old place
Finds old new (Err NoMemory) = Unit {0}

-- the disk failed, or memory was wanting
abbrev pub IsHindered : Result Found JournalFault → Type 0
IsHindered (Ok found) = ⊥
IsHindered (Err (Disk kind)) = Unit {0}
IsHindered (Err (Damaged place)) = ⊥
IsHindered (Err NoMemory) = Unit {0}

-- What the disk reads is what is answered, but for a fault of the disk or want of memory.
pub record IsAsRead (disk : DiskState) (result : Result Found JournalFault) : Type 0 where
  pub none : StandsNot disk journal_place → (result ≡ Ok None) ⊎ IsHindered result
  pub some : (gate : ℕ) (bodies : List (List ℕ)) → ReadsJournal disk gate bodies → (result ≡ Ok (Some (gate, bodies))) ⊎ IsHindered result
  pub damaged : (place : ℕ) → ReadsDamaged disk place → (result ≡ Err (Damaged place)) ⊎ IsHindered result

-- the closed gate stands behind the cells of the bodies
abbrev pub IsBehind : Found → Type 0
IsBehind None = Unit {0}
IsBehind (Some found) = found.0 ≡ length (front found.1)
