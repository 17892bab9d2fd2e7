-- How the journal is made durable and read: what the calls in between say.
use Rattle.std.specs.Prelude.{◌≡◌, ℕ, ◌^◌, ◌<◌, List, ◌++◌, length, Option, Some, None, Result, Ok, Err}
use Rattle.dm_disk_model.specs.declared.place.Place.{Place}
use Rattle.dm_disk_model.specs.declared.place.DiskFault.{DiskFault}
use Rattle.dm_disk_model.specs.Firm.{HasFile}
use Rattle.dm_disk_model.specs.Names.{NeverStands}
use Rattle.dm_disk_model.specs.File.{settled_file}
use Rattle.dm_disk_model.specs.Moments.{LeavesOnly, KeepsFiles}
use Rattle.dm_disk_model.specs.Disk.{DiskState, History, MayLeave, StandsNot, bytes_at, now}
use Rattle.dm_journal.specs.Text.{IsDamagedAt, IsJournalText, front, header}
use Rattle.dm_journal.specs.AtRest.{journal_name, journal_place}
use Rattle.dm_journal.specs.Finding.{ReadsDamaged}
use Rattle.dm_journal.specs.declared.finding.Settled.{Settled}
use Rattle.dm_journal.specs.declared.finding.Settled.TheVariants.{Stands, Missing}
use Rattle.dm_journal.specs.declared.text.WholeText.{WholeText}
use Rattle.dm_journal.specs.declared.fault.JournalFault.{JournalFault}
use Rattle.dm_journal.specs.declared.fault.JournalFault.TheVariants.{Disk, Damaged, NoMemory}

-- A sync takes images away and never adds one: each that is left at a moment could have been left at the start. All places read as before.
pub record SyncsOnly (old new : History) : Type 0 where
  pub images : LeavesOnly old new (MayLeave (now old))
  pub reads : (place : Place) → bytes_at (now new) place ≡ bytes_at (now old) place
  pub files : KeepsFiles old new

-- the bytes stand at the front of the file
pub record IsFront (bytes file : List ℕ) : Type 0 where
  pub rest : List ℕ
  pub is : file ≡ bytes ++ rest

-- the header stands at the front of the file, and then these bytes, or the file is damaged there
abbrev pub HeaderIsRead : List ℕ → List ℕ → Result (Unit {0}) JournalFault → Type 0
HeaderIsRead file ahead (Ok done) = IsFront (header ++ ahead) file
HeaderIsRead file ahead (Err (Disk kind)) = Unit {0}
HeaderIsRead file ahead (Err (Damaged place)) = IsDamagedAt file place
HeaderIsRead file ahead (Err NoMemory) = Unit {0}

-- the file is a journal of the bodies, or it is damaged at the place
abbrev pub FileIsRead : List ℕ → Result WholeText JournalFault → Type 0
FileIsRead file (Ok found) = IsJournalText found.bodies file
FileIsRead file (Err (Disk kind)) = Unit {0}
FileIsRead file (Err (Damaged place)) = IsDamagedAt file place
FileIsRead file (Err NoMemory) = Unit {0}

-- where the closed gate is, on every disk
abbrev pub IsPlaced : WholeText → Type 0
IsPlaced found = (found.gate ≡ length (front found.bodies)) × (found.gate < 2 ^ 63)

-- what read as `journal` is durable now
pub record IsDurable (old new : DiskState) (bytes : List ℕ) : Type 0 where
  pub reads : bytes_at old journal_place ≡ Some bytes
  pub file : HasFile new.state journal_name (settled_file bytes)

abbrev pub Settles : DiskState → DiskState → Result Settled DiskFault → Type 0
Settles old new (Ok Stands) = (bytes : List ℕ) × IsDurable old new bytes
Settles old new (Ok Missing) = StandsNot old journal_place × NeverStands journal_place new
Settles old new (Err fault) = Unit {0}

-- the file holds these bodies, and is durable now
pub record HoldsText (old new : DiskState) (bodies : List (List ℕ)) : Type 0 where
  pub bytes : List ℕ
  pub durable : IsDurable old new bytes
  pub text : IsJournalText bodies bytes

abbrev pub FindsText : DiskState → DiskState → Result (Option WholeText) JournalFault → Type 0
FindsText old new (Ok None) = StandsNot old journal_place × NeverStands journal_place new
FindsText old new (Ok (Some found)) = HoldsText old new found.bodies
FindsText old new (Err (Disk kind)) = Unit {0}
FindsText old new (Err (Damaged place)) = ReadsDamaged old place
FindsText old new (Err NoMemory) = Unit {0}

-- where the closed gate is, on every disk
abbrev pub IsOfText : Option WholeText → Type 0
IsOfText None = Unit {0}
IsOfText (Some found) = IsPlaced found
