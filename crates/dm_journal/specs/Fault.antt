-- What the faults of a journal's calls say.
use Rattle.std.specs.Prelude.{Option, Some, None}
use Rattle.dm_types.specs.declared.kinds.DiskKind.{DiskKind}
use Rattle.dm_journal.specs.declared.fault.JournalFault.{JournalFault}
use Rattle.dm_journal.specs.declared.fault.JournalFault.TheVariants.{Disk, Damaged, NoMemory}

-- the kind that the disk counts. What reads as damaged, and want of memory, are counted nowhere.
abbrev pub journal_kind : JournalFault → Option DiskKind
journal_kind (Disk kind) = Some kind
journal_kind (Damaged place) = None
journal_kind NoMemory = None

-- no damage was found
abbrev pub IsNoDamage : JournalFault → Type 0
IsNoDamage (Disk kind) = Unit {0}
IsNoDamage (Damaged place) = ⊥
IsNoDamage NoMemory = Unit {0}
