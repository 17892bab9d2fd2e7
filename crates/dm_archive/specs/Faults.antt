-- The kinds that the faults of these calls have, where the disk or the history counts them.
use Rattle.std.specs.Prelude.{Option, Some, None}
use Rattle.dm_types.specs.declared.kinds.DiskKind.{DiskKind}
use Rattle.dm_hist.specs.declared.keeper.KeeperFault.{KeeperFault}
use Rattle.dm_hist.specs.declared.keeper.KeeperFault.TheVariants as keepers
use Rattle.dm_answers.specs.Faults.{desk_kind}
use Rattle.dm_answers.specs.declared.fault.DeskFault.{DeskFault}
use Rattle.dm_answers.specs.declared.fault.DeskFault.TheVariants as desks
use Rattle.dm_archive.specs.declared.fault.ArchiveFault.{ArchiveFault}
use Rattle.dm_archive.specs.declared.fault.ArchiveFault.TheVariants.{Keeper, Desk, NoMemory}

-- the kind that the disk counts
abbrev pub disk_kind : ArchiveFault → Option DiskKind
disk_kind Keeper = None
disk_kind (Desk fault) = desk_kind fault
disk_kind NoMemory = None

-- the kind that the history counts
abbrev pub history_kind : ArchiveFault → Option KeeperFault
history_kind Keeper = Some keepers.Failed
history_kind (Desk fault) = None
history_kind NoMemory = None

-- what a refusal of the list is: want of memory, or a refusal
abbrev pub desk_fault : DeskFault → ArchiveFault
desk_fault desks.NoMemory = NoMemory
desk_fault fault = Desk fault
