-- What a failure of the history, and of a move of items to it, is told as.
use Rattle.dm_answers.specs.declared.fault.DeskFault.TheVariants as desks
use Rattle.dm_hist.specs.declared.keeper.KeeperFault.{KeeperFault}
use Rattle.dm_hist.specs.declared.keeper.KeeperFault.TheVariants as keepers
use Rattle.dm_archive.specs.declared.fault.ArchiveFault.{ArchiveFault}
use Rattle.dm_archive.specs.declared.fault.ArchiveFault.TheVariants as faults
use Rattle.dm_response.specs.declared.trouble.Trouble.{Trouble}
use Rattle.dm_response.specs.declared.trouble.Trouble.TheVariants as troubles

abbrev pub keeper_trouble : KeeperFault → Trouble
keeper_trouble keepers.Failed = troubles.History
keeper_trouble keepers.NoMemory = troubles.Memory

-- Faults that no move of items gives are told as want of memory.
abbrev pub archive_trouble : ArchiveFault → Trouble
archive_trouble faults.Keeper = troubles.History
archive_trouble faults.NoMemory = troubles.Memory
archive_trouble (faults.Desk desks.Broken) = troubles.Broken
archive_trouble (faults.Desk (desks.Journal kind)) = troubles.Disk
archive_trouble (faults.Desk fault) = troubles.Memory
