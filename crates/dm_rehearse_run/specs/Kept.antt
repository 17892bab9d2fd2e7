-- What a rehearsal's disk keeps through its sessions and the crash between them.
use Rattle.std.specs.Prelude.{◌≡◌, ℕ, false, true, List, [], slice_get, Some}
use Rattle.dm_types.specs.declared.item.Item.{Item}
use Rattle.dm_types.specs.declared.item.Phase.TheVariants.{Complete}
use Rattle.dm_disk_model.specs.declared.place.Area.TheVariants.{Files}
use Rattle.dm_disk_model.specs.declared.place.Place.{Place}
use Rattle.dm_disk_model.specs.Disk.{DiskState, bytes_at}
use Rattle.dm_disk.specs.declared.memory.MemoryDisk.{MemoryDisk}
use Rattle.dm_disk.specs.Memory.{history_in}
use Rattle.dm_edge.specs.Origin.{generated_byte}
use Rattle.dm_edge.specs.declared.origin.Generated.{Generated}
use Rattle.dm_item.specs.Lawful.{History}
use Rattle.dm_kept.specs.Files.{Says}
use Rattle.dm_kept.specs.Kept.{IsKeptNow, Kept}
use Rattle.dm_store.specs.Keeps.{HoldsOf}
use Rattle.dm_store.specs.Origin.{said_of}
use Rattle.dm_store.specs.View.{View}

-- what the origin of a number says: at each place the one byte that the number generates
abbrev pub says_of : ℕ → Says
says_of number = said_of (λ address key place byte. byte ≡ generated_byte number place)

-- Whatever a crash now leaves of the disk recovers to a front of one history, and each of its complete items is whole, by what the origin says.
abbrev pub IsKeptFor : ℕ → DiskState → Type 0
IsKeptFor number disk = IsKeptNow true (says_of number) disk

-- Whatever a crash now leaves of the disk recovers, and each of its complete items is whole.
abbrev pub IsGuarded : ℕ → DiskState → Type 0
IsGuarded number disk = Kept true (says_of number) (λ found. Unit {0}) disk

-- a desk over a disk in memory, with the origin of a number
abbrev pub Desk : Type 0
Desk = View MemoryDisk Generated

-- the desk holds some history, with the files of its items
pub record Holds (desk : Desk) : Type 0 where
  pub history : History
  pub holds : HoldsOf true (says_of desk.origin.seed) history_in desk history

-- the same of one that isn't broken
pub record IsOpen (desk : Desk) : Type 0 where
  pub whole : desk.broken ≡ false
  pub none_failed : desk.failed ≡ []
  pub held : Holds desk

-- the item is complete, and its file has this name
pub record IsComplete (item : Item) (name : List ℕ) : Type 0 where
  pub phase_is : item.phase ≡ Complete
  pub name_is : item.name ≡ Some name

-- where a file of the user's stands
abbrev pub file_place : List ℕ → Place
file_place name = record { area = Files; name = name }

-- a file stands there, each of whose bytes is the one that the number generates for its place
pub record IsGenerated (disk : DiskState) (name : List ℕ) (number : ℕ) : Type 0 where
  pub file : List ℕ
  pub reads : bytes_at disk (file_place name) ≡ Some file
  pub generated : (place byte : ℕ) → slice_get file place ≡ Some byte → byte ≡ generated_byte number place
