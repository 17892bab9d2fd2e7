-- What a disk in memory shows: its history, its counts, and how the next call is to fail.
use Rattle.std.specs.Prelude.{◌≡◌, ◌⊎◌, ℕ, ◌^◌, ◌<◌, ◌≤◌, List, Option, Some, None, Result, Ok, Err}
use Rattle.dm_types.specs.declared.kinds.DiskKind.{DiskKind}
use Rattle.dm_types.specs.declared.kinds.DiskKind.TheVariants.{NoSpace}
use Rattle.dm_disk_model.specs.Disk.{DiskState, History, now}
use Rattle.dm_disk_model.specs.declared.place.DiskFault.{DiskFault}
use Rattle.dm_disk_model.specs.declared.place.NamesFault.{NamesFault}
use Rattle.dm_disk_model.specs.declared.place.NamesFault.TheVariants.{Disk, NoMemory}
use Rattle.dm_disk.specs.declared.memory.MemoryDisk.{MemoryDisk}
use Rattle.dm_disk.specs.declared.failing.FailingCall.{FailingCall}
use Rattle.dm_disk_model.specs.Counts.{count_of}
use Rattle.dm_disk.specs.Calls.{history_of}
use Rattle.dm_disk.specs.Meter.{due, begun, starved_once, refused_once}

-- what it held at each moment
abbrev pub history_in : MemoryDisk → History
history_in disk = history_of disk.log.calls.items

-- what it holds
abbrev pub held_in : MemoryDisk → DiskState
held_in disk = now (history_in disk)

-- how often a call failed, by kind
abbrev pub faults_in : MemoryDisk → DiskKind → ℕ
faults_in disk = count_of disk.meter.faults

-- how many writes were refused since their range would have ended too far
abbrev pub far_in : MemoryDisk → ℕ
far_in disk = disk.meter.far

-- how many calls found no memory
abbrev pub starved_in : MemoryDisk → ℕ
starved_in disk = disk.meter.starved

-- how the next call is to fail, if it is: a disk that was stopped fails every call, else the list decides
abbrev pub due_in : MemoryDisk → Option DiskKind
due_in disk = due disk.meter

abbrev pub fault_of : {T : Type 0} → Result T DiskFault → Option DiskKind
fault_of (Ok value) = None
fault_of (Err fault) = Some fault.0

-- of a listing, where want of memory is no fault of the disk
abbrev pub names_fault_of : {T : Type 0} → Result T NamesFault → Option DiskKind
names_fault_of (Ok value) = None
names_fault_of (Err (Disk kind)) = Some kind
names_fault_of (Err NoMemory) = None

-- No call was made, and these are to fail.
pub record IsFresh (failing : List FailingCall) (stop_after : Option ℕ) (disk : MemoryDisk) : Type 0 where
  pub faults : (kind : DiskKind) → faults_in disk kind ≡ 0
  pub far : far_in disk ≡ 0
  pub starved : starved_in disk ≡ 0
  pub made : disk.meter.made ≡ 0
  pub listed : disk.meter.failing ≡ failing
  pub stop : disk.meter.stop_after ≡ stop_after

-- The call was counted, and failed exactly as it was due to.
pub record IsInTurn (old new : MemoryDisk) (fault : Option DiskKind) : Type 0 where
  pub as_due : fault ≡ due_in old
  pub counts : new.meter ≡ begun (due_in old) old.meter

-- The call was not due to fail, and found no memory.
pub record IsStarved (old new : MemoryDisk) (fault : Option DiskKind) : Type 0 where
  pub no_space : fault ≡ Some NoSpace
  pub not_due : due_in old ≡ None
  pub counts : new.meter ≡ starved_once (begun None old.meter)

-- A call that may want memory.
abbrev pub MayStarve : MemoryDisk → MemoryDisk → Option DiskKind → Type 0
MayStarve old new fault = IsInTurn old new fault ⊎ IsStarved old new fault

-- A write: the rule on its end comes first.
pub record Writes (end : ℕ) (old new : MemoryDisk) (fault : Option DiskKind) : Type 0 where
  pub near : end < 2 ^ 63 → MayStarve old new fault
  pub far : 2 ^ 63 ≤ end → (fault ≡ Some NoSpace) × (new.meter ≡ refused_once old.meter)
