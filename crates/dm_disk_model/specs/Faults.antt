-- The kinds of a disk's faults, and the rule on ranges that end too far.
use Rattle.std.specs.Prelude.{◌≡◌, ℕ, ◌^◌, ◌<◌, ◌≤◌, Option, Some, None, Result, Err}
use Rattle.dm_types.specs.Faults.{Rose}
use Rattle.dm_types.specs.declared.kinds.DiskKind.{DiskKind}
use Rattle.dm_types.specs.declared.kinds.DiskKind.TheVariants.{NoSpace}
use Rattle.dm_disk_model.specs.declared.place.DiskFault.{DiskFault}
use Rattle.dm_disk_model.specs.declared.place.NamesFault.{NamesFault}
use Rattle.dm_disk_model.specs.declared.place.NamesFault.TheVariants.{Disk, NoMemory}
use Rattle.dm_disk_model.specs.Disk.{History}

abbrev pub disk_kind : DiskFault → Option DiskKind
disk_kind fault = Some fault.0

-- want of memory is counted nowhere
abbrev pub names_kind : NamesFault → Option DiskKind
names_kind (Disk kind) = Some kind
names_kind NoMemory = None

-- A write whose range would end at 2^63 or above is refused with NoSpace, changes nothing, and is counted apart. No other call is.
pub record CountsFar {T : Type 0} (end : ℕ) (before now : ℕ) (old new : History) (result : Result T DiskFault) : Type 0 where
  pub far : 2 ^ 63 ≤ end → (result ≡ Err (record { 0 = NoSpace })) × (new ≡ old) × Rose before now
  pub near : end < 2 ^ 63 → now ≡ before
