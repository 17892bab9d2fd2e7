-- What a publication does to what reads.
use Rattle.std.specs.Prelude.{◌≡◌, ◌≢◌, ◌⊎◌, None, Result, OnOk, OnErr}
use Rattle.dm_disk_model.specs.declared.place.Place.{Place}
use Rattle.dm_disk_model.specs.declared.place.DiskFault.{DiskFault}
use Rattle.dm_disk_model.specs.Disk.{DiskState, bytes_at}

-- The target reads as the part did, and the part is gone. After a fault the target reads so or as before. All other places read as before.
pub record Moves (part target : Place) (result : Result (Unit {0}) DiskFault) (old new : DiskState) : Type 0 where
  pub done : OnOk result ((bytes_at new target ≡ bytes_at old part) × (bytes_at new part ≡ None))
  pub failed : OnErr result ((bytes_at new target ≡ bytes_at old part) ⊎ (bytes_at new target ≡ bytes_at old target))
  pub others : (other : Place) → other ≢ part → other ≢ target → bytes_at new other ≡ bytes_at old other
