-- What a run meets: the disk and the net, and what they counted.
use Rattle.std.specs.Prelude.{◌≡◌, ℕ, List}
use Rattle.dm_types.specs.Faults.{NoneFell, Rose}
use Rattle.dm_types.specs.declared.kinds.DiskKind.{DiskKind}
use Rattle.dm_edge.specs.declared.fault.NetFault.{NetFault}
use Rattle.dm_edge.specs.Wire.{Closed}
use Rattle.dm_disk_model.specs.Disk.{History as Clock}
use Rattle.dm_disk_model.specs.Moments.{Throughout}

pub record World : Type 0 where
  -- what the disk was at each moment so far
  pub disk : Clock
  -- how often its calls failed, by kind, and those of the net
  pub disk_faults : DiskKind → ℕ
  pub net_faults : NetFault → ℕ
  -- the connections that were made and closed, in the order of closing
  pub closed : List Closed

-- no connection was made
abbrev pub NoneClosed : World → World → Type 0
NoneClosed before after = after.closed ≡ before.closed

-- no count fell, and on a disk that tells what it holds the earlier moments stay
pub record IsLater (tells : Type 0) (before after : World) : Type 0 where
  pub disk_later : NoneFell before.disk_faults after.disk_faults
  pub net_later : NoneFell before.net_faults after.net_faults
  pub moments_stay : tells → Throughout before.disk after.disk (λ disk. Unit {0})

-- some call on the disk failed so
abbrev pub Failed : World → World → DiskKind → Type 0
Failed before after kind = Rose (before.disk_faults kind) (after.disk_faults kind)

-- some call on the net failed so
abbrev pub NetFailed : World → World → NetFault → Type 0
NetFailed before after kind = Rose (before.net_faults kind) (after.net_faults kind)
