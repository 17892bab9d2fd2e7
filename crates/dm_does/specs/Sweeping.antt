-- The sweep at the end of a command: parts that no item needs are removed.
use Rattle.std.specs.Prelude.{ℕ, Bool, true, false, List}
use Rattle.dm_types.specs.declared.kinds.DiskKind.{DiskKind}
use Rattle.dm_disk_model.specs.Disk.{DiskState, StandsNot, now}
use Rattle.dm_item.specs.Listing.{Listing}
use Rattle.dm_part.specs.Laws.{files_place}
use Rattle.dm_answers.specs.Sweep.{IsLeftover}
use Rattle.dm_does.specs.declared.job.Job.{Job}
use Rattle.dm_does.specs.declared.job.Job.TheVariants as jobs
use Rattle.dm_does.specs.World.{Failed, World}

-- the jobs behind which a sweep comes: those that may leave a part without an item that needs it
abbrev pub sweeps : Job → Bool
sweeps (jobs.Get order slices) = true
sweeps (jobs.Resume id slices) = true
sweeps (jobs.Cancel id) = true
sweeps (jobs.Remove id) = true
sweeps (jobs.Add order) = false
sweeps (jobs.Pause id) = false
sweeps (jobs.Show id) = false
sweeps jobs.List = false
sweeps jobs.Report = false
sweeps jobs.Export = false

-- no part stands that an item of the list once had and that none needs
abbrev pub HasNoLeftover : DiskState → Listing → Type 0
HasNoLeftover disk list = (name : List ℕ) → IsLeftover list name → StandsNot disk (files_place name)

-- How it came out. What it meets is passed over, since the next opening sweeps again: a call on the disk that failed, which shows in a count, or want of memory, which shows nowhere.
pub data Sweeps (tells : Type 0) (before after : World) (list : Listing) : Type 0 where
  -- on a disk that tells its names none is left at the end
  swept : (tells → HasNoLeftover (now after.disk) list) → Sweeps tells before after list
  hindered : (kind : DiskKind) → Failed before after kind → Sweeps tells before after list
  wanting : Sweeps tells before after list
