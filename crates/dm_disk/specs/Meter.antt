-- The counts of a disk in memory, and which of its calls fail.
use Rattle.std.specs.Prelude.{ℕ, nat_le, Bool, false, List, if◌then◌else◌, Option, Some, None, Result, Ok, Err}
use Rattle.dm_types.specs.declared.kinds.DiskKind.{DiskKind}
use Rattle.dm_types.specs.declared.kinds.DiskKind.TheVariants.{Failed, NoSpace}
use Rattle.dm_disk_model.specs.declared.place.DiskFault.{DiskFault}
use Rattle.dm_disk_model.specs.Counts.{one_more, no_faults, counted}
use Rattle.dm_disk.specs.declared.meter.Meter.{Meter}
use Rattle.dm_disk.specs.declared.failing.FailingCall.{FailingCall}
use Rattle.dm_disk.specs.Failing.{listed_kind}

-- no call was made
abbrev pub new_meter : List FailingCall → Option ℕ → Meter
new_meter failing stop_after = record {
  failing = failing;
  stop_after = stop_after;
  made = 0;
  faults = no_faults;
  far = 0;
  starved = 0;
}

-- no call is made any more
abbrev pub stopped : Option ℕ → ℕ → Bool
stopped None made = false
stopped (Some calls) made = nat_le calls made

-- how the next call is to fail, if it is
abbrev pub due : Meter → Option DiskKind
due meter = if stopped meter.stop_after meter.made then Some Failed else listed_kind meter.made meter.failing

abbrev pub answer_of : Option DiskKind → Result (Unit {0}) DiskFault
answer_of None = Ok tt
answer_of (Some kind) = Err (record { 0 = kind })

-- a fault is counted
abbrev pub failed_once : DiskKind → Meter → Meter
failed_once kind meter = record meter { faults = counted kind meter.faults }

-- a call is counted, and its fault if it has one
abbrev pub begun : Option DiskKind → Meter → Meter
begun None meter = record meter { made = one_more meter.made }
begun (Some kind) meter = failed_once kind (record meter { made = one_more meter.made })

abbrev pub starved_once : Meter → Meter
starved_once meter = failed_once NoSpace (record meter { starved = one_more meter.starved })

abbrev pub refused_once : Meter → Meter
refused_once meter = failed_once NoSpace (record meter { made = one_more meter.made; far = one_more meter.far })
