-- Which call of a disk in memory fails.
use Rattle.std.specs.Prelude.{ℕ, List, [], ◌∷◌, Option, Some, None, ◌==◌, if◌then◌else◌}
use Rattle.dm_types.specs.declared.kinds.DiskKind.{DiskKind}
use Rattle.dm_disk.specs.declared.failing.FailingCall.{FailingCall}

-- how the call with this number is listed to fail, by the first that names it
abbrev pub listed_kind : ℕ → List FailingCall → Option DiskKind
listed_kind call [] = None
listed_kind call (listed ∷ later) = if listed.call == call then Some listed.kind else listed_kind call later
