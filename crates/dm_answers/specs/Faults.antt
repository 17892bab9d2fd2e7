-- The kinds that a desk's faults have, and the faults of passes that are refused.
use Rattle.std.specs.Prelude.{Bool, true, false, Option, Some, None, Result, Err}
use Rattle.dm_types.specs.declared.kinds.DiskKind.{DiskKind}
use Rattle.dm_store.specs.declared.pass.Gone.{Gone}
use Rattle.dm_store.specs.declared.pass.Gone.TheVariants as gones
use Rattle.dm_answers.specs.declared.fault.DeskFault.{DeskFault}
use Rattle.dm_answers.specs.declared.fault.DeskFault.TheVariants as faults
use Rattle.dm_answers.specs.declared.fault.OpenFault.{OpenFault}
use Rattle.dm_answers.specs.declared.fault.OpenFault.TheVariants as opens

-- the kind that the disk counts
abbrev pub desk_kind : DeskFault → Option DiskKind
desk_kind (faults.File kind) = Some kind
desk_kind (faults.Journal kind) = Some kind
desk_kind (faults.NoItem id) = None
desk_kind (faults.WrongState phase) = None
desk_kind (faults.Stale attempt round) = None
desk_kind (faults.NotNext place) = None
desk_kind (faults.PastEnd end) = None
desk_kind (faults.CheckpointDue bytes) = None
desk_kind (faults.ItemsFull count) = None
desk_kind (faults.WordTaken id) = None
desk_kind faults.Broken = None
desk_kind faults.NoMemory = None
desk_kind (faults.Damaged place) = None

abbrev pub open_kind : {D : Type 0} → OpenFault D → Option DiskKind
open_kind (opens.Disk kind disk) = Some kind
open_kind (opens.Damaged place disk) = None
open_kind (opens.NoMemory disk) = None

-- what is answered to a pass that is refused
abbrev pub fault_of : Gone → DeskFault
fault_of (gones.NoItem id) = faults.NoItem id
fault_of (gones.Stale attempt round) = faults.Stale attempt round

-- the fault comes of the disk or of the memory
abbrev pub IsOutside : DeskFault → Type 0
IsOutside (faults.File kind) = Unit {0}
IsOutside (faults.Journal kind) = Unit {0}
IsOutside faults.NoMemory = Unit {0}
IsOutside _ = ⊥

-- the fault comes of the journal
abbrev pub IsOfJournal : DeskFault → Type 0
IsOfJournal (faults.Journal kind) = Unit {0}
IsOfJournal _ = ⊥

-- a refusal that comes from outside, which may stand in the place of another answer
abbrev pub is_free : {A : Type 0} → Result A DeskFault → Bool
is_free (Err (faults.File kind)) = true
is_free (Err (faults.Journal kind)) = true
is_free (Err faults.NoMemory) = true
is_free _ = false
