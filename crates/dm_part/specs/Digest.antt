-- Why a part has no digest.
use Rattle.std.specs.Prelude.{◌≡◌, ℕ, Option, Some, None}
use Rattle.dm_types.specs.declared.kinds.DiskKind.{DiskKind}
use Rattle.dm_part.specs.declared.hashing.PartFault.{PartFault}
use Rattle.dm_part.specs.declared.hashing.PartFault.TheVariants.{Disk, Short}

-- a part that is too short is counted nowhere
abbrev pub part_kind : PartFault → Option DiskKind
part_kind (Disk kind) = Some kind
part_kind (Short place) = None

-- the fault says that the part ends at this place
abbrev pub EndsAt : PartFault → ℕ → Type 0
EndsAt (Disk kind) place = ⊥
EndsAt (Short end) place = place ≡ end
