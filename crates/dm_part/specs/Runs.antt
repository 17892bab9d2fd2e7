-- Two calls on a disk, one after the other.
use Rattle.std.specs.Prelude.{◌⊎◌, Result, Ok, Err}
use Rattle.dm_disk_model.specs.declared.place.DiskFault.{DiskFault}
use Rattle.dm_disk_model.specs.Disk.{DiskState, History, Next}

-- What a call does, by its answer.
abbrev pub Call : Type 1
Call = Result (Unit {0}) DiskFault → DiskState → DiskState → Type 0

-- the first step was taken, and then the second
pub record Twice (old new : History) (first second : DiskState → DiskState → Type 0) : Type 0 where
  pub middle : History
  pub before : Next old middle first
  pub after : Next middle new second

-- Two calls, of which the second is made where the first answered Ok, and the answer is that of the last one made.
abbrev pub InTurn : Call → Call → Result (Unit {0}) DiskFault → History → History → Type 0
InTurn first second (Ok done) old new = Twice old new (first (Ok tt)) (second (Ok tt))
InTurn first second (Err fault) old new = Next old new (first (Err fault)) ⊎ Twice old new (first (Ok tt)) (second (Err fault))
