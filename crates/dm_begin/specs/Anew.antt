-- How a part is made anew.
use Rattle.std.specs.Prelude.{◌≡◌, ◌⊎◌, Result, Ok, Err}
use Rattle.dm_disk_model.specs.declared.place.DiskFault.{DiskFault}
use Rattle.dm_disk_model.specs.declared.place.Place.{Place}
use Rattle.dm_disk_model.specs.Disk.{CreateStep, History as Clock, Next, RemoveStep, SyncNamesStep}
use Rattle.dm_part.specs.Runs.{InTurn}

-- a part was removed, or its removal failed
pub record IsRemoval (part : Place) (old new : Clock) : Type 0 where
  pub answer : Result (Unit {0}) DiskFault
  pub run : Next old new (RemoveStep part answer)

-- Then it was made, by the answer; it may have failed before.
abbrev pub IsMaking : Place → Clock → Clock → Result (Unit {0}) DiskFault → Type 0
IsMaking part middle new (Ok done) = InTurn (CreateStep part) (SyncNamesStep part.area) (Ok tt) middle new
IsMaking part middle new (Err fault) = (new ≡ middle) ⊎ InTurn (CreateStep part) (SyncNamesStep part.area) (Err fault) middle new

-- A part was removed where it stood, and then made.
pub record Renews (part : Place) (old new : Clock) (result : Result (Unit {0}) DiskFault) : Type 0 where
  pub middle : Clock
  pub removed : (middle ≡ old) ⊎ IsRemoval part old middle
  pub made : IsMaking part middle new result
