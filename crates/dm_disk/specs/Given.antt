-- The names that calls gave, and how the list of those that stand grows.
use Rattle.std.specs.Prelude.{◌≡◌, ◌⊎◌, ℕ, List, [], ◌∷◌, ◌++◌, Option, Some, None, IsSome, Contains}
use Rattle.dm_disk_model.specs.Folder.{Names}
use Rattle.dm_disk_model.specs.declared.place.Area.{Area}
use Rattle.dm_disk_model.specs.declared.place.Area.TheVariants.{State, Files}
use Rattle.dm_disk.specs.declared.call.Call.{Call}
use Rattle.dm_disk.specs.declared.call.Act.{Act}
use Rattle.dm_disk.specs.declared.call.Act.TheVariants.{Create, Write, Sync, Rename, Remove, SyncNames}

-- the name that a call gave in its folder
abbrev pub name_of : Act → Option (List ℕ)
name_of (Create name) = Some name
name_of (Write file at bytes) = None
name_of (Sync file) = None
name_of (Rename from to) = Some to
name_of (Remove name) = None
name_of SyncNames = None

-- what is in one folder, seen from another
abbrev pub only_in : {T : Type 0} → Area → Area → Option T → Option T
only_in State State found = found
only_in Files Files found = found
only_in State Files found = None
only_in Files State found = None

-- the name that a call gave in this folder
abbrev pub given_by : Area → Call → Option (List ℕ)
given_by area call = only_in area call.area (name_of call.act)

-- The name was listed if it stands and wasn't. Nothing else was.
pub record HasListed (standing : Names) (name : List ℕ) (old new : List (List ℕ)) : Type 0 where
  pub kept : (other : List ℕ) → Contains old other → Contains new other
  pub listed : IsSome (standing name) → Contains new name
  pub others : (new ≡ old) ⊎ ((new ≡ old ++ name ∷ []) × IsSome (standing name) × (Contains old name → ⊥))
