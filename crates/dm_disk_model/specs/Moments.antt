-- What holds of a disk at each moment of a call or of several.
use Rattle.std.specs.Prelude.{◌≡◌, ◌≢◌, ℕ, ◌≤◌}
use Rattle.dm_disk_model.specs.declared.place.Place.{Place}
use Rattle.dm_disk_model.specs.Disk.{DiskState, Image, History, MayLeave, ChangesOnly, now}
use Rattle.dm_disk_model.specs.Names.{NeverStands}

-- at each moment from the old history's present on, up to the new one's
pub record Throughout (old new : History) (P : DiskState → Type 0) : Type 0 where
  pub later : old.moment ≤ new.moment
  pub kept : (t : ℕ) → t ≤ old.moment → new.at t ≡ old.at t
  pub each : (t : ℕ) → old.moment ≤ t → t ≤ new.moment → P (new.at t)

-- A crash at any moment from the old history's present on leaves only images that have P.
abbrev pub LeavesOnly : History → History → (Image → Type 0) → Type 0
LeavesOnly old new P = Throughout old new (λ disk. (image : Image) → MayLeave disk image → P image)

-- The user's files are as they were, at each moment.
abbrev pub KeepsFiles : History → History → Type 0
KeepsFiles old new = Throughout old new (λ disk. disk.files ≡ (now old).files)

-- Whatever is done at one place: every other place reads as before, and a name that never stands stays so at each moment.
pub record KeepsOthers (place : Place) (old new : History) : Type 0 where
  pub others : ChangesOnly place (now old) (now new)
  pub absent : (target : Place) → target.name ≢ place.name → NeverStands target (now old) → Throughout old new (NeverStands target)

-- Since a start every moment is good, and now this holds.
pub record Reached (start present : History) (Good S : DiskState → Type 0) : Type 0 where
  pub through : Throughout start present Good
  pub here : S (now present)
