-- Where the part of an item lies.
use Rattle.std.specs.Prelude.{ℕ}
use Rattle.dm_types.specs.Name.{part_name}
use Rattle.dm_disk_model.specs.declared.place.Area.TheVariants.{Files}
use Rattle.dm_disk_model.specs.declared.place.Place.{Place}

-- the place of an item's part in one of its epochs
abbrev pub part_place : ℕ → ℕ → Place
part_place id epoch = record { area = Files; name = part_name id epoch }
