-- The crash between the two sessions of a rehearsal.
use Rattle.std.specs.Prelude.{ℕ, ◌%◌, ◌==◌, if◌then◌else◌}
use Rattle.dm_disk.specs.declared.image.Pick.{Pick}
use Rattle.dm_disk.specs.declared.image.Pick.TheVariants.{Least, Present}

-- the least image where the number is even, and the disk as it reads where it is odd
abbrev pub pick_of : ℕ → Pick
pick_of number = if number % 2 == 0 then Least else Present
