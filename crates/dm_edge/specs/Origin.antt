-- The content of a rehearsal.
use Rattle.std.specs.Prelude.{ℕ, ◌+◌, ◌*◌, ◌/◌, ◌%◌, ◌^◌}

-- the byte at a place of the content that a number generates: the highest eight of 64 bits
abbrev pub generated_byte : ℕ → ℕ → ℕ
generated_byte seed place = (((place + 1) * 6364136223846793005 + seed * 1442695040888963407) % (2 ^ 64)) / (2 ^ 56)
