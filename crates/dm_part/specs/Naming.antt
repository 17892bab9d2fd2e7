-- The names of parts, read.
use Rattle.std.specs.Prelude.{◌≡◌, ℕ, ◌^◌, ◌<◌}
use Rattle.dm_types.specs.Name.{part_name}

-- a name is that of one item's part at most, in one of its epochs
abbrev pub OnePart : Type 0
OnePart = (id epoch other later : ℕ) → id < 2 ^ 32 → epoch < 2 ^ 32 → other < 2 ^ 32 → later < 2 ^ 32
    → part_name id epoch ≡ part_name other later → (id ≡ other) × (epoch ≡ later)
