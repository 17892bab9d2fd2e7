-- Entries that add a new item.
use Rattle.std.specs.Prelude.{Bool, true, false}
use Rattle.dm_types.specs.declared.entry.Entry.{Entry}
use Rattle.dm_types.specs.declared.entry.Entry.TheVariants as entries

-- the entry adds a new item
abbrev pub is_new : Entry → Bool
is_new (entries.Added id word address wish digest at) = true
is_new _ = false
