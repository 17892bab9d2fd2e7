-- Entries behind which no attempt of their item runs, and which owe nothing of the files.
use Rattle.std.specs.Prelude.{Bool, true, false}
use Rattle.dm_types.specs.declared.entry.Entry.{Entry}
use Rattle.dm_types.specs.declared.entry.Entry.TheVariants as entries

-- The item waits, is done with or is brought anew behind the entry, whatever its files are.
abbrev pub is_idle : Entry → Bool
is_idle (entries.Paused id) = true
is_idle (entries.Cancelled id) = true
is_idle (entries.Restarted id epoch because) = true
is_idle (entries.Removed id) = true
is_idle (entries.Archived id) = true
is_idle (entries.Asked id) = true
is_idle (entries.Added id word address wish digest at) = false
is_idle (entries.Began id attempt by at) = false
is_idle (entries.Described id key last_address total name modified) = false
is_idle (entries.Progress id slices) = false
is_idle (entries.Broke id reason) = false
is_idle (entries.Finishing id total) = false
is_idle (entries.Done id digest at) = false
is_idle (entries.Reopened next at) = false
is_idle (entries.Restored item) = false
