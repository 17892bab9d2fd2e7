-- The numbers of the kinds of entries.
use Rattle.std.specs.Prelude.{ℕ}
use Rattle.dm_types.specs.declared.entry.Entry.{Entry}
use Rattle.dm_types.specs.declared.entry.Entry.TheVariants.{Added, Began, Described, Progress, Broke, Paused, Cancelled, Restarted, Finishing, Done, Removed, Archived, Reopened, Restored, Asked}

-- the number of an entry's kind, which its bytes begin with
abbrev pub kind_of : Entry → ℕ
kind_of (Added id word address wish digest at) = 1
kind_of (Began id attempt by at) = 2
kind_of (Described id key last_address total name modified) = 3
kind_of (Progress id slices) = 4
kind_of (Broke id reason) = 5
kind_of (Paused id) = 6
kind_of (Cancelled id) = 7
kind_of (Restarted id epoch because) = 8
kind_of (Finishing id total) = 9
kind_of (Done id digest at) = 10
kind_of (Removed id) = 11
kind_of (Archived id) = 12
kind_of (Reopened next at) = 13
kind_of (Restored item) = 14
kind_of (Asked id) = 15
