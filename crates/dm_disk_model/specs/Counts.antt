-- How often the calls of a disk failed, by kind.
use Rattle.std.specs.Prelude.{ℕ, ◌+◌, ◌-◌, ◌^◌, max, min}
use Rattle.dm_types.specs.declared.kinds.DiskKind.{DiskKind}
use Rattle.dm_types.specs.declared.kinds.DiskKind.TheVariants.{Failed, Denied, NoSpace, NameTooLong}
use Rattle.dm_disk_model.specs.declared.counts.KindCounts.{KindCounts}

-- a count after one more; at its last value it stays
abbrev pub one_more : ℕ → ℕ
one_more count = max count (min (count + 1) (2 ^ 64 - 1))

abbrev pub count_of : KindCounts → DiskKind → ℕ
count_of counts Failed = counts.failed
count_of counts Denied = counts.denied
count_of counts NoSpace = counts.no_space
count_of counts NameTooLong = counts.name_too_long

-- nothing has failed
abbrev pub no_faults : KindCounts
no_faults = record { failed = 0; denied = 0; no_space = 0; name_too_long = 0 }

-- after one more failure of this kind
abbrev pub counted : DiskKind → KindCounts → KindCounts
counted Failed counts = record counts { failed = one_more counts.failed }
counted Denied counts = record counts { denied = one_more counts.denied }
counted NoSpace counts = record counts { no_space = one_more counts.no_space }
counted NameTooLong counts = record counts { name_too_long = one_more counts.name_too_long }
