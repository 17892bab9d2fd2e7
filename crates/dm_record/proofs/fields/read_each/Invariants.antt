use Rattle.std.proofs.Common.{◌≡◌, ◌-◌, length}
use Rattle.dm_record.specs.Reading.{times_at, slice_at}
use Rattle.dm_record.proofs.Turns.{with_front}
use Rattle.dm_record.proofs.fields.read_each.Given as goal

abbrev pub invariant-loop : goal.invariant-loop
invariant-loop l = (length l.slices ≡ l.counter) × (with_front l.slices (times_at slice_at (l.count - l.counter) l.rest) ≡ times_at slice_at l.count l.bytes)
