use Rattle.std.proofs.Common.{◌≡◌, drop}
use Rattle.dm_disposition.specs.Machine.{digits_behind}
use Rattle.dm_disposition.proofs.extended.are_chars.Given as goal

abbrev pub invariant-loop-byte : goal.invariant-loop-byte
invariant-loop-byte l = digits_behind l.digits (drop l.byte-index l.bytes) ≡ digits_behind 0 l.bytes
