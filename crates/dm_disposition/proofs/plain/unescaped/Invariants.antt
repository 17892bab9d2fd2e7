use Rattle.std.proofs.Common.{◌≡◌, ◌++◌, drop, false}
use Rattle.dm_disposition.specs.Machine.{unescaped}
use Rattle.dm_disposition.proofs.plain.unescaped.Given as goal

abbrev pub invariant-loop-byte : goal.invariant-loop-byte
invariant-loop-byte l = l.bytes.items ++ unescaped l.escaped (drop l.byte-index l.inner) ≡ unescaped false l.inner
