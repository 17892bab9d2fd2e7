use Rattle.std.proofs.Common.{◌≡◌, drop}
use Rattle.dm_reply.specs.Lines.{lines_after, untold}
use Rattle.dm_reply.proofs.lines.Lines.after.Given as goal

abbrev pub invariant-loop-byte : goal.invariant-loop-byte
invariant-loop-byte l = lines_after l.lines (drop l.byte-index l.bytes) ≡ lines_after (untold l.fn.self) l.bytes
