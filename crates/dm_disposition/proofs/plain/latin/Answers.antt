use Rattle.std.proofs.Common.{arith}
use Rattle.std.specs.Prelude.{string_bytes}
use Rattle.dm_disposition.proofs.TextLemmas.{latin_more}
use Rattle.dm_disposition.proofs.plain.latin.Goals as goal

pub loop-byte-preserved : goal.loop-byte-preserved
loop-byte-preserved c =
    latin_more c.args.bytes.now (string_bytes c.loop-byte.chars) (string_bytes c.push.new.self) c.loop-byte.byte-index c.from.result (omega arith) c.from.ensures c.loop-byte.invariant c.in_ok-push.ensures.bytes
