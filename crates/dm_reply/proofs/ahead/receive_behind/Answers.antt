use Rattle.std.proofs.Common.{arith}
use Rattle.dm_reply.proofs.ReadsLemmas.{reads_received}
use Rattle.dm_reply.proofs.AheadLemmas.{receive_grows}
use Rattle.dm_reply.proofs.ahead.receive_behind.Goals as goal

pub returns-clause-told : goal.returns-clause-told
returns-clause-told g c tells =
    receive_grows c.receive.result (g.W.Wire.told c.args.wire.now) (g.W.Wire.told c.receive.new.self) c.args.end c.args.buffer.now c.receive.new.buf
    (omega arith) c.receive.auto.buf (c.receive.ensures.given tells) c.receive.ensures.within

pub returns-clause-reads : goal.returns-clause-reads
returns-clause-reads g c =
    reads_received c.args.wire.now c.receive.new.self c.receive.result c.receive.new.buf c.receive.ensures.given c.receive.ensures.stays c.receive.ensures.wants
