use Rattle.dm_reply.proofs.ReadsLemmas.{reads_none, reads_received}
use Rattle.dm_reply.proofs.plain.next.Goals as goal

pub returns-then-is_empty-clause-reads : goal.returns-then-is_empty-clause-reads
returns-then-is_empty-clause-reads g c =
    reads_received c.args.wire.now c.receive.new.self c.receive.result c.receive.new.buf c.receive.ensures.given c.receive.ensures.stays c.receive.ensures.wants

pub returns-else-is_empty-clause-reads : goal.returns-else-is_empty-clause-reads
returns-else-is_empty-clause-reads g c = reads_none _
