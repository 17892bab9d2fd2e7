use Rattle.std.proofs.Common.{arith}
use Rattle.dm_reply.proofs.AheadLemmas.{continues_none}
use Rattle.dm_reply.proofs.ReadsLemmas.{reads_none}
use Rattle.dm_reply.proofs.receiving.receive_on.Goals as goal

pub loop-fault-init : goal.loop-fault-init
loop-fault-init g c = record {
  size = omega arith;
  room = c.requires;
  on = λ tells. continues_none (g.W.Wire.told c.args.wire.now) c.args.ahead.now;
  reads = reads_none _;
  later = λ kind. omega arith;
}
