use Rattle.dm_generated.specs.Replies.{stream_with}
use Rattle.dm_generated_net.proofs.Giving.{received, stream_small}
use Rattle.std.proofs.Common.{length, arith}
use Rattle.dm_generated_net.proofs.wire.GeneratedWireWire.receive.Goals as goal

pub returns-clause-given : goal.returns-clause-given
returns-clause-given c =
    let w = c.self.inside in
    rw (← c.self.view_is) (received w.given (length c.args.buf.now) c.give-count.result (stream_with w.number w.wire w.reply) w.sent c.give-count.new.buf c.give-count.ensures c.give-count.auto.buf)

pub overflow_add-self : goal.overflow_add-self
overflow_add-self c =
    let w = c.self.inside in
    let small = stream_small w.number w.wire w.reply c.self.invariant.good in
    omega (arith, small, c.give-count.ensures.within)
