use Rattle.std.proofs.Common.{arith}
use Rattle.dm_disk.proofs.Replay.{most_end_at}
use Rattle.dm_disk.proofs.Contents.{shown_more}
use Rattle.dm_disk.proofs.content.show.Goals as goal

pub lay-requires-clause-end : goal.lay-requires-clause-end
lay-requires-clause-end c =
    let far = most_end_at c.args.calls.now c.loop-number.number c.index-calls-number.result (omega arith) c.index-calls-number.is in
    omega (arith, far, c.requires.ends)

pub loop-number-preserved : goal.loop-number-preserved
loop-number-preserved c =
    shown_more c.args.calls.now c.loop-number.number c.index-calls-number.result c.args.area c.args.file c.args.from c.loop-number.window c.lay.new.window
    (omega arith) c.index-calls-number.is c.lay.ensures c.loop-number.invariant
