use Rattle.std.proofs.Common.{arith}
use Rattle.dm_disk.proofs.Replay.{most_end_at}
use Rattle.dm_disk.proofs.Contents.{grown_more}
use Rattle.dm_disk.proofs.content.length_of.Goals as goal

pub length_after-so_far-requires : goal.length_after-so_far-requires
length_after-so_far-requires c =
    let far = most_end_at c.args.calls.now c.loop-number.number c.index-calls-number.result (omega arith) c.index-calls-number.is in
    omega (arith, far, c.requires)

pub loop-number-preserved : goal.loop-number-preserved
loop-number-preserved c = record {
  is = grown_more c.args.calls.now c.loop-number.number c.index-calls-number.result c.args.area c.args.file c.loop-number.so_far c.length_after-so_far.result
      (omega arith) c.index-calls-number.is c.length_after-so_far.ensures.is c.loop-number.invariant.is;
  near = c.length_after-so_far.ensures.near c.loop-number.invariant.near;
}
