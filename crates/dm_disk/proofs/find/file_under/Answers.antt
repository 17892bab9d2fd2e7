use Rattle.std.proofs.Common.{sym, arith}
use Rattle.dm_disk.specs.declared.find.Back.TheVariants.{Under, Made, Nowhere}
use Rattle.dm_disk.proofs.Looks.{stepped}
use Rattle.dm_disk.proofs.find.file_under.Goals as goal

pub loop-left-preserved : goal.loop-left-preserved
loop-left-preserved c = record {
  within = omega arith;
  same = stepped c.args.calls.now c.loop-left.left c.index-calls-left.result c.args.area c.args.name.now c.loop-left.name.now (Under c.in-Under.other)
      (omega arith) c.loop-left.invariant.within c.index-calls-left.is c.in-Under.ensures c.loop-left.invariant.same;
}

pub returns-in-Made : goal.returns-in-Made
returns-in-Made c =
    sym (stepped c.args.calls.now c.loop-left.left c.index-calls-left.result c.args.area c.args.name.now c.loop-left.name.now Made
    (omega arith) c.loop-left.invariant.within c.index-calls-left.is c.in-Made.ensures c.loop-left.invariant.same)

pub returns-in-Nowhere : goal.returns-in-Nowhere
returns-in-Nowhere c =
    sym (stepped c.args.calls.now c.loop-left.left c.index-calls-left.result c.args.area c.args.name.now c.loop-left.name.now Nowhere
    (omega arith) c.loop-left.invariant.within c.index-calls-left.is c.in-Nowhere.ensures c.loop-left.invariant.same)
