use Rattle.std.proofs.Common.{arith, ◌∷◌, [], length-append}
use Rattle.std.proofs.lemmas.Result.{err_from_is_err_and}
use Rattle.dm_record.specs.Reading.{times_at, slice_at}
use Rattle.dm_record.proofs.Turns.{goes_on, ends, is_done}
use Rattle.dm_record.proofs.fields.read_each.Goals as goal

pub returns-in_err-slice : goal.returns-in_err-slice
returns-in_err-slice c =
    let p = err_from_is_err_and c.from_residual.result c.from_residual.ensures.1 in
    rw (p.1, p.2) (ends slice_at c.in_err-slice.field-0.0 c.loop.slices c.args.count c.loop.counter c.loop.rest.now (times_at slice_at c.args.count c.args.bytes.now) c.loop-test.true c.in_err-slice.ensures c.loop.invariant.1)

pub loop-preserved : goal.loop-preserved
loop-preserved c =
    rw c.in_ok-push.ensures.ok (
      omega (arith, length-append c.loop.slices (c.in_ok-slice.slice ∷ []), c.loop.invariant.0),
      goes_on slice_at c.loop.slices c.args.count c.loop.counter c.loop.rest.now c.in_ok-slice.slice c.in_ok-slice.after.now (times_at slice_at c.args.count c.args.bytes.now) c.loop-test.true c.in_ok-slice.ensures c.loop.invariant.1,
    )

pub returns : goal.returns
returns c = is_done slice_at c.loop.slices c.args.count c.loop.counter c.loop.rest.now (times_at slice_at c.args.count c.args.bytes.now) c.loop-test.false c.loop.invariant.1
