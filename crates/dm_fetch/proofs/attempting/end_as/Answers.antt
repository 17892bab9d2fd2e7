use Rattle.std.proofs.Common.{true}
use Rattle.dm_store.specs.Origin.{said_of}
use Rattle.dm_fetch.proofs.Ends.{tried_by}
use Rattle.dm_fetch.proofs.attempting.end_as.Goals as goal

pub returns-in-Ok : goal.returns-in-Ok
returns-in-Ok g c scene before slices leaves = let left = rw c.in-Ok.is at leaves in record { trace = left.trace; asks = left.asks; closed_is = left.closed_is; came = true; some = λ came. left.finished.some; all = λ came. left.asks; ends = left.finished }

pub returns-in-Err : goal.returns-in-Err
returns-in-Err g c scene before slices leaves =
    let D = g.S.D.Disk in
    let N = g.N.Net in
    let left = rw c.in-Err.is at leaves in
    tried_by D.tells D.history (λ o. said_of (g.S.O.Origin.says o)) D.far D.faults N.tells scene c.args.pass.now (g.S.Desk.view c.args.desk.now) (g.S.Desk.view c.end.new.desk) (N.closed c.args._net.now) before (N.faults c.args._net.now) slices c.in-Err.stop left c.end.result
    (c.end.ensures.goes scene left.trace left.came left.holds)
