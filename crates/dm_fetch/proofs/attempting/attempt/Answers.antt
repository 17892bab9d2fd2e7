use Rattle.std.proofs.Common.{inr, refl}
use Rattle.dm_store.specs.Origin.{said_of}
use Rattle.dm_fetch.proofs.Smooth.{completes_or}
use Rattle.dm_fetch.proofs.attempting.attempt.Goals as goal

pub returns-clause-completes : goal.returns-clause-completes
returns-clause-completes g c smooth =
    let D = g.S.D.Disk in
    let N = g.N.Net in
    let view = g.S.Desk.view in
    completes_or D.tells D.history (λ o. said_of (g.S.O.Origin.says o)) D.far D.faults N.tells (view c.args.desk.now) (view c.attempt_with-ended.new.desk) (N.closed c.args.net.now) (N.closed c.attempt_with-ended.new.net)
    (N.faults c.args.net.now) (N.faults c.attempt_with-ended.new.net) c.args.id c.args.by c.args.slices c.args.at g.met.S.D.Disk.sound c.requires.some smooth c.attempt_with-ended.result c.attempt_with-ended.ensures.did

pub returns-in-Err-clause-completes : goal.returns-in-Err-clause-completes
returns-in-Err-clause-completes g c smooth = inr refl
