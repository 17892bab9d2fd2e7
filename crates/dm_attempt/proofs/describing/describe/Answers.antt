use Rattle.std.proofs.Common.{Err, sym, subst}
use Rattle.dm_store.specs.Origin.{said_of}
use Rattle.dm_attempt.specs.declared.stop.Stop.{Stop}
use Rattle.dm_attempt.specs.Stops.{Refused, stop_by}
use Rattle.dm_attempt.specs.Ends.{DescribeLeaves}
use Rattle.dm_attempt.proofs.Planned.{bare_start, describe_left, none_named, was_named}
use Rattle.dm_attempt.proofs.describing.describe.Goals as goal

pub returns-in-Ok-Named-clause-goes : goal.returns-in-Ok-Named-clause-goes
returns-in-Ok-Named-clause-goes g c scene led lost count head address live none at =
    let D = g.S.D.Disk in
    let view = g.S.Desk.view in
    was_named D.tells D.history (λ o. said_of (g.S.O.Origin.says o)) D.far D.faults scene c.args.pass.now (view c.args.desk.now) (view c.describe.new.self)
    (record { keeps = c.describe.ensures.keeps; near = c.describe.ensures.far; later = c.describe.ensures.cause.later; beside = c.describe.ensures.beside })
    led lost count head c.args.told address none at live c.describe.ensures.was (rw c.in-Ok-Named.field-0-is at c.in-Ok-Named.ensures.answers).1

pub returns-in-Ok-AllTaken-clause-goes : goal.returns-in-Ok-AllTaken-clause-goes
returns-in-Ok-AllTaken-clause-goes g c scene led lost count head address live none at =
    let D = g.S.D.Disk in
    let view = g.S.Desk.view in
    none_named D.tells D.history (λ o. said_of (g.S.O.Origin.says o)) D.far D.faults scene c.args.pass.now (view c.args.desk.now) (view c.describe.new.self)
    (record { keeps = c.describe.ensures.keeps; near = c.describe.ensures.far; later = c.describe.ensures.cause.later; beside = c.describe.ensures.beside })
    led lost count head c.args.told address none at live (rw c.in-Ok-AllTaken.field-0-is at c.in-Ok-AllTaken.ensures.answers).1

pub returns-in-Err-clause-goes : goal.returns-in-Err-clause-goes
returns-in-Err-clause-goes g c scene led lost count head address live none at =
    let D = g.S.D.Disk in
    let view = g.S.Desk.view in
    let old = view c.args.desk.now in
    let new = view c.describe.new.self in
    subst (λ (s : Stop). DescribeLeaves D.tells D.history (λ o. said_of (g.S.O.Origin.says o)) D.far D.faults scene c.args.pass.now old new led lost count head c.args.told address (Err s)) (sym c.stop_of.ensures.is)
    (describe_left D.tells D.history (λ o. said_of (g.S.O.Origin.says o)) D.far D.faults scene c.args.pass.now old new
    (record { keeps = c.describe.ensures.keeps; near = c.describe.ensures.far; later = c.describe.ensures.cause.later; beside = c.describe.ensures.beside })
    led lost count head c.args.told address none at live c.in-Err.fault c.in-Err.ensures.answers c.in-Err.ensures.cause.cause)

pub returns-in-Ok-Named-clause-bare : goal.returns-in-Ok-Named-clause-bare
returns-in-Ok-Named-clause-bare g c scene led lost count live none =
    let D = g.S.D.Disk in
    let view = g.S.Desk.view in
    bare_start D.tells D.history (λ o. said_of (g.S.O.Origin.says o)) D.far D.faults scene c.args.pass.now (view c.args.desk.now) (view c.describe.new.self)
    (record { keeps = c.describe.ensures.keeps; near = c.describe.ensures.far; later = c.describe.ensures.cause.later; beside = c.describe.ensures.beside })
    led lost count none live c.describe.ensures.was

pub returns-in-Ok-AllTaken-clause-bare : goal.returns-in-Ok-AllTaken-clause-bare
returns-in-Ok-AllTaken-clause-bare g c scene led lost count live none =
    let D = g.S.D.Disk in
    let view = g.S.Desk.view in
    bare_start D.tells D.history (λ o. said_of (g.S.O.Origin.says o)) D.far D.faults scene c.args.pass.now (view c.args.desk.now) (view c.describe.new.self)
    (record { keeps = c.describe.ensures.keeps; near = c.describe.ensures.far; later = c.describe.ensures.cause.later; beside = c.describe.ensures.beside })
    led lost count none live c.describe.ensures.was

pub returns-in-Err-clause-bare : goal.returns-in-Err-clause-bare
returns-in-Err-clause-bare g c scene led lost count live none =
    let D = g.S.D.Disk in
    let view = g.S.Desk.view in
    bare_start D.tells D.history (λ o. said_of (g.S.O.Origin.says o)) D.far D.faults scene c.args.pass.now (view c.args.desk.now) (view c.describe.new.self)
    (record { keeps = c.describe.ensures.keeps; near = c.describe.ensures.far; later = c.describe.ensures.cause.later; beside = c.describe.ensures.beside })
    led lost count none live c.describe.ensures.was
