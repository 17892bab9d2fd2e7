use Rattle.dm_attempt.specs.Trace.{opened, with_saves}
use Rattle.dm_store.specs.Origin.{said_of}
use Rattle.dm_attempt.proofs.Steps.{later_leaves}
use Rattle.dm_attempt.proofs.landing.save_and_land.Goals as goal

pub land_saved-requires-clause-said : goal.land_saved-requires-clause-said
land_saved-requires-clause-said g c = c.in-Ok.ensures.said c.args.at c.args.piece.now c.requires.said

pub returns-in-Ok-clause-goes : goal.returns-in-Ok-clause-goes
returns-in-Ok-clause-goes g c scene older round live next turn_is =
    let D = g.S.D.Disk in
    let saved = c.in-Ok.ensures.goes scene (opened older round) live in
    later_leaves D.tells D.history (λ o. said_of (g.S.O.Origin.says o)) D.far D.faults scene c.args.going.now.pass (g.S.Desk.view c.land_saved.new.desk) older saved.0 round c.args.part.now.index c.args.piece.now c.land_saved.result
    (c.land_saved.ensures.goes scene (with_saves older saved.0) round saved.1 next turn_is)

pub returns-in-Err-clause-goes : goal.returns-in-Err-clause-goes
returns-in-Err-clause-goes g c scene older round live next turn_is = (older.saves, c.in-Err.ensures.goes scene (opened older round) live)
