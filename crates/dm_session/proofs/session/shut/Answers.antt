use Rattle.std.proofs.Common.{Ok, Err, sym}
use Rattle.dm_store.specs.Origin.{said_of}
use Rattle.dm_works.proofs.Calling.{shut_moved}
use Rattle.dm_works.proofs.Stepping.{steps_files}
use Rattle.dm_session.proofs.Opened.{shut_err, shut_ok}
use Rattle.dm_session.proofs.session.shut.Goals as goal

pub returns-in-Ok-clause-shuts : goal.returns-in-Ok-clause-shuts
returns-in-Ok-clause-shuts g c = record { answer = Ok tt; answers = c.in-Ok.ensures.answers }

pub returns-in-Err-clause-shuts : goal.returns-in-Err-clause-shuts
returns-in-Err-clause-shuts g c = record { answer = Err c.in-Err.field-0; answers = c.in-Err.ensures.answers }

pub returns-in-Ok-clause-broken : goal.returns-in-Ok-clause-broken
returns-in-Ok-clause-broken g c = sym (shut_ok c.args.desk.now c.shut.new.self tt c.in-Ok.ensures.answers)

pub returns-in-Err-clause-broken : goal.returns-in-Err-clause-broken
returns-in-Err-clause-broken g c = sym (shut_err c.args.desk.now c.shut.new.self c.in-Err.field-0 c.in-Err.ensures.answers)

pub returns-in-Ok-clause-steps : goal.returns-in-Ok-clause-steps
returns-in-Ok-clause-steps g c =
    steps_files g.D.Disk.tells g.D.Disk.history g.D.Disk.faults g.D.Disk.far (λ o. said_of (g.O.Origin.says o)) c.args.desk.now c.shut.new.self
    (shut_moved c.args.desk.now c.shut.new.self (Ok tt) c.in-Ok.ensures.answers)
    c.shut.ensures.keeps c.shut.ensures.beside c.shut.ensures.cause.later c.shut.ensures.far

pub returns-in-Err-clause-steps : goal.returns-in-Err-clause-steps
returns-in-Err-clause-steps g c =
    steps_files g.D.Disk.tells g.D.Disk.history g.D.Disk.faults g.D.Disk.far (λ o. said_of (g.O.Origin.says o)) c.args.desk.now c.shut.new.self
    (shut_moved c.args.desk.now c.shut.new.self (Err c.in-Err.field-0) c.in-Err.ensures.answers)
    c.shut.ensures.keeps c.shut.ensures.beside c.shut.ensures.cause.later c.shut.ensures.far
