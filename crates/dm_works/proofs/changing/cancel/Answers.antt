use Rattle.std.proofs.Common.{true, sym, subst, Ok, Err}
use Rattle.dm_types.specs.declared.entry.Entry.TheVariants as entries
use Rattle.dm_item.specs.Row.{is_cancelled}
use Rattle.dm_store.specs.Origin.{said_of}
use Rattle.dm_does.specs.declared.job.Job.TheVariants as jobs
use Rattle.dm_does.specs.declared.course.Show.TheVariants.{Line}
use Rattle.dm_does.specs.Doing.{does}
use Rattle.dm_does.proofs.Decisions.{given_of}
use Rattle.dm_works.specs.Deciding.{DecidesNow}
use Rattle.dm_works.proofs.Calling.{change_moved}
use Rattle.dm_works.proofs.Settling.{cancel_now, swept_now}
use Rattle.dm_works.proofs.Stepping.{steps_files, steps_then}
use Rattle.dm_works.proofs.changing.cancel.Goals as goal

pub returns-in-Ok-clause-decides : goal.returns-in-Ok-clause-decides
returns-in-Ok-clause-decides g c at =
    swept_now g.D.Disk.faults (does (jobs.Cancel c.args.id) (given_of c.args.desk.now at)) c.args.desk.now c.cancel.new.self c.sweep.new.desk (Line c.args.id) c.sweep.ensures.still
    (cancel_now g.D.Disk.tells g.D.Disk.history g.D.Disk.faults c.args.desk.now c.cancel.new.self at c.args.id (Ok tt) c.in-Ok.ensures.answers c.in-Ok.ensures.cause)

pub returns-in-Ok-clause-steps : goal.returns-in-Ok-clause-steps
returns-in-Ok-clause-steps g c =
    steps_then g.D.Disk.tells g.D.Disk.history g.D.Disk.faults g.D.Disk.far (λ o. said_of (g.O.Origin.says o)) c.args.desk.now c.cancel.new.self c.sweep.new.desk
    (steps_files g.D.Disk.tells g.D.Disk.history g.D.Disk.faults g.D.Disk.far (λ o. said_of (g.O.Origin.says o)) c.args.desk.now c.cancel.new.self
    (change_moved is_cancelled (entries.Cancelled c.args.id) c.args.id c.args.desk.now c.cancel.new.self (Ok tt) tt c.in-Ok.ensures.answers)
    c.cancel.ensures.keeps c.cancel.ensures.beside c.cancel.ensures.cause.later c.cancel.ensures.far)
    c.sweep.ensures.steps

pub returns-in-Err-clause-decides : goal.returns-in-Err-clause-decides
returns-in-Err-clause-decides g c at =
    subst (DecidesNow g.D.Disk.faults true (does (jobs.Cancel c.args.id) (given_of c.args.desk.now at)) c.args.desk.now c.cancel.new.self) (sym c.refused.ensures)
    (cancel_now g.D.Disk.tells g.D.Disk.history g.D.Disk.faults c.args.desk.now c.cancel.new.self at c.args.id (Err c.in-Err.fault) c.in-Err.ensures.answers c.in-Err.ensures.cause)

pub returns-in-Err-clause-steps : goal.returns-in-Err-clause-steps
returns-in-Err-clause-steps g c =
    steps_files g.D.Disk.tells g.D.Disk.history g.D.Disk.faults g.D.Disk.far (λ o. said_of (g.O.Origin.says o)) c.args.desk.now c.cancel.new.self
    (change_moved is_cancelled (entries.Cancelled c.args.id) c.args.id c.args.desk.now c.cancel.new.self (Err c.in-Err.fault) tt c.in-Err.ensures.answers)
    c.cancel.ensures.keeps c.cancel.ensures.beside c.cancel.ensures.cause.later c.cancel.ensures.far
