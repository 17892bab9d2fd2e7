use Rattle.std.proofs.Common.{◌≡◌, Ok, Err, subst}
use Rattle.std.specs.Prelude.{IfOk}
use Rattle.dm_store.specs.Origin.{said_of}
use Rattle.dm_response.specs.Reply.{trouble_of}
use Rattle.dm_response.specs.declared.reply.ApiReply.{ApiReply}
use Rattle.dm_response.specs.declared.trouble.Trouble.{Trouble}
use Rattle.dm_works.specs.Serving.{service_of}
use Rattle.dm_works.proofs.Archived.{archive_moved, archived, unarchived}
use Rattle.dm_works.proofs.Stepping.{steps_files}
use Rattle.dm_works.proofs.Stops.{once_shows}
use Rattle.dm_works.proofs.recalling.archive.Goals as goal

pub returns-in-Ok-clause-answers : goal.returns-in-Ok-clause-answers
returns-in-Ok-clause-answers g c at =
    let K = g.K.Keeper in
    archived K.tells g.D.Disk.faults (service_of K.rows K.faults c.args.desk.now c.args.keeper.now) (service_of K.rows K.faults c.archive_all.new.desk c.archive_all.new.keeper) at c.archived_reply.result c.in-Ok.count c.in-Ok.ensures.answers
    (Ok c.in-Ok.count) c.in-Ok.ensures.history c.archived_reply.ensures

pub returns-in-Ok-clause-steps : goal.returns-in-Ok-clause-steps
returns-in-Ok-clause-steps g c =
    let K = g.K.Keeper in
    steps_files g.D.Disk.tells g.D.Disk.history g.D.Disk.faults g.D.Disk.far (λ o. said_of (g.O.Origin.says o)) c.args.desk.now c.archive_all.new.desk
    (archive_moved K.tells c.args.desk.now c.archive_all.new.desk (K.rows c.args.keeper.now) (K.rows c.archive_all.new.keeper) (Ok c.in-Ok.count) c.in-Ok.ensures.answers)
    c.archive_all.ensures.keeps c.archive_all.ensures.beside c.in-Ok.ensures.cause.later c.archive_all.ensures.far

pub returns-in-Err-clause-answers : goal.returns-in-Err-clause-answers
returns-in-Err-clause-answers g c at =
    let K = g.K.Keeper in
    unarchived K.tells g.D.Disk.faults (service_of K.rows K.faults c.args.desk.now c.args.keeper.now) (service_of K.rows K.faults c.archive_all.new.desk c.archive_all.new.keeper) at c.trouble_reply.result c.in-Err.fault c.in-Err.ensures.answers
    c.in-Err.ensures.cause c.in-Err.ensures.history
    (subst (λ (trouble : Trouble). IfOk c.trouble_reply.result (λ (reply : ApiReply). reply ≡ trouble_of trouble)) c.trouble_of_archive.ensures c.trouble_reply.ensures)

pub returns-in-Err-clause-steps : goal.returns-in-Err-clause-steps
returns-in-Err-clause-steps g c =
    let K = g.K.Keeper in
    steps_files g.D.Disk.tells g.D.Disk.history g.D.Disk.faults g.D.Disk.far (λ o. said_of (g.O.Origin.says o)) c.args.desk.now c.archive_all.new.desk
    (archive_moved K.tells c.args.desk.now c.archive_all.new.desk (K.rows c.args.keeper.now) (K.rows c.archive_all.new.keeper) (Err c.in-Err.fault) c.in-Err.ensures.answers)
    c.archive_all.ensures.keeps c.archive_all.ensures.beside c.in-Err.ensures.cause.later c.archive_all.ensures.far

pub returns-in-Ok-clause-shows : goal.returns-in-Ok-clause-shows
returns-in-Ok-clause-shows g c =
    let K = g.K.Keeper in
    once_shows g.D.Disk.tells K.tells g.D.Disk.history (λ o. said_of (g.O.Origin.says o)) (service_of K.rows K.faults c.args.desk.now c.args.keeper.now) (service_of K.rows K.faults c.archive_all.new.desk c.archive_all.new.keeper) c.archive_all.ensures.stops

pub returns-in-Err-clause-shows : goal.returns-in-Err-clause-shows
returns-in-Err-clause-shows g c =
    let K = g.K.Keeper in
    once_shows g.D.Disk.tells K.tells g.D.Disk.history (λ o. said_of (g.O.Origin.says o)) (service_of K.rows K.faults c.args.desk.now c.args.keeper.now) (service_of K.rows K.faults c.archive_all.new.desk c.archive_all.new.keeper) c.archive_all.ensures.stops
