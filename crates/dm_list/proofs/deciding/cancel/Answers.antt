use Rattle.dm_store.specs.Origin.{said_of}
use Rattle.dm_does.specs.declared.course.Show.TheVariants.{Line}
use Rattle.dm_list.proofs.Courses.{cancel_decided, change_shows, goes_still}
use Rattle.dm_list.proofs.deciding.cancel.Goals as goal

pub returns-clause-decides : goal.returns-clause-decides
returns-clause-decides g c at = cancel_decided c.args.desk.now c.cancel-answer.new.self c.args.id at c.cancel-answer.result c.course_of_change.result c.requires.whole c.cancel-answer.ensures.answers c.course_of_change.ensures

pub returns-clause-goes : goal.returns-clause-goes
returns-clause-goes g c =
    goes_still g.D.Disk.tells g.D.Disk.history g.D.Disk.faults g.D.Disk.far (λ o. said_of (g.O.Origin.says o)) c.args.desk.now c.cancel-answer.new.self c.cancel-answer.ensures.keeps c.cancel-answer.ensures.beside c.cancel-answer.ensures.cause.later c.cancel-answer.ensures.far

pub returns-clause-shows : goal.returns-clause-shows
returns-clause-shows g c = change_shows (g.D.Disk.faults c.args.desk.now.disk) (g.D.Disk.faults c.cancel-answer.new.self.disk) (Line c.args.id) c.cancel-answer.result c.course_of_change.result c.course_of_change.ensures c.cancel-answer.ensures.cause
