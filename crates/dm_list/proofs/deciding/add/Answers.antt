use Rattle.dm_store.specs.Origin.{said_of}
use Rattle.dm_list.proofs.Courses.{add_decided, add_shows, goes_still}
use Rattle.dm_list.proofs.deciding.add.Goals as goal

pub returns-clause-decides : goal.returns-clause-decides
returns-clause-decides g c =
    add_decided g.D.Disk.tells g.D.Disk.history c.args.desk.now c.add-answer.new.self c.args.order c.args.at c.add-answer.result c.course_of_add.result c.requires.desk c.requires.whole c.add-answer.ensures.answers c.course_of_add.ensures

pub returns-clause-goes : goal.returns-clause-goes
returns-clause-goes g c =
    goes_still g.D.Disk.tells g.D.Disk.history g.D.Disk.faults g.D.Disk.far (λ o. said_of (g.O.Origin.says o)) c.args.desk.now c.add-answer.new.self c.add-answer.ensures.keeps c.add-answer.ensures.beside c.add-answer.ensures.cause.later c.add-answer.ensures.far

pub returns-clause-shows : goal.returns-clause-shows
returns-clause-shows g c = add_shows (g.D.Disk.faults c.args.desk.now.disk) (g.D.Disk.faults c.add-answer.new.self.disk) c.add-answer.result c.course_of_add.result c.course_of_add.ensures c.add-answer.ensures.cause
