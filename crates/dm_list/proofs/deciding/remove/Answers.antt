use Rattle.dm_store.specs.Origin.{said_of}
use Rattle.dm_does.specs.declared.course.Show.TheVariants.{Nothing}
use Rattle.dm_list.proofs.Courses.{change_shows, goes_still, remove_decided}
use Rattle.dm_list.proofs.deciding.remove.Goals as goal

pub returns-clause-decides : goal.returns-clause-decides
returns-clause-decides g c at = remove_decided c.args.desk.now c.remove-answer.new.self c.args.id at c.remove-answer.result c.course_of_change.result c.requires.whole c.remove-answer.ensures.answers c.course_of_change.ensures

pub returns-clause-goes : goal.returns-clause-goes
returns-clause-goes g c =
    goes_still g.D.Disk.tells g.D.Disk.history g.D.Disk.faults g.D.Disk.far (λ o. said_of (g.O.Origin.says o)) c.args.desk.now c.remove-answer.new.self c.remove-answer.ensures.keeps c.remove-answer.ensures.beside c.remove-answer.ensures.cause.later c.remove-answer.ensures.far

pub returns-clause-shows : goal.returns-clause-shows
returns-clause-shows g c = change_shows (g.D.Disk.faults c.args.desk.now.disk) (g.D.Disk.faults c.remove-answer.new.self.disk) Nothing c.remove-answer.result c.course_of_change.result c.course_of_change.ensures c.remove-answer.ensures.cause
