use Rattle.dm_store.specs.Origin.{said_of}
use Rattle.dm_does.specs.declared.course.Show.TheVariants.{Line}
use Rattle.dm_list.proofs.Courses.{change_shows, goes_parts, pause_decided}
use Rattle.dm_list.proofs.deciding.pause.Goals as goal

pub returns-clause-decides : goal.returns-clause-decides
returns-clause-decides g c at =
    pause_decided g.D.Disk.faults c.args.desk.now c.pause-answer.new.self c.args.id at c.pause-answer.result c.course_of_change.result c.requires.whole c.requires.idle c.pause-answer.ensures.answers c.course_of_change.ensures

pub returns-clause-goes : goal.returns-clause-goes
returns-clause-goes g c =
    goes_parts g.D.Disk.tells g.D.Disk.history g.D.Disk.faults g.D.Disk.far (λ o. said_of (g.O.Origin.says o)) c.args.desk.now c.pause-answer.new.self c.pause-answer.ensures.keeps c.pause-answer.ensures.beside c.pause-answer.ensures.cause.later c.pause-answer.ensures.far

pub returns-clause-shows : goal.returns-clause-shows
returns-clause-shows g c = change_shows (g.D.Disk.faults c.args.desk.now.disk) (g.D.Disk.faults c.pause-answer.new.self.disk) (Line c.args.id) c.pause-answer.result c.course_of_change.result c.course_of_change.ensures c.pause-answer.ensures.cause
