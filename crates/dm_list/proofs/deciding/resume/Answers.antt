use Rattle.dm_store.specs.Origin.{said_of}
use Rattle.dm_list.proofs.Courses.{goes_still, resume_decided, resume_shows}
use Rattle.dm_list.proofs.deciding.resume.Goals as goal

pub returns-clause-decides : goal.returns-clause-decides
returns-clause-decides g c at =
    resume_decided c.args.desk.now c.resume-answer.new.self c.args.id c.args.slices at c.resume-answer.result c.course_of_resume.result c.requires.whole c.resume-answer.ensures.answers c.course_of_resume.ensures

pub returns-clause-goes : goal.returns-clause-goes
returns-clause-goes g c =
    goes_still g.D.Disk.tells g.D.Disk.history g.D.Disk.faults g.D.Disk.far (λ o. said_of (g.O.Origin.says o)) c.args.desk.now c.resume-answer.new.self c.resume-answer.ensures.keeps c.resume-answer.ensures.beside c.resume-answer.ensures.cause.later c.resume-answer.ensures.far

pub returns-clause-shows : goal.returns-clause-shows
returns-clause-shows g c =
    resume_shows (g.D.Disk.faults c.args.desk.now.disk) (g.D.Disk.faults c.resume-answer.new.self.disk) c.args.id c.args.slices c.resume-answer.result c.course_of_resume.result c.course_of_resume.ensures c.resume-answer.ensures.cause
