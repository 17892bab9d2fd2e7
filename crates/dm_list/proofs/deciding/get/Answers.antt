use Rattle.dm_store.specs.Origin.{said_of}
use Rattle.dm_list.proofs.Courses.{get_shows, goes_from, goes_still, known_decided, new_decided, refused_decided, shows_from, whole_from}
use Rattle.dm_list.proofs.deciding.get.Goals as goal

pub returns-in-Ok-New-clause-decides : goal.returns-in-Ok-New-clause-decides
returns-in-Ok-New-clause-decides g c = new_decided c.args.desk.now c.add.new.self c.args.order c.args.slices c.args.at c.in-Ok-New.id (rw c.in-Ok-New.field-0-is at c.in-Ok-New.ensures.answers)

pub returns-in-Ok-New-clause-goes : goal.returns-in-Ok-New-clause-goes
returns-in-Ok-New-clause-goes g c =
    goes_still g.D.Disk.tells g.D.Disk.history g.D.Disk.faults g.D.Disk.far (λ o. said_of (g.O.Origin.says o)) c.args.desk.now c.add.new.self c.in-Ok-New.ensures.keeps c.in-Ok-New.ensures.beside c.in-Ok-New.ensures.cause.later c.in-Ok-New.ensures.far

pub go_on-requires-clause-whole : goal.go_on-requires-clause-whole
go_on-requires-clause-whole g c = whole_from c.args.desk.now c.add.new.self (rw c.in-Ok-Same.field-0-is at c.in-Ok-Same.ensures.answers).same c.requires.whole

pub returns-in-Ok-Same-clause-decides : goal.returns-in-Ok-Same-clause-decides
returns-in-Ok-Same-clause-decides g c =
    known_decided g.D.Disk.tells g.D.Disk.history c.args.desk.now c.add.new.self c.go_on.new.desk c.args.order c.args.slices c.args.at c.in-Ok-Same.id c.go_on.result c.requires.desk
    (rw c.in-Ok-Same.field-0-is at c.in-Ok-Same.ensures.answers) c.go_on.ensures.decides

pub returns-in-Ok-Same-clause-goes : goal.returns-in-Ok-Same-clause-goes
returns-in-Ok-Same-clause-goes g c =
    goes_from g.D.Disk.tells g.D.Disk.history g.D.Disk.faults g.D.Disk.far (λ o. said_of (g.O.Origin.says o)) c.args.desk.now c.add.new.self c.go_on.new.desk (rw c.in-Ok-Same.field-0-is at c.in-Ok-Same.ensures.answers).same c.go_on.ensures.goes

pub returns-in-Ok-Same-clause-shows : goal.returns-in-Ok-Same-clause-shows
returns-in-Ok-Same-clause-shows g c =
    shows_from g.D.Disk.faults c.args.desk.now c.add.new.self c.go_on.new.desk c.go_on.result (rw c.in-Ok-Same.field-0-is at c.in-Ok-Same.ensures.answers).same c.go_on.ensures.shows

pub returns-in-Err-clause-decides : goal.returns-in-Err-clause-decides
returns-in-Err-clause-decides g c =
    refused_decided g.D.Disk.tells g.D.Disk.history c.args.desk.now c.add.new.self c.args.order c.args.slices c.args.at c.in-Err.fault c.course_of_fault.result c.requires.desk c.requires.whole c.in-Err.ensures.answers c.course_of_fault.ensures

pub returns-in-Err-clause-goes : goal.returns-in-Err-clause-goes
returns-in-Err-clause-goes g c =
    goes_still g.D.Disk.tells g.D.Disk.history g.D.Disk.faults g.D.Disk.far (λ o. said_of (g.O.Origin.says o)) c.args.desk.now c.add.new.self c.in-Err.ensures.keeps c.in-Err.ensures.beside c.in-Err.ensures.cause.later c.in-Err.ensures.far

pub returns-in-Err-clause-shows : goal.returns-in-Err-clause-shows
returns-in-Err-clause-shows g c = get_shows (g.D.Disk.faults c.args.desk.now.disk) (g.D.Disk.faults c.add.new.self.disk) c.in-Err.fault c.course_of_fault.result c.course_of_fault.ensures c.in-Err.ensures.cause.cause
