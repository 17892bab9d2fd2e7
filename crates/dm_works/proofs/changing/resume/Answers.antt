use Rattle.dm_store.specs.Origin.{said_of}
use Rattle.std.proofs.Common.{true, sym, subst}
use Rattle.dm_types.specs.declared.entry.Entry.TheVariants as entries
use Rattle.dm_answers.specs.Change.{is_under_way}
use Rattle.dm_works.specs.Deciding.{DecidesNow}
use Rattle.dm_works.proofs.Calling.{change_moved}
use Rattle.dm_works.proofs.Settling.{resume_now}
use Rattle.dm_works.proofs.Stepping.{steps_files}
use Rattle.dm_works.proofs.changing.resume.Goals as goal

pub returns-clause-decides : goal.returns-clause-decides
returns-clause-decides g c at =
    subst (DecidesNow g.D.Disk.faults true _ c.args.desk.now c.resume-answer.new.self) (sym c.by_change.ensures)
    (resume_now g.D.Disk.tells g.D.Disk.history g.D.Disk.faults c.args.desk.now c.resume-answer.new.self at c.args.id c.args.slices c.resume-answer.result c.resume-answer.ensures.answers c.resume-answer.ensures.cause)

pub returns-clause-steps : goal.returns-clause-steps
returns-clause-steps g c =
    steps_files g.D.Disk.tells g.D.Disk.history g.D.Disk.faults g.D.Disk.far (λ o. said_of (g.O.Origin.says o)) c.args.desk.now c.resume-answer.new.self
    (change_moved is_under_way (entries.Asked c.args.id) c.args.id c.args.desk.now c.resume-answer.new.self c.resume-answer.result tt c.resume-answer.ensures.answers)
    c.resume-answer.ensures.keeps c.resume-answer.ensures.beside c.resume-answer.ensures.cause.later c.resume-answer.ensures.far
