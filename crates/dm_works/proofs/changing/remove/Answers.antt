use Rattle.dm_store.specs.Origin.{said_of}
use Rattle.std.proofs.Common.{true, sym, subst}
use Rattle.dm_types.specs.declared.entry.Entry.TheVariants as entries
use Rattle.dm_answers.specs.Change.{in_no_phase}
use Rattle.dm_works.specs.Deciding.{DecidesNow}
use Rattle.dm_works.proofs.Calling.{change_moved}
use Rattle.dm_works.proofs.Settling.{remove_now}
use Rattle.dm_works.proofs.Stepping.{steps_files}
use Rattle.dm_works.proofs.changing.remove.Goals as goal

pub returns-clause-decides : goal.returns-clause-decides
returns-clause-decides g c at =
    subst (DecidesNow g.D.Disk.faults true _ c.args.desk.now c.remove-answer.new.self) (sym c.by_change.ensures)
    (remove_now g.D.Disk.tells g.D.Disk.history g.D.Disk.faults c.args.desk.now c.remove-answer.new.self at c.args.id c.remove-answer.result c.remove-answer.ensures.answers c.remove-answer.ensures.cause)

pub returns-clause-steps : goal.returns-clause-steps
returns-clause-steps g c =
    steps_files g.D.Disk.tells g.D.Disk.history g.D.Disk.faults g.D.Disk.far (λ o. said_of (g.O.Origin.says o)) c.args.desk.now c.remove-answer.new.self
    (change_moved in_no_phase (entries.Removed c.args.id) c.args.id c.args.desk.now c.remove-answer.new.self c.remove-answer.result tt c.remove-answer.ensures.answers)
    c.remove-answer.ensures.keeps c.remove-answer.ensures.beside c.remove-answer.ensures.cause.later c.remove-answer.ensures.far
