use Rattle.dm_store.specs.Origin.{said_of}
use Rattle.std.proofs.Common.{true, sym, subst}
use Rattle.dm_works.specs.Deciding.{DecidesNow}
use Rattle.dm_works.proofs.Calling.{add_moved}
use Rattle.dm_works.proofs.Settling.{add_now}
use Rattle.dm_works.proofs.Stepping.{steps_files}
use Rattle.dm_works.proofs.changing.add.Goals as goal

pub returns-clause-decides : goal.returns-clause-decides
returns-clause-decides g c =
    subst (DecidesNow g.D.Disk.faults true _ c.args.desk.now c.add-answer.new.self) (sym c.by_order.ensures)
    (add_now g.D.Disk.tells g.D.Disk.history g.D.Disk.faults c.args.desk.now c.add-answer.new.self c.args.at c.args.order c.add-answer.result c.requires.desk c.add-answer.ensures.answers c.add-answer.ensures.cause)

pub returns-clause-steps : goal.returns-clause-steps
returns-clause-steps g c =
    steps_files g.D.Disk.tells g.D.Disk.history g.D.Disk.faults g.D.Disk.far (λ o. said_of (g.O.Origin.says o)) c.args.desk.now c.add-answer.new.self
    (add_moved c.args.desk.now c.add-answer.new.self c.args.order c.args.at c.add-answer.result c.add-answer.ensures.answers)
    c.add-answer.ensures.keeps c.add-answer.ensures.beside c.add-answer.ensures.cause.later c.add-answer.ensures.far
