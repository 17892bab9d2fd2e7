use Rattle.std.proofs.Common.{true, sym, subst}
use Rattle.dm_works.specs.Deciding.{DecidesNow}
use Rattle.dm_works.proofs.Calling.{pause_moved}
use Rattle.dm_works.proofs.Pausing.{pause_now}
use Rattle.dm_works.proofs.changing.pause.Goals as goal

pub returns-clause-decides : goal.returns-clause-decides
returns-clause-decides g c at =
    subst (DecidesNow g.D.Disk.faults true _ c.args.desk.now c.pause-answer.new.self) (sym c.by_change.ensures)
    (pause_now g.D.Disk.faults c.args.desk.now c.pause-answer.new.self c.args.id c.pause-answer.result c.pause-answer.ensures.answers c.pause-answer.ensures.cause)

pub returns-clause-steps : goal.returns-clause-steps
returns-clause-steps g c =
    record {
      moved = pause_moved g.D.Disk.faults c.args.desk.now c.pause-answer.new.self c.args.id c.pause-answer.result c.pause-answer.ensures.answers;
      keeps = c.pause-answer.ensures.keeps;
      beside = c.pause-answer.ensures.beside;
      later = c.pause-answer.ensures.cause.later;
      near = c.pause-answer.ensures.far;
    }
