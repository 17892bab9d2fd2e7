use Rattle.dm_store.specs.Origin.{said_of}
use Rattle.dm_list.proofs.Going.{swept_broken, swept_goes, swept_went}
use Rattle.dm_list.proofs.working.sweep.Goals as goal

pub returns-clause-went : goal.returns-clause-went
returns-clause-went g c =
    swept_went g.D.Disk.tells g.D.Disk.history c.args.desk.now c.sweep-passed_over.new.self c.sweep-passed_over.result c.requires.desk c.sweep-passed_over.ensures.answers

pub returns-clause-stays : goal.returns-clause-stays
returns-clause-stays g c = swept_broken g.D.Disk.tells g.D.Disk.history c.args.desk.now c.sweep-passed_over.new.self c.sweep-passed_over.result c.sweep-passed_over.ensures.answers

pub returns-clause-goes : goal.returns-clause-goes
returns-clause-goes g c =
    swept_goes g.D.Disk.tells g.D.Disk.history g.D.Disk.faults g.D.Disk.far (λ o. said_of (g.O.Origin.says o)) c.args.desk.now c.sweep-passed_over.new.self c.sweep-passed_over.ensures.keeps c.sweep-passed_over.ensures.beside c.sweep-passed_over.ensures.cause.later c.sweep-passed_over.ensures.far

pub returns-clause-swept : goal.returns-clause-swept
returns-clause-swept g c = record { answer = c.sweep-passed_over.result; answers = c.sweep-passed_over.ensures.answers; cause = c.sweep-passed_over.ensures.cause }
