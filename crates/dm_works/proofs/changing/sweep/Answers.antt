use Rattle.dm_types.specs.Name.{IsPart}
use Rattle.dm_disk_model.proofs.Beside.{besides_more}
use Rattle.dm_answers.specs.Sweep.{IsLeftover}
use Rattle.dm_works.proofs.Calling.{leftover_part, sweep_moved, swept_none}
use Rattle.dm_works.proofs.changing.sweep.Goals as goal

pub returns-clause-still : goal.returns-clause-still
returns-clause-still g c = swept_none g.D.Disk.tells g.D.Disk.history c.args.desk.now c.sweep-passed_over.new.self c.sweep-passed_over.result c.requires.desk c.sweep-passed_over.ensures.answers

pub returns-clause-steps : goal.returns-clause-steps
returns-clause-steps g c = record {
  moved = sweep_moved g.D.Disk.tells g.D.Disk.history c.args.desk.now c.sweep-passed_over.new.self c.sweep-passed_over.result c.requires.desk c.sweep-passed_over.ensures.answers;
  keeps = c.sweep-passed_over.ensures.keeps;
  beside = λ told. besides_more (IsLeftover c.args.desk.now.items) IsPart (g.D.Disk.history c.args.desk.now.disk) (g.D.Disk.history c.sweep-passed_over.new.self.disk) (leftover_part c.args.desk.now.items) (c.sweep-passed_over.ensures.beside told);
  later = c.sweep-passed_over.ensures.cause.later;
  near = c.sweep-passed_over.ensures.far;
}
