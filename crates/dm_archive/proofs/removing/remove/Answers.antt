use Rattle.std.proofs.Common.{refl}
use Rattle.dm_archive.proofs.Leaves.{behind_cause, remove_err, remove_ok}
use Rattle.dm_archive.proofs.removing.remove.Goals as goal

pub returns-in-Ok-clause-answers : goal.returns-in-Ok-clause-answers
returns-in-Ok-clause-answers g c = remove_ok c.args.id c.args.desk.now c.remove.new.self g.K.Keeper.tells (g.K.Keeper.rows c.args.keeper.now) (g.K.Keeper.rows c.args.keeper.now) c.in-Ok.ensures.answers (λ knows. refl)

pub returns-in-Err-clause-answers : goal.returns-in-Err-clause-answers
returns-in-Err-clause-answers g c =
    remove_err c.args.id c.args.desk.now c.remove.new.self g.K.Keeper.tells (g.K.Keeper.rows c.args.keeper.now) (g.K.Keeper.rows c.behind.new.keeper) c.behind.result c.in-Err.fault c.in-Err.ensures.answers c.behind.ensures.answers

pub returns-in-Err-clause-cause : goal.returns-in-Err-clause-cause
returns-in-Err-clause-cause g c =
    behind_cause (g.D.Disk.faults c.args.desk.now.disk) (g.D.Disk.faults c.remove.new.self.disk) g.K.Keeper.tells c.args.id (g.K.Keeper.rows c.args.keeper.now) (g.K.Keeper.rows c.behind.new.keeper) c.in-Err.fault c.behind.result c.behind.ensures.answers
    c.in-Err.ensures.cause
