use Rattle.dm_past.specs.Past.{past_of}
use Rattle.dm_past.proofs.Moved.{moved_all, moved_some}
use Rattle.dm_past.proofs.working.archive.Goals as goal

pub returns-in-Ok-clause-worked : goal.returns-in-Ok-clause-worked
returns-in-Ok-clause-worked g c =
    moved_all g.K.Keeper.tells g.D.Disk.faults c.args.desk.now c.archive_all.new.desk (past_of g.K.Keeper.rows g.K.Keeper.faults c.args.keeper.now) (past_of g.K.Keeper.rows g.K.Keeper.faults c.archive_all.new.keeper) c.requires.whole
    c.in-Ok.count c.say_moved.result c.in-Ok.ensures.answers c.say_moved.ensures

pub returns-in-Err-clause-worked : goal.returns-in-Err-clause-worked
returns-in-Err-clause-worked g c =
    moved_some g.K.Keeper.tells g.D.Disk.faults c.args.desk.now c.archive_all.new.desk (past_of g.K.Keeper.rows g.K.Keeper.faults c.args.keeper.now) (past_of g.K.Keeper.rows g.K.Keeper.faults c.archive_all.new.keeper) c.requires.whole
    c.in-Err.fault c.say_archive.result c.in-Err.ensures.answers c.say_archive.ensures c.in-Err.ensures.cause c.in-Err.ensures.history
