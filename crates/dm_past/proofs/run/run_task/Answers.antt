use Rattle.dm_store.specs.Origin.{said_of}
use Rattle.dm_past.specs.Past.{past_of}
use Rattle.dm_past.specs.Tasks.{Does}
use Rattle.dm_past.proofs.Left.{task_tells}
use Rattle.dm_past.proofs.Whole.{task_runs}
use Rattle.dm_past.proofs.run.run_task.Goals as goal

pub returns : goal.returns
returns g c net_faults closed =
    let ran = task_runs g.D.Disk.tells g.K.Keeper.tells g.D.Disk.history g.D.Disk.faults g.D.Disk.far (λ o. said_of (g.O.Origin.says o)) c.args.origin (Does g.K.Keeper.tells c.args.task) (task_tells g.K.Keeper.tells c.args.task) c.now-at.result
    c.args.disk (past_of g.K.Keeper.rows g.K.Keeper.faults c.args.keeper.now) (past_of g.K.Keeper.rows g.K.Keeper.faults c.run_opened-ending.new.keeper) c.run_opened-ending.result.ending net_faults closed c.run_opened-ending.result.disk c.run_opened-ending.ensures in
    record {
      said = c.run_opened-ending.result.ending;
      run = ran.run;
      at = c.now-at.result;
      at_is = c.now-at.ensures;
      prints = c.print_ending-status.ensures;
      answers = ran.answers;
      later = ran.later;
      past_later = ran.past_later;
      leaves = ran.leaves;
      keeps = ran.keeps;
      shows = ran.shows;
    }
