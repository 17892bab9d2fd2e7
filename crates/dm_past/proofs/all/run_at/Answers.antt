use Rattle.dm_brings.specs.Bringing.{brings_of}
use Rattle.dm_store.specs.Origin.{said_of}
use Rattle.dm_list.specs.Completing.{Completes}
use Rattle.dm_list.specs.Running.{world_of}
use Rattle.dm_past.specs.Past.{past_of}
use Rattle.dm_past.proofs.Asking.{either_all, task_all}
use Rattle.dm_past.proofs.all.run_at.Goals as goal

pub returns-in-Some : goal.returns-in-Some
returns-in-Some g c =
    task_all (Completes g.D.Disk.tells g.D.Disk.history (λ o. said_of (g.N.O.Origin.says o)) g.D.Disk.far g.D.Disk.faults g.N.Net.tells (g.N.Net.origin_of c.args.net.now) c.args.disk c.run_opened.result.disk (g.N.Net.closed c.args.net.now) (g.N.Net.closed c.args.net.now) (g.N.Net.faults c.args.net.now) (g.N.Net.faults c.args.net.now) c.args.words.now c.args.at c.run_opened.result.ending)
    (brings_of g.D.Disk.tells g.D.Disk.history (λ o. said_of (g.N.O.Origin.says o)) g.D.Disk.far g.D.Disk.faults g.N.Net.tells) g.D.Disk.tells g.K.Keeper.tells g.D.Disk.history g.D.Disk.faults g.D.Disk.far (λ o. said_of (g.N.O.Origin.says o))
    c.origin.result (g.N.Net.origin_of c.args.net.now) c.args.words.now c.in-Some.task c.args.at c.args.disk c.run_opened.result.disk (past_of g.K.Keeper.rows g.K.Keeper.faults c.args.keeper.now)
    (past_of g.K.Keeper.rows g.K.Keeper.faults c.run_opened.new.keeper) c.run_opened.result.ending (g.N.Net.faults c.args.net.now) (g.N.Net.closed c.args.net.now) c.origin.ensures c.in-Some.ensures.some c.run_opened.ensures

pub returns-in-None : goal.returns-in-None
returns-in-None g c =
    either_all (Completes g.D.Disk.tells g.D.Disk.history (λ o. said_of (g.N.O.Origin.says o)) g.D.Disk.far g.D.Disk.faults g.N.Net.tells (g.N.Net.origin_of c.args.net.now) c.args.disk c.run_words.result.disk (g.N.Net.closed c.args.net.now) (g.N.Net.closed c.run_words.new.net) (g.N.Net.faults c.args.net.now) (g.N.Net.faults c.run_words.new.net) c.args.words.now c.args.at c.run_words.result.ending)
    (brings_of g.D.Disk.tells g.D.Disk.history (λ o. said_of (g.N.O.Origin.says o)) g.D.Disk.far g.D.Disk.faults g.N.Net.tells) g.D.Disk.tells g.K.Keeper.tells (said_of (g.N.O.Origin.says (g.N.Net.origin_of c.args.net.now))) c.args.words.now c.args.at
    (world_of g.D.Disk.history g.D.Disk.faults (g.N.Net.faults c.args.net.now) (g.N.Net.closed c.args.net.now) c.args.disk) (world_of g.D.Disk.history g.D.Disk.faults (g.N.Net.faults c.run_words.new.net) (g.N.Net.closed c.run_words.new.net) c.run_words.result.disk)
    (past_of g.K.Keeper.rows g.K.Keeper.faults c.args.keeper.now) (past_of g.K.Keeper.rows g.K.Keeper.faults c.run_words.new.keeper) (g.D.Disk.far c.args.disk) (g.D.Disk.far c.run_words.result.disk) c.run_words.result.ending c.in-None.ensures.none c.run_words.ensures
