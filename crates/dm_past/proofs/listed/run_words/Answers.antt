use Rattle.dm_brings.specs.Bringing.{brings_of}
use Rattle.dm_store.specs.Origin.{said_of}
use Rattle.dm_list.specs.Completing.{Completes}
use Rattle.dm_list.proofs.Runs.{refused_fixed}
use Rattle.dm_past.specs.Past.{past_of}
use Rattle.dm_past.proofs.Chosen.{listed_runs, well_closed, words_kept}
use Rattle.dm_past.proofs.listed.run_words.Goals as goal

pub fixed-requires : goal.fixed-requires
fixed-requires g c = refused_fixed c.args.words.now c.in-Err.verdict c.in-Err.ensures.refused

pub returns-in-Ok : goal.returns-in-Ok
returns-in-Ok g c =
    let K = g.K.Keeper in
    listed_runs g.D.Disk.tells K.tells g.D.Disk.history g.D.Disk.faults g.D.Disk.far (λ o. said_of (g.N.O.Origin.says o)) g.N.Net.tells (g.N.Net.origin_of c.args.net.now) c.args.words.now c.in-Ok.job c.in-Ok.ensures.ok c.args.at c.args.disk
    (g.N.Net.closed c.args.net.now) (g.N.Net.faults c.args.net.now) (past_of K.rows K.faults c.args.keeper.now) (past_of K.rows K.faults c.run_opened_or_answer.new.keeper) c.run_opened_or_answer.result.ending
    c.run_opened_or_answer.result.disk (g.N.Net.closed c.run_opened_or_answer.new.net) (g.N.Net.faults c.run_opened_or_answer.new.net) c.run_opened_or_answer.ensures

pub returns-in-Err : goal.returns-in-Err
returns-in-Err g c =
    words_kept (Completes g.D.Disk.tells g.D.Disk.history (λ o. said_of (g.N.O.Origin.says o)) g.D.Disk.far g.D.Disk.faults g.N.Net.tells (g.N.Net.origin_of c.args.net.now) c.args.disk c.args.disk (g.N.Net.closed c.args.net.now) (g.N.Net.closed c.args.net.now) (g.N.Net.faults c.args.net.now) (g.N.Net.faults c.args.net.now) c.args.words.now c.args.at c.fixed.result)
    (well_closed g.D.Disk.tells g.D.Disk.history g.D.Disk.faults g.D.Disk.far (λ o. said_of (g.N.O.Origin.says o)) g.N.Net.tells (g.N.Net.origin_of c.args.net.now) c.args.words.now c.args.at c.args.disk c.args.disk (g.N.Net.closed c.args.net.now) (g.N.Net.closed c.args.net.now)
    (g.N.Net.faults c.args.net.now) (g.N.Net.faults c.args.net.now) c.fixed.result)
    (brings_of g.D.Disk.tells g.D.Disk.history (λ o. said_of (g.N.O.Origin.says o)) g.D.Disk.far g.D.Disk.faults g.N.Net.tells) g.D.Disk.tells g.K.Keeper.tells g.D.Disk.history g.D.Disk.faults g.D.Disk.far
    (said_of (g.N.O.Origin.says (g.N.Net.origin_of c.args.net.now))) c.args.words.now c.args.at c.args.disk (past_of g.K.Keeper.rows g.K.Keeper.faults c.args.keeper.now) c.fixed.result (g.N.Net.faults c.args.net.now) (g.N.Net.closed c.args.net.now)
    c.in-Err.verdict c.in-Err.ensures.refused c.fixed.ensures
